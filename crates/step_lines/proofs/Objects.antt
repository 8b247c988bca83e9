-- What a step is done to, in the parts of a line: a word where it loads, and never two parts.
use Rattle.std.proofs.Common.{◌≡◌, ℕ, List, [], ◌∷◌, length, true, false, sym, ap, ◌∙◌, subst, refl, arith}
use Rattle.std.specs.Prelude.{codes, Option, Some, None, IfSome, IsNone, option_map, MatchOption, IsSomeAnd}
use Rattle.std.specs.List.{slice_split}
use Rattle.std.specs.Str.{bytes_eq}
use Rattle.std.proofs.lemmas.List.Splits.{length-slice_split}
use Rattle.agent_core.specs.Programs.{CoreProgram}
use Rattle.instant_net.specs.Nets.{Flat}
use Rattle.instant_core.specs.declared.step.CoreStep.{CoreStep}
use Rattle.instant_core.specs.declared.step.CoreStep.TheVariants.{Load}
use Rattle.step_lines.specs.WordNames.{NamesWord}
use Rattle.step_lines.specs.StepLines.{action_of, Object, Nothing, Numbered, Word, object_of, SaysObject, IsStepWith, IsStepLine, is_space}
use Rattle.step_lines.proofs.OneStep.{is_word, loads}

module _ (p : CoreProgram) (net : Flat) where
  -- LOADS

  apart : false ≡ true → ⊥
  apart e = cc

  -- a part that says a word names it
  word_said : (text : List ℕ) (o : Object) → is_word o ≡ true → SaysObject p net (text ∷ []) o → (word : ℕ) × NamesWord p net.cells text word
  word_said text Nothing e says = absurd (apart e)
  word_said text (Numbered n) e says = absurd (apart e)
  word_said text (Word word) e (other, parts, names) = (word, subst (λ (x : List ℕ). NamesWord p net.cells x word) (let same : other ≡ text = cc in same) names)

  module _ (worker : ℕ) (action text : List ℕ) (is : action ≡ codes "load") where
    -- the load of a word that the text names
    pub load_said : (found : Option ℕ) → IfSome found (NamesWord p net.cells text) → IfSome (option_map (Load worker) found) (IsStepWith p net worker action (text ∷ []))
    load_said (Some word) names = record { who = refl; does = sym is; what = (text, refl, names) }
    load_said None names = tt

    -- and no other step is said
    pub load_unsaid : (found : Option ℕ) → (IsNone found → (word : ℕ) → NamesWord p net.cells text word → ⊥) → IsNone (option_map (Load worker) found) → (step : CoreStep)
        → IsStepWith p net worker action (text ∷ []) step → ⊥
    load_unsaid (Some word) none e step with = absurd (cc)
    load_unsaid None none e step with =
        let (word, names) = word_said text (object_of step) (sym (loads step) ∙ ap (λ (x : List ℕ). bytes_eq x (codes "load")) (with.does ∙ is)) with.what in none e word names

    -- loads, as they are made of words
    pub loads_made : {Made : ℕ → CoreStep → Type 0} → ((word : ℕ) (step : CoreStep) → Made word step → step ≡ Load worker word) → (found : Option ℕ) (steps : Option CoreStep)
        → MatchOption found (steps ≡ None) (λ word. IsSomeAnd steps (Made word)) → steps ≡ option_map (Load worker) found
    loads_made made (Some word) (Some step) h = ap Some (made word step h)
    loads_made made (Some word) None h = absurd h
    loads_made made None steps h = h

  -- PARTS

  -- an object is one part at most
  one_part : (o : Object) (text : List ℕ) (rest : List (List ℕ)) → (rest ≡ [] → ⊥) → SaysObject p net (text ∷ rest) o → ⊥
  one_part Nothing text rest more says = absurd (cc)
  one_part (Numbered n) text rest more (other, parts, is) = more (cc)
  one_part (Word word) text rest more (other, parts, is) = more (cc)

  no_parts : (text : List ℕ) → slice_split is_space text ≡ [] → ⊥
  no_parts text e = let long = length-slice_split is_space text in let none : length (slice_split is_space text) ≡ 0 = ap length e in absurd (omega arith)

  pub four_parts : (line number behind action text third fourth : List ℕ) → slice_split is_space line ≡ number ∷ slice_split is_space behind → slice_split is_space behind ≡ action ∷ slice_split is_space text
      → slice_split is_space text ≡ third ∷ slice_split is_space fourth → (step : CoreStep) → IsStepLine p net line step → ⊥
  four_parts line number behind action text third fourth first second last step says =
      let parts : number ∷ slice_split is_space behind ≡ says.number ∷ action_of step ∷ says.behind = sym first ∙ says.all in
      let two : slice_split is_space behind ≡ action_of step ∷ says.behind = cc in
      let one : action ∷ slice_split is_space text ≡ action_of step ∷ says.behind = sym second ∙ two in
      let left : slice_split is_space text ≡ says.behind = cc in
      one_part (object_of step) third (slice_split is_space fourth) (no_parts fourth) (subst (λ (x : List (List ℕ)). SaysObject p net x (object_of step)) (sym left ∙ last) says.object)
