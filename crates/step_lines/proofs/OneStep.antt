-- A step is made of its worker, its action and its object, and a line says one step at most.
use Rattle.std.proofs.Common.{◌≡◌, ℕ, List, [], ◌∷◌, Bool, true, false, refl, ap, sym, ◌∙◌, subst}
use Rattle.std.specs.Prelude.{codes, Some, if◌then◌else◌}
use Rattle.std.specs.List.{slice_split}
use Rattle.std.specs.Str.{bytes_eq}
use Rattle.names_and_numbers.specs.Numbers.{natural_of_text}
use Rattle.agent_core.specs.Programs.{CoreProgram}
use Rattle.instant_net.specs.Nets.{Flat}
use Rattle.instant_core.specs.declared.step.CoreStep.{CoreStep}
use Rattle.instant_core.specs.declared.step.CoreStep.TheVariants.{Load, Seek, Announce, Claim, Post, Finish, Count, Phase, Raise, Split, Join}
use Rattle.step_lines.specs.StepLines.{worker_of, action_of, Object, Nothing, Numbered, Word, object_of, SaysObject, SaysStep, is_space}
use Rattle.step_lines.specs.WordNames.{NamesWord}
use Rattle.step_lines.specs.Laws.{HaveOwnNames, LinesSayOneStep}
use Rattle.step_lines.proofs.OneWord.{one_word}

-- the step of this action, worker and object, where there is one
abbrev made : List ℕ → ℕ → Object → CoreStep
made action worker (Word word) = Load worker word
made action worker Nothing =
    if bytes_eq action (codes "post") then Post worker else (if bytes_eq action (codes "finish") then Finish worker else (if bytes_eq action (codes "count") then Count worker else Phase worker))
made action worker (Numbered n) =
    if bytes_eq action (codes "seek") then Seek worker n else (if bytes_eq action (codes "announce") then Announce worker n else (if bytes_eq action (codes "claim") then Claim worker n
    else (if bytes_eq action (codes "raise") then Raise worker n else (if bytes_eq action (codes "split") then Split worker n else Join worker n))))

made_again : (s : CoreStep) → made (action_of s) (worker_of s) (object_of s) ≡ s
made_again (Load worker word) = refl
made_again (Seek worker leaf) = refl
made_again (Announce worker leaf) = refl
made_again (Claim worker leaf) = refl
made_again (Post worker) = refl
made_again (Finish worker) = refl
made_again (Count worker) = refl
made_again (Phase worker) = refl
made_again (Raise worker phase) = refl
made_again (Split worker other) = refl
made_again (Join worker other) = refl

pub same_step : (a b : CoreStep) → worker_of a ≡ worker_of b → action_of a ≡ action_of b → object_of a ≡ object_of b → a ≡ b
same_step a b worker action object =
    sym (made_again a) ∙ ap (λ (t : List ℕ). made t (worker_of a) (object_of a)) action ∙ ap (λ (n : ℕ). made (action_of b) n (object_of a)) worker ∙ ap (made (action_of b) (worker_of b)) object ∙ made_again b

-- the object is a word
abbrev pub is_word : Object → Bool
is_word Nothing = false
is_word (Numbered n) = false
is_word (Word word) = true

-- which the action decides
pub loads : (s : CoreStep) → bytes_eq (action_of s) (codes "load") ≡ is_word (object_of s)
loads (Load worker word) = refl
loads (Seek worker leaf) = refl
loads (Announce worker leaf) = refl
loads (Claim worker leaf) = refl
loads (Post worker) = refl
loads (Finish worker) = refl
loads (Count worker) = refl
loads (Phase worker) = refl
loads (Raise worker phase) = refl
loads (Split worker other) = refl
loads (Join worker other) = refl

apart : false ≡ true → ⊥
apart e = cc

not_empty : (text : List ℕ) → ◌≡◌ {A = List (List ℕ)} [] (text ∷ []) → ⊥
not_empty text e = cc

module _ (p : CoreProgram) (net : Flat) (own : HaveOwnNames p net.cells) where
  one_object : (parts : List (List ℕ)) (a b : Object) → is_word a ≡ is_word b → SaysObject p net parts a → SaysObject p net parts b → a ≡ b
  one_object parts Nothing Nothing kind s t = refl
  one_object parts Nothing (Numbered n) kind s (text, t, n_is) = absurd (not_empty text (sym s ∙ t))
  one_object parts Nothing (Word w) kind s t = absurd (apart kind)
  one_object parts (Numbered m) Nothing kind (text, s, m_is) t = absurd (not_empty text (sym t ∙ s))
  one_object parts (Numbered m) (Numbered n) kind (text, s, m_is) (other, t, n_is) = let w : text ∷ [] ≡ other ∷ [] = sym s ∙ t in cc
  one_object parts (Numbered m) (Word w) kind s t = absurd (apart kind)
  one_object parts (Word v) Nothing kind s t = absurd (apart (sym kind))
  one_object parts (Word v) (Numbered n) kind s t = absurd (apart (sym kind))
  one_object parts (Word v) (Word w) kind (text, s, v_is) (other, t, w_is) =
      let parts_are : text ∷ [] ≡ other ∷ [] = sym s ∙ t in
      let same : text ≡ other = cc in ap Word (one_word p net.cells own other v w (subst (λ (x : List ℕ). NamesWord p net.cells x v) same v_is) w_is)

  one_step : (parts : List (List ℕ)) (a b : CoreStep) → SaysStep p net parts a → SaysStep p net parts b → a ≡ b
  one_step parts a b s t =
      let all : s.number ∷ action_of a ∷ s.behind ≡ t.number ∷ action_of b ∷ t.behind = sym s.all ∙ t.all in
      let number : s.number ≡ t.number = cc in
      let action : action_of a ≡ action_of b = cc in
      let behind : s.behind ≡ t.behind = cc in
      let worker : worker_of a ≡ worker_of b = let w : Some (worker_of a) ≡ Some (worker_of b) = sym s.worker ∙ ap natural_of_text number ∙ t.worker in cc in
      let kind : is_word (object_of a) ≡ is_word (object_of b) = sym (loads a) ∙ ap (λ (x : List ℕ). bytes_eq x (codes "load")) action ∙ loads b in
      same_step a b worker action (one_object t.behind (object_of a) (object_of b) kind (subst (λ (x : List (List ℕ)). SaysObject p net x (object_of a)) behind s.object) t.object)

pub lines_say_one_step : LinesSayOneStep
lines_say_one_step p net line a b own = one_step p net own (slice_split is_space line) a b
