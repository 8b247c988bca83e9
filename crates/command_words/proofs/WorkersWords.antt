-- Words that are none, or those of a number of workers.
use Rattle.std.proofs.Common.{◌≡◌, ℕ, ◌<◌, ◌≤◌, ◌↔◌, List, [], ◌∷◌, length, get_or, map, IsTrue, true, false, arith, refl, subst, inl, inr}
use Rattle.std.proofs.lemmas.Bool.{false≢true}
use Rattle.command_words.specs.declared.settings.Setting.TheVariants.{Workers}
use Rattle.command_words.specs.Settings.{IsSetting}
use Rattle.command_words.specs.Words.{MaySetWorkers}
use Rattle.command_words.proofs.SettingWords.{no_more}

module _ {X : Type 0} (text : X → List ℕ) where
  -- two words that are a number of workers
  pub two_may : (words : List X) (flag number : X) (n : ℕ) → 2 ≤ length words → length words < 3 → flag ≡ get_or words 0 flag → number ≡ get_or words 1 number → IsSetting (text flag) (text number) (Workers n) → IsTrue true ↔ MaySetWorkers (map text words)
  two_may (a ∷ b ∷ []) flag number n long short first second is =
      let is' = subst (λ w. IsSetting (text w) (text number) (Workers n)) first is in
      (λ _. inr (n, (subst (λ w. IsSetting (text a) (text w) (Workers n)) second is', tt)), λ _. refl)
  two_may _ flag number n long short first second is = absurd (omega arith)

  -- two words that are none
  pub two_may_not : (words : List X) (flag number : X) → 2 ≤ length words → length words < 3 → flag ≡ get_or words 0 flag → number ≡ get_or words 1 number → ((n : ℕ) → IsSetting (text flag) (text number) (Workers n) → ⊥) → IsTrue false ↔ MaySetWorkers (map text words)
  two_may_not (a ∷ b ∷ []) flag number long short first second none =
      let none' = subst (λ w. (n : ℕ) → IsSetting (text w) (text number) (Workers n) → ⊥) first none in
      let none'' = subst (λ w. (n : ℕ) → IsSetting (text a) (text w) (Workers n) → ⊥) second none' in
      (λ h. absurd (false≢true h), λ may. elim may [ inl e ↦ absurd (cc) | inr set ↦ absurd (none'' set.0 set.1.0) ])
  two_may_not _ flag number long short first second none = absurd (omega arith)

  -- more words than two
  pub more_may_not : (words : List X) → 3 ≤ length words → IsTrue false ↔ MaySetWorkers (map text words)
  more_may_not (a ∷ b ∷ w ∷ words) long = (λ h. absurd (false≢true h), λ may. elim may [ inl e ↦ absurd (cc) | inr set ↦ absurd (no_more (text w) (map text words) set.1.1) ])
  more_may_not _ long = absurd (omega arith)
