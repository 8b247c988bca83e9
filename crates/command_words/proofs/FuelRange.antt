-- A run may have at most the greatest fuel, whatever words say.
use Rattle.std.proofs.Common.{ℕ, ◌≤◌, List, [], ◌∷◌, All, arith, inl, inr}
use Rattle.std.specs.List.{Contains}
use Rattle.std.proofs.lemmas.Bool.{cases_lt}
use Rattle.std.proofs.lemmas.List.Elements.{All-cons, All-contains, All-nil}
use Rattle.command_words.specs.declared.settings.Limits.{Limits}
use Rattle.command_words.specs.declared.settings.Setting.{Setting}
use Rattle.command_words.specs.declared.settings.Setting.TheVariants.{Fuel}
use Rattle.command_words.specs.Limits.{greatest_fuel}
use Rattle.command_words.specs.Settings.{AreSettings, GiveLimits, number_in}
use Rattle.command_words.proofs.Numbers.{number_small}

-- the number of a setting has few digits
abbrev IsSmall : Setting → Type 0
IsSmall s = number_in s ≤ greatest_fuel

all_small : (words : List (List ℕ)) (ss : List Setting) → AreSettings words ss → All IsSmall ss
all_small [] [] x = All-nil IsSmall
all_small (flag ∷ number ∷ words) (s ∷ ss) x = All-cons IsSmall s ss (number_small number (number_in s) x.0.writes) (all_small words ss x.1)
all_small _ _ x = absurd (assumption)

-- the fuel is one that is set, or the default
pub fuel_range : (words : List (List ℕ)) (limits : Limits) → GiveLimits words limits → limits.fuel ≤ greatest_fuel
fuel_range words limits gives = elim (cases_lt greatest_fuel limits.fuel) [
  | inr within ↦ within
  | inl over ↦ absurd (
      let none : (k : ℕ) → Contains gives.settings (Fuel k) → ⊥ = λ k at.
      let is = gives.left.fuel.given k at in
      let most = All-contains IsSmall gives.settings (Fuel k) (all_small words gives.settings gives.are) at in
      omega arith in
      let default = gives.left.fuel.else_default none in
      omega arith)
]
