-- An instant may have at most the most leaves, whatever words say.
use Rattle.std.proofs.Common.{ℕ, ◌≤◌, List, [], ◌∷◌, All, arith, inl, inr}
use Rattle.std.specs.List.{Contains}
use Rattle.std.proofs.lemmas.Bool.{cases_lt}
use Rattle.std.proofs.lemmas.List.Elements.{All-cons, All-contains, All-nil}
use Rattle.command_words.specs.declared.settings.Limits.{Limits}
use Rattle.command_words.specs.declared.settings.Setting.{Setting}
use Rattle.command_words.specs.declared.settings.Setting.TheVariants.{Net}
use Rattle.command_words.specs.Limits.{greatest_net}
use Rattle.command_words.specs.Settings.{AreSettings, IsAllowed, GiveLimits}

-- each setting of words is allowed
all_allowed : (words : List (List ℕ)) (ss : List Setting) → AreSettings words ss → All IsAllowed ss
all_allowed [] [] x = All-nil IsAllowed
all_allowed (flag ∷ number ∷ words) (s ∷ ss) x = All-cons IsAllowed s ss x.0.allowed (all_allowed words ss x.1)
all_allowed _ _ x = absurd (assumption)

-- the limit is one that is set, or the default one
pub net_range : (words : List (List ℕ)) (limits : Limits) → GiveLimits words limits → limits.net ≤ greatest_net
net_range words limits gives = elim (cases_lt greatest_net limits.net) [
  | inr within ↦ within
  | inl over ↦ absurd (
      let none : (k : ℕ) → Contains gives.settings (Net k) → ⊥ = λ k at.
      let is = gives.left.net.given k at in
      let allowed = All-contains IsAllowed gives.settings (Net k) (all_allowed words gives.settings gives.are) at in
      let most = allowed.1 in
      omega arith in
      let default = gives.left.net.else_default none in
      omega arith)
]
