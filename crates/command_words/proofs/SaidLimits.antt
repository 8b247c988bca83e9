-- The limits that words say.
use Rattle.std.proofs.Common.{◌≡◌, ℕ, List, arith, ◌∙◌, ap, subst, inl, inr}
use Rattle.std.specs.List.{Contains}
use Rattle.std.proofs.lemmas.Bool.{cases_order}
use Rattle.command_words.specs.declared.settings.Limits.{Limits}
use Rattle.command_words.specs.declared.settings.Setting.{Setting}
use Rattle.command_words.specs.declared.settings.Setting.TheVariants.{Fuel, Net}
use Rattle.command_words.specs.Limits.{default_fuel, default_net}
use Rattle.command_words.specs.Settings.{AreLimits, IsLimit, GiveLimits}
use Rattle.command_words.proofs.SettingWords.{one_list}

-- a limit is one number: were there two, none would be set, and both were the default one
one_limit : (ss : List Setting) (set : ℕ → Setting) (default m n : ℕ) → IsLimit ss set default m → IsLimit ss set default n → m ≡ n
one_limit ss set default m n x y = elim (cases_order m n) [
  | inl e ↦ e
  | inr apart ↦ absurd (
      let none : (k : ℕ) → Contains ss (set k) → ⊥ = λ k at. let a = x.given k at in let b = y.given k at in omega arith in
      let a = x.else_default none in
      let b = y.else_default none in
      omega arith)
]

-- words say the limits of one list of settings
pub one_limits : (words : List (List ℕ)) (a b : Limits) → GiveLimits words a → GiveLimits words b → a ≡ b
one_limits words a b x y =
    let same : AreLimits x.settings b = subst (λ (ss : List Setting). AreLimits ss b) (one_list words y.settings x.settings y.are x.are) y.left in
    let fuels : a.fuel ≡ b.fuel = one_limit x.settings Fuel default_fuel a.fuel b.fuel x.left.fuel same.fuel in
    let nets : a.net ≡ b.net = one_limit x.settings Net default_net a.net b.net x.left.net same.net in
    let limits : ℕ → ℕ → Limits = λ f n. record { fuel = f; net = n } in
    ap (λ f. limits f a.net) fuels ∙ ap (limits b.fuel) nets
