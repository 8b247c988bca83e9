-- The tokens of a value fit its cell, and it stands for them.
use Rattle.std.proofs.Common.{◌≡◌, zero, suc, Bool, true, false, cond, ℤ, List, [], ◌∷◌, refl, sym, ap, subst, arith}
use Rattle.std.specs.Prelude.{◌≤ℤ◌, IsTrue, int_le, int_lt, All}
use Rattle.std.proofs.lemmas.Int.{ints}
use Rattle.std.proofs.lemmas.List.Elements.{Contains-push}
use Rattle.token_system.specs.declared.cell.Kind.{Kind}
use Rattle.token_system.specs.declared.cell.Kind.TheVariants as kinds
use Rattle.token_system.specs.declared.cell.Cell.{Cell}
use Rattle.token_system.specs.declared.cell.Token.{Token}
use Rattle.token_system.specs.declared.cell.Token.TheVariants.{On, Off, AtLeast, AtMost, Clash}
use Rattle.token_system.specs.declared.cell.Value.{Value}
use Rattle.token_system.specs.declared.cell.Value.TheVariants as values
use Rattle.token_system.specs.Domain.{is_cell}
use Rattle.token_system.specs.Tokens.{Fits, fits_kind}
use Rattle.token_system.specs.Values.{value_tokens, IsProper, IsValueOf, StandsFor}
use Rattle.token_system.proofs.Alike.{true_false, within_bound}
use Rattle.token_system.proofs.ByKind.{OfKind, signal, number, clash, of_kind}
use Rattle.token_system.proofs.Sums.{cell_of, SumsUp, clashes, bottom-sums_up, with-sums_up, sum-stands}
use Rattle.std.proofs.Common.{inl}

all_none : {X : Type 0} (P : X → Type 0) → All P []
all_none P k d lt = absurd (omega arith)

all_more : {X : Type 0} (P : X → Type 0) (x : X) (xs : List X) → P x → All P xs → All P (x ∷ xs)
all_more P x xs h g zero d lt = h
all_more P x xs h g (suc k) d lt = g k d (omega arith)

-- the token fits the kind
abbrev Takes : Kind → Token → Type 0
Takes k t = IsTrue (fits_kind k t)

between : (a b c : ℤ) → a ≤ℤ b → b ≤ℤ c → a ≤ℤ c
between a b c p q = grind (arith, ints)

-- a number, once its bounds are told
told_lower : (lo hi a : ℤ) (p q : Bool) → int_le a lo ≡ p → int_lt hi a ≡ q → lo ≤ℤ a → a ≤ℤ hi → cond p (values.Number lo hi) (cond q values.Clash (values.Number a hi)) ≡ values.Number a hi
told_lower lo hi a true q e f l h = let same : lo ≡ a = grind (arith, ints) in ap (λ (x : ℤ). values.Number x hi) same
told_lower lo hi a false true e f l h = absurd (grind (arith, ints))
told_lower lo hi a false false e f l h = refl

told_upper : (lo hi b : ℤ) (p q : Bool) → int_le hi b ≡ p → int_lt b lo ≡ q → lo ≤ℤ b → b ≤ℤ hi → cond p (values.Number lo hi) (cond q values.Clash (values.Number lo b)) ≡ values.Number lo b
told_upper lo hi b true q e f l h = let same : hi ≡ b = grind (arith, ints) in ap (λ (x : ℤ). values.Number lo x) same
told_upper lo hi b false true e f l h = absurd (grind (arith, ints))
told_upper lo hi b false false e f l h = refl

module _ (lo hi : ℤ) where
  signal-told : (l : IsTrue (is_cell kinds.Signal lo hi)) (a b : Bool) → IsProper (values.Signal a b) → SumsUp (cell_of kinds.Signal lo hi l) (value_tokens (values.Signal a b)) kinds.Signal (values.Signal a b)
  signal-told l true true p = absurd (true_false (sym p))
  signal-told l true false p = with-sums_up lo hi kinds.Signal l [] (values.Signal false false) On (bottom-sums_up lo hi kinds.Signal l) refl
  signal-told l false true p = with-sums_up lo hi kinds.Signal l [] (values.Signal false false) Off (bottom-sums_up lo hi kinds.Signal l) refl
  signal-told l false false p = bottom-sums_up lo hi kinds.Signal l

  number-told : (l : IsTrue (is_cell kinds.Number lo hi)) (a b : ℤ) → lo ≤ℤ a → b ≤ℤ hi → a ≤ℤ b → SumsUp (cell_of kinds.Number lo hi l) (value_tokens (values.Number a b)) kinds.Number (values.Number a b)
  number-told l a b la bh ab =
      let fit = within_bound lo a hi b l la ab bh in
      let one : SumsUp (cell_of kinds.Number lo hi l) (AtLeast a ∷ []) kinds.Number (values.Number a hi) =
      subst (SumsUp (cell_of kinds.Number lo hi l) (AtLeast a ∷ []) kinds.Number) (told_lower lo hi a (int_le a lo) (int_lt hi a) refl refl la (between a b hi ab bh))
      (with-sums_up lo hi kinds.Number l [] (values.Number lo hi) (AtLeast a) (bottom-sums_up lo hi kinds.Number l) fit.0) in
      subst (SumsUp (cell_of kinds.Number lo hi l) (AtLeast a ∷ AtMost b ∷ []) kinds.Number) (told_upper a hi b (int_le hi b) (int_lt b a) refl refl ab bh)
      (with-sums_up lo hi kinds.Number l (AtLeast a ∷ []) (values.Number a hi) (AtMost b) one fit.1)

  value-told : (k : Kind) (l : IsTrue (is_cell k lo hi)) (v : Value) → OfKind lo hi k v → IsProper v → SumsUp (cell_of k lo hi l) (value_tokens v) k v
  value-told _ l _ (clash k) p = clashes k (inl (Contains-push [] Clash))
  value-told _ l _ (signal a b) p = signal-told l a b p
  value-told _ l _ (number a b la bh) p = number-told l a b la bh p

  signal-fits : (a b : Bool) → All (Takes kinds.Signal) (value_tokens (values.Signal a b))
  signal-fits true true = all_more (Takes kinds.Signal) On (Off ∷ []) refl (all_more (Takes kinds.Signal) Off [] refl (all_none (Takes kinds.Signal)))
  signal-fits true false = all_more (Takes kinds.Signal) On [] refl (all_none (Takes kinds.Signal))
  signal-fits false true = all_more (Takes kinds.Signal) Off [] refl (all_none (Takes kinds.Signal))
  signal-fits false false = all_none (Takes kinds.Signal)

  value-fits : (k : Kind) (l : IsTrue (is_cell k lo hi)) (v : Value) → OfKind lo hi k v → IsProper v → All (Takes k) (value_tokens v)
  value-fits _ l _ (clash k) p = all_more (Takes k) Clash [] refl (all_none (Takes k))
  value-fits _ l _ (signal a b) p = signal-fits a b
  value-fits _ l _ (number a b la bh) p =
      let fit = within_bound lo a hi b l la p bh in
      all_more (Takes kinds.Number) (AtLeast a) (AtMost b ∷ []) fit.0 (all_more (Takes kinds.Number) (AtMost b) [] fit.1 (all_none (Takes kinds.Number)))

-- the tokens of a value of the cell fit the cell
pub tokens-fit : (c : Cell) (v : Value) → IsValueOf c v → All (Fits c) (value_tokens v)
tokens-fit c v is = value-fits c.lo c.hi c.kind c.lawful v (of_kind c.lo c.hi c.kind v is.domain) is.proper

-- and it stands for them
pub tokens-stand : (c : Cell) (v : Value) → IsValueOf c v → StandsFor c v (value_tokens v)
tokens-stand c v is = sum-stands c.lo c.hi c.kind c.lawful (value_tokens v) v (value-told c.lo c.hi c.kind c.lawful v (of_kind c.lo c.hi c.kind v is.domain) is.proper)
