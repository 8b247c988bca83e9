-- A proper value of the cell that stands for tokens sums them up. So the value with one token more stands for these and that one.
use Rattle.std.proofs.Common.{◌≡◌, ◌⊎◌, inl, inr, Bool, true, false, ℤ, List, [], ◌∷◌, ◌++◌, refl, sym, ◌∙◌, subst, arith}
use Rattle.std.specs.Prelude.{◌≤ℤ◌, ◌↔◌, IsTrue, int_le}
use Rattle.std.proofs.lemmas.Int.{ints}
use Rattle.std.specs.Int.Signed.{≤ℤ_refl}
use Rattle.token_system.specs.Domain.{is_bound, is_cell}
use Rattle.token_system.specs.declared.cell.Kind.{Kind}
use Rattle.token_system.specs.declared.cell.Kind.TheVariants as kinds
use Rattle.token_system.specs.declared.cell.Cell.{Cell}
use Rattle.token_system.specs.declared.cell.Token.{Token}
use Rattle.token_system.specs.declared.cell.Token.TheVariants.{On, Off, AtLeast, AtMost, Clash}
use Rattle.token_system.specs.declared.cell.Value.{Value}
use Rattle.token_system.specs.declared.cell.Value.TheVariants as values
use Rattle.token_system.specs.Tokens.{Fits, IsLower, IsUpper, Clashes, TokensEntail, EntailsWithoutClash}
use Rattle.token_system.specs.Values.{StandsFor, value_entails, value_with, bottom_of, IsProper, IsValueOf}
use Rattle.token_system.proofs.Alike.{true_false, within_bound, le_itself}
use Rattle.token_system.proofs.ByKind.{OfKind, signal, number, clash, of_kind}
use Rattle.token_system.proofs.Sums.{cell_of, Bounds, Signs, SumsUp, signs, bounds, clashes, with-sums_up, sum-stands, bottom-sums_up}

-- what a value entails that does not entail a clash, no clash of the tokens is behind
module _ (c : Cell) (ts : List Token) (v : Value) (s : StandsFor c v ts) where
  clash-sums_up : IsTrue (value_entails v Clash) → Clashes c ts
  clash-sums_up e = go ((s Clash refl).0 e).1
    where
      go : Clashes c ts ⊎ EntailsWithoutClash c ts Clash → Clashes c ts
      go (inl h) = h
      go (inr h) = absurd h

  module _ (calm : value_entails v Clash ≡ false) where
    no_clash_of : Clashes c ts → ⊥
    no_clash_of h = true_false (sym ((s Clash refl).1 (refl, inl h)) ∙ calm)

    told_of : (t : Token) → Fits c t → IsTrue (value_entails v t) → EntailsWithoutClash c ts t
    told_of t f e = go ((s t f).0 e).1
      where
        go : Clashes c ts ⊎ EntailsWithoutClash c ts t → EntailsWithoutClash c ts t
        go (inl h) = absurd (no_clash_of h)
        go (inr h) = h

    of_told : (t : Token) → Fits c t → EntailsWithoutClash c ts t → IsTrue (value_entails v t)
    of_told t f h = (s t f).1 (f, inr h)

module _ (lo hi : ℤ) (l : IsTrue (is_cell kinds.Number lo hi)) (ts : List Token) where
  abbrev a_number : Cell
  a_number = cell_of kinds.Number lo hi l

  fits_lo : IsTrue (is_bound lo)
  fits_lo = (within_bound lo lo hi hi l (≤ℤ_refl lo) (grind (arith, ints)) (≤ℤ_refl hi)).0

  fits_hi : IsTrue (is_bound hi)
  fits_hi = (within_bound lo lo hi hi l (≤ℤ_refl lo) (grind (arith, ints)) (≤ℤ_refl hi)).1

  fits_between : (j : ℤ) → lo ≤ℤ j → j ≤ℤ hi → IsTrue (is_bound j)
  fits_between j p q = (within_bound lo j hi hi l p q (≤ℤ_refl hi)).0

  module _ (a b : ℤ) (proper : a ≤ℤ b) (s : StandsFor a_number (values.Number a b) ts) where
    no_clash : Clashes a_number ts → ⊥
    no_clash h = true_false (sym ((s Clash refl).1 (refl, inl h)))

    lo_below : lo ≤ℤ a
    lo_below = let h : IsTrue (int_le lo a) = (s (AtLeast lo) fits_lo).1 (fits_lo, inr (lo, inl refl, ≤ℤ_refl lo)) in grind (arith, ints)

    hi_above : b ≤ℤ hi
    hi_above = let h : IsTrue (int_le b hi) = (s (AtMost hi) fits_hi).1 (fits_hi, inr (hi, inl refl, ≤ℤ_refl hi)) in grind (arith, ints)

    lowest : (j : ℤ) → IsLower a_number ts j → j ≤ℤ a
    lowest j h = go _ refl _ refl
      where
        go : (p : Bool) → int_le lo j ≡ p → (q : Bool) → int_le j hi ≡ q → j ≤ℤ a
        go false ep q eq = let x = lo_below in grind (arith, ints)
        go true ep false eq = absurd (no_clash (inr (j, hi, grind (arith, ints), h, inl refl)))
        go true ep true eq =
            let f : IsTrue (is_bound j) = fits_between j (grind (arith, ints)) (grind (arith, ints)) in
            let e : IsTrue (int_le j a) = (s (AtLeast j) f).1 (f, inr (j, h, ≤ℤ_refl j)) in
            grind (arith, ints)

    highest : (k : ℤ) → IsUpper a_number ts k → b ≤ℤ k
    highest k h = go _ refl _ refl
      where
        go : (p : Bool) → int_le lo k ≡ p → (q : Bool) → int_le k hi ≡ q → b ≤ℤ k
        go false ep q eq = absurd (no_clash (inr (lo, k, grind (arith, ints), inl refl, h)))
        go true ep false eq = let x = hi_above in grind (arith, ints)
        go true ep true eq =
            let f : IsTrue (is_bound k) = fits_between k (grind (arith, ints)) (grind (arith, ints)) in
            let e : IsTrue (int_le b k) = (s (AtMost k) f).1 (f, inr (k, h, ≤ℤ_refl k)) in
            grind (arith, ints)

    low : IsLower a_number ts a
    low = go ((s (AtLeast a) (fits_between a lo_below (let x = hi_above in grind (arith, ints)))).0 (le_itself a)).1
      where
        go : Clashes a_number ts ⊎ EntailsWithoutClash a_number ts (AtLeast a) → IsLower a_number ts a
        go (inl h) = absurd (no_clash h)
        go (inr h) = let x = lowest h.0 h.1 in let y = h.2 in let e : h.0 ≡ a = grind (arith, ints) in subst (λ (j : ℤ). IsLower a_number ts j) e h.1

    high : IsUpper a_number ts b
    high = go ((s (AtMost b) (fits_between b (let x = lo_below in grind (arith, ints)) hi_above)).0 (le_itself b)).1
      where
        go : Clashes a_number ts ⊎ EntailsWithoutClash a_number ts (AtMost b) → IsUpper a_number ts b
        go (inl h) = absurd (no_clash h)
        go (inr h) = let x = highest h.0 h.1 in let y = h.2 in let e : h.0 ≡ b = grind (arith, ints) in subst (λ (k : ℤ). IsUpper a_number ts k) e h.1

    number-sums_up : Bounds a_number ts a b
    number-sums_up = record { low = low; lowest = lowest; high = high; highest = highest; calm = λ h. no_clash (inl h); proper = proper }

module _ (lo hi : ℤ) (l : IsTrue (is_cell kinds.Signal lo hi)) (ts : List Token) (a b : Bool) where
  signal-sums_up : IsProper (values.Signal a b) → StandsFor (cell_of kinds.Signal lo hi l) (values.Signal a b) ts → Signs ts a b
  signal-sums_up proper s = record {
    on_told = told_of (cell_of kinds.Signal lo hi l) ts (values.Signal a b) s refl On refl;
    told_on = of_told (cell_of kinds.Signal lo hi l) ts (values.Signal a b) s refl On refl;
    off_told = told_of (cell_of kinds.Signal lo hi l) ts (values.Signal a b) s refl Off refl;
    told_off = of_told (cell_of kinds.Signal lo hi l) ts (values.Signal a b) s refl Off refl;
    calm = λ h. no_clash_of (cell_of kinds.Signal lo hi l) ts (values.Signal a b) s refl (inl h);
    proper = proper;
  }

sums_up_by : (lo hi : ℤ) (k : Kind) (l : IsTrue (is_cell k lo hi)) (ts : List Token) (v : Value) → OfKind lo hi k v → IsProper v → StandsFor (cell_of k lo hi l) v ts → SumsUp (cell_of k lo hi l) ts k v
sums_up_by lo hi _ l ts _ (clash k) p s = clashes k (clash-sums_up (cell_of k lo hi l) ts values.Clash s refl)
sums_up_by lo hi _ l ts _ (signal a b) p s = signs a b (signal-sums_up lo hi l ts a b p s)
sums_up_by lo hi _ l ts _ (number a b q r) p s = bounds a b (number-sums_up lo hi l ts a b p s)

-- a value of the cell that stands for tokens sums them up
pub stands-sums_up : (c : Cell) (ts : List Token) (v : Value) → IsValueOf c v → StandsFor c v ts → SumsUp c ts c.kind v
stands-sums_up c ts v is s = sums_up_by c.lo c.hi c.kind c.lawful ts v (of_kind c.lo c.hi c.kind v is.domain) is.proper s

-- a value with one token more stands for the tokens and that one
pub with-stands : (c : Cell) (ts : List Token) (v : Value) (t : Token) → Fits c t → IsValueOf c v → StandsFor c v ts → StandsFor c (value_with v t) (ts ++ t ∷ [])
with-stands c ts v t f is s = sum-stands c.lo c.hi c.kind c.lawful (ts ++ t ∷ []) (value_with v t) (with-sums_up c.lo c.hi c.kind c.lawful ts v t (stands-sums_up c ts v is s) f)

-- the bottom stands for no tokens at all
pub bottom-stands : (c : Cell) → StandsFor c (bottom_of c) []
bottom-stands c = sum-stands c.lo c.hi c.kind c.lawful [] (bottom_of c) (bottom-sums_up c.lo c.hi c.kind c.lawful)

-- the same of a result that is known to be that value
pub result_stands : (v : Value) (t : Token) (w : Value) → w ≡ value_with v t → (c : Cell) (ts : List Token) → Fits c t → IsValueOf c v → StandsFor c v ts → StandsFor c w (ts ++ t ∷ [])
result_stands v t w e c ts f is s = subst (λ (x : Value). StandsFor c x (ts ++ t ∷ [])) (sym e) (with-stands c ts v t f is s)

-- what a value answers of a token that fits is what the tokens that it stands for entail
pub answer_stands : (v : Value) (t : Token) (b : Bool) → b ≡ value_entails v t
    → (c : Cell) (ts : List Token) → Fits c t → StandsFor c v ts → (IsTrue b) ↔ (TokensEntail c ts t)
answer_stands v t b e c ts f s = subst (λ (x : Bool). (IsTrue x) ↔ (TokensEntail c ts t)) (sym e) (s t f)
