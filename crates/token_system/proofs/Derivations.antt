-- Tokens entail what is derived from them by the rules, and nothing else.
use Rattle.std.proofs.Common.{◌≡◌, ◌⊎◌, inl, inr, ℤ, List, refl, sym, subst, arith}
use Rattle.std.specs.Prelude.{◌≤ℤ◌, ◌<ℤ◌, ◌↔◌, IsTrue, Contains, All}
use Rattle.std.proofs.lemmas.Int.{ints}
use Rattle.std.specs.Int.Signed.{≤ℤ_refl}
use Rattle.std.proofs.lemmas.List.Elements.{All-contains}
use Rattle.token_system.specs.Domain.{is_cell}
use Rattle.token_system.specs.declared.cell.Kind.{Kind}
use Rattle.token_system.specs.declared.cell.Kind.TheVariants as kinds
use Rattle.token_system.specs.declared.cell.Cell.{Cell}
use Rattle.token_system.specs.declared.cell.Token.{Token}
use Rattle.token_system.specs.declared.cell.Token.TheVariants.{On, Off, AtLeast, AtMost, Clash}
use Rattle.token_system.specs.Tokens.{Fits, fits_kind, IsLower, IsUpper, Clashes, TokensEntail, EntailsWithoutClash}
use Rattle.token_system.specs.Rules.{IsDerived, by_itself, by_on_and_off, by_crossed_bounds, by_clash, by_greater_bound, by_smaller_bound, by_least, by_greatest}
use Rattle.token_system.proofs.Alike.{within_bound}
use Rattle.token_system.proofs.Sums.{cell_of}
use Rattle.token_system.proofs.ByKind.{Fitting, on, off, at_least, at_most, clash, fitting}

-- a token that the list contains is entailed, where it fits
contained : (c : Cell) (ts : List Token) (t : Token) → Fits c t → Contains ts t → TokensEntail c ts t
contained c ts On f h = (f, inr h)
contained c ts Off f h = (f, inr h)
contained c ts (AtLeast j) f h = (f, inr (j, inr h, ≤ℤ_refl j))
contained c ts (AtMost j) f h = (f, inr (j, inr h, ≤ℤ_refl j))
contained c ts Clash f h = (f, inl (inl h))

module _ (k : Kind) (lo hi : ℤ) (l : IsTrue (is_cell k lo hi)) (ts : List Token) where
  abbrev cell : Cell
  cell = cell_of k lo hi l

  lower-derived : k ≡ kinds.Number → (j : ℤ) → IsLower cell ts j → IsDerived cell ts (AtLeast j)
  lower-derived e j (inl h) = subst (λ (x : ℤ). IsDerived cell ts (AtLeast x)) (sym h) (by_least e)
  lower-derived e j (inr h) = by_itself (AtLeast j) h

  upper-derived : k ≡ kinds.Number → (j : ℤ) → IsUpper cell ts j → IsDerived cell ts (AtMost j)
  upper-derived e j (inl h) = subst (λ (x : ℤ). IsDerived cell ts (AtMost x)) (sym h) (by_greatest e)
  upper-derived e j (inr h) = by_itself (AtMost j) h

module _ (lo hi : ℤ) (ts : List Token) where
  clash-derived : (k : Kind) (l : IsTrue (is_cell k lo hi)) → Clashes (cell_of k lo hi l) ts → IsDerived (cell_of k lo hi l) ts Clash
  clash-derived k l (inl h) = by_itself Clash h
  clash-derived kinds.Signal l (inr h) = by_on_and_off (by_itself On h.0) (by_itself Off h.1)
  clash-derived kinds.Number l (inr h) = by_crossed_bounds h.0 h.1 h.2 (lower-derived kinds.Number lo hi l ts refl h.0 h.3) (upper-derived kinds.Number lo hi l ts refl h.1 h.4)

  fitting-derived : (k : Kind) (l : IsTrue (is_cell k lo hi)) (t : Token) → IsTrue (fits_kind k t) → Fitting k t → EntailsWithoutClash (cell_of k lo hi l) ts t → IsDerived (cell_of k lo hi l) ts t
  fitting-derived _ l _ f on h = by_itself On h
  fitting-derived _ l _ f off h = by_itself Off h
  fitting-derived _ l _ f (at_least j g) h = by_greater_bound j h.0 f h.2 (lower-derived kinds.Number lo hi l ts refl h.0 h.1)
  fitting-derived _ l _ f (at_most j g) h = by_smaller_bound j h.0 f h.2 (upper-derived kinds.Number lo hi l ts refl h.0 h.1)
  fitting-derived _ l _ f (clash k) h = absurd h

  entailed-derived : (k : Kind) (l : IsTrue (is_cell k lo hi)) (t : Token) → IsTrue (fits_kind k t) → Clashes (cell_of k lo hi l) ts ⊎ EntailsWithoutClash (cell_of k lo hi l) ts t → IsDerived (cell_of k lo hi l) ts t
  entailed-derived k l t f (inl h) = by_clash t f (clash-derived k l h)
  entailed-derived k l t f (inr h) = fitting-derived k l t f (fitting k t f) h

  -- on and off together clash
  opposed_signs : (k : Kind) (l : IsTrue (is_cell k lo hi)) → TokensEntail (cell_of k lo hi l) ts On → TokensEntail (cell_of k lo hi l) ts Off → Clashes (cell_of k lo hi l) ts
  opposed_signs k l (f, inl h) y = h
  opposed_signs k l (f, inr x) (g, inl h) = h
  opposed_signs k l (f, inr x) (g, inr y) = go k l (fitting k On f) x y
    where
      go : (k : Kind) (l : IsTrue (is_cell k lo hi)) → Fitting k On → Contains ts On → Contains ts Off → Clashes (cell_of k lo hi l) ts
      go _ l on x y = inr (x, y)

  -- a lower bound above an upper one clashes
  opposed_bounds : (k : Kind) (l : IsTrue (is_cell k lo hi)) (i j : ℤ) → j <ℤ i → TokensEntail (cell_of k lo hi l) ts (AtLeast i) → TokensEntail (cell_of k lo hi l) ts (AtMost j) → Clashes (cell_of k lo hi l) ts
  opposed_bounds k l i j lt (f, inl h) y = h
  opposed_bounds k l i j lt (f, inr x) (g, inl h) = h
  opposed_bounds k l i j lt (f, inr x) (g, inr y) = go k l (fitting k (AtLeast i) f) x y
    where
      go : (k : Kind) (l : IsTrue (is_cell k lo hi)) → Fitting k (AtLeast i) → EntailsWithoutClash (cell_of k lo hi l) ts (AtLeast i) → EntailsWithoutClash (cell_of k lo hi l) ts (AtMost j) → Clashes (cell_of k lo hi l) ts
      go _ l (at_least _ b) x y = let a = x.2 in let b = y.2 in inr (x.0, y.0, grind (arith, ints), x.1, y.1)

  clash_alone : (c : Cell) → TokensEntail c ts Clash → Clashes c ts
  clash_alone c (f, inl h) = h
  clash_alone c (f, inr h) = absurd h

  weaker_lower : (c : Cell) (j k : ℤ) → j ≤ℤ k → TokensEntail c ts (AtLeast k) → Clashes c ts ⊎ EntailsWithoutClash c ts (AtLeast j)
  weaker_lower c j k le (f, inl h) = inl h
  weaker_lower c j k le (f, inr x) = let a = x.2 in inr (x.0, x.1, grind (arith, ints))

  weaker_upper : (c : Cell) (j k : ℤ) → k ≤ℤ j → TokensEntail c ts (AtMost k) → Clashes c ts ⊎ EntailsWithoutClash c ts (AtMost j)
  weaker_upper c j k le (f, inl h) = inl h
  weaker_upper c j k le (f, inr x) = let a = x.2 in inr (x.0, x.1, grind (arith, ints))

  -- the bounds of a number's domain fit it
  domain_fits : (k : Kind) → IsTrue (is_cell k lo hi) → k ≡ kinds.Number → IsTrue (fits_kind k (AtLeast lo)) × IsTrue (fits_kind k (AtMost hi))
  domain_fits kinds.Number l e = within_bound lo lo hi hi l (≤ℤ_refl lo) (grind (arith, ints)) (≤ℤ_refl hi)
  domain_fits kinds.Signal l e = absurd (cc)

  derived-entailed : (k : Kind) (l : IsTrue (is_cell k lo hi)) → All (Fits (cell_of k lo hi l)) ts → (t : Token) → IsDerived (cell_of k lo hi l) ts t → TokensEntail (cell_of k lo hi l) ts t
  derived-entailed k l fit _ (by_itself t h) = contained (cell_of k lo hi l) ts t (All-contains (Fits (cell_of k lo hi l)) ts t fit h) h
  derived-entailed k l fit _ (by_on_and_off p q) = (refl, inl (opposed_signs k l (derived-entailed k l fit On p) (derived-entailed k l fit Off q)))
  derived-entailed k l fit _ (by_crossed_bounds i j lt p q) = (refl, inl (opposed_bounds k l i j lt (derived-entailed k l fit (AtLeast i) p) (derived-entailed k l fit (AtMost j) q)))
  derived-entailed k l fit _ (by_clash t f p) = (f, inl (clash_alone (cell_of k lo hi l) (derived-entailed k l fit Clash p)))
  derived-entailed k l fit _ (by_greater_bound i j f le p) = (f, weaker_lower (cell_of k lo hi l) i j le (derived-entailed k l fit (AtLeast j) p))
  derived-entailed k l fit _ (by_smaller_bound i j f le p) = (f, weaker_upper (cell_of k lo hi l) i j le (derived-entailed k l fit (AtMost j) p))
  derived-entailed k l fit _ (by_least e) = ((domain_fits k l e).0, inr (lo, inl refl, ≤ℤ_refl lo))
  derived-entailed k l fit _ (by_greatest e) = ((domain_fits k l e).1, inr (hi, inl refl, ≤ℤ_refl hi))

-- tokens that fit the cell entail exactly what is derived from them
pub entailed-is_derived : (c : Cell) (ts : List Token) → All (Fits c) ts → (t : Token) → (TokensEntail c ts t) ↔ (IsDerived c ts t)
entailed-is_derived c ts fit t = (λ h. entailed-derived c.lo c.hi ts c.kind c.lawful t h.0 h.1, derived-entailed c.lo c.hi ts c.kind c.lawful fit t)
