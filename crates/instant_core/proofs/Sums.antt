-- Sums over lists that change at one place, and members of lists.
use Rattle.std.proofs.Common.{◌≡◌, ◌≢◌, ◌⊎◌, ℕ, zero, suc, ◌+◌, ◌≤◌, List, [], ◌∷◌, ◌++◌, set, sym, refl, ap, inl, inr, ⊎_elim, arith}
use mathlib.Core.Option.{some, some-injective, some-ne-none}
use lib.ListN.{get_elem?}
use Rattle.instant_core.specs.Lists.{total, StandsIn}

module _ {A : Type 0} where
  pub in-append : (a : A) (xs ys : List A) → StandsIn a (xs ++ ys) → StandsIn a xs ⊎ StandsIn a ys
  in-append a [] ys h = inr h
  in-append a (x ∷ xs) ys h = ⊎_elim (λ e. inl (inl e)) (λ t. ⊎_elim (λ y. inl (inr y)) inr (in-append a xs ys t)) h

  pub in-snoc : (a b : A) (xs : List A) → StandsIn a (xs ++ b ∷ []) → StandsIn a xs ⊎ (b ≡ a)
  in-snoc a b xs h = ⊎_elim inl (λ t. ⊎_elim inr (λ z. absurd z) t) (in-append a xs (b ∷ []) h)

  module _ (g : A → ℕ) where
    pub total-append : (l m : List A) → total g (l ++ m) ≡ total g l + total g m
    total-append [] m = omega arith
    total-append (x ∷ xs) m = omega (arith, total-append xs m)

    pub total-set : (l : List A) (j : ℕ) (v w : A) → get_elem? l j ≡ some v → total g (set l j w) + g v ≡ total g l + g w
    total-set [] j v w e = absurd (some-ne-none v (sym e))
    total-set (x ∷ xs) zero v w e = omega (arith, ap g (some-injective x v e))
    total-set (x ∷ xs) (suc j) v w e = omega (arith, total-set xs j v w e)

    pub term_le : (l : List A) (j : ℕ) (v : A) → get_elem? l j ≡ some v → g v ≤ total g l
    term_le [] j v e = absurd (some-ne-none v (sym e))
    term_le (x ∷ xs) zero v e = omega (arith, ap g (some-injective x v e))
    term_le (x ∷ xs) (suc j) v e = omega (arith, term_le xs j v e)

    pub no_term : (l : List A) → ((i : ℕ) (u : A) → get_elem? l i ≡ some u → g u ≡ 0) → total g l ≡ 0
    no_term [] z = refl
    no_term (x ∷ xs) z = omega (arith, z 0 x refl, no_term xs (λ i u t. z (suc i) u t))

    -- where each other term is 0, the sum is the one term
    pub only_term : (l : List A) (j : ℕ) (v : A) → get_elem? l j ≡ some v → ((i : ℕ) (u : A) → i ≢ j → get_elem? l i ≡ some u → g u ≡ 0) → total g l ≡ g v
    only_term [] j v e z = absurd (some-ne-none v (sym e))
    only_term (x ∷ xs) zero v e z = omega (arith, ap g (some-injective x v e), no_term xs (λ i u t. z (suc i) u (λ h. omega arith) t))
    only_term (x ∷ xs) (suc j) v e z = omega (arith, z 0 x (λ h. omega arith) refl, only_term xs j v e (λ i u n t. z (suc i) u (λ h. n (omega arith)) t))

pub in-left : {A : Type 0} (a : A) (xs ys : List A) → StandsIn a xs → StandsIn a (xs ++ ys)
in-left a [] ys i = absurd i
in-left a (x ∷ xs) ys i = ⊎_elim inl (λ t. inr (in-left a xs ys t)) i

pub in-right : {A : Type 0} (a : A) (xs ys : List A) → StandsIn a ys → StandsIn a (xs ++ ys)
in-right a [] ys i = i
in-right a (x ∷ xs) ys i = inr (in-right a xs ys i)

pub in-last : {A : Type 0} (a : A) (xs : List A) → StandsIn a (xs ++ a ∷ [])
in-last a xs = in-right a xs (a ∷ []) (inl refl)
