-- Whether one item reaches another: the items that an item reaches, as a set.
use Rattle.std.proofs.Common.{◌≡◌, ◌⊎◌, inl, inr, ℕ, zero, suc, Bool, true, false, ◌||◌, cond, List, [], ◌∷◌, refl, sym, ◌∙◌, subst, arith}
use Rattle.std.specs.Prelude.{IsTrue, All, Contains, nat_eq}
use Rattle.std.proofs.lemmas.Bool.{eqb-true, eq-eqb}
use Rattle.order_tables.specs.declared.bound.Bound.{Bound}
use Rattle.order_tables.specs.Bounds.{Path, HasPath}
use Rattle.order_tables.proofs.Lists.{all_at, all_by, all-tail, all-cons}

pub true_false : true ≡ false → ⊥
true_false e = cc

abbrev with_item : (ℕ → Bool) → ℕ → ℕ → Bool
with_item set b x = nat_eq x b || set x

abbrev spread : List Bound → (ℕ → Bool) → ℕ → Bool
spread [] set = set
spread (e ∷ bounds) set = let c = spread bounds set in cond (c e.low) (spread bounds (with_item c e.high)) c

record Spread (bounds : List Bound) (set c : ℕ → Bool) : Type 1 where
  above : (x : ℕ) → IsTrue (set x) → IsTrue (c x)
  whole : All (λ e. IsTrue (c e.low) → IsTrue (c e.high)) bounds
  least : (P : ℕ → Type 0) → ((x : ℕ) → IsTrue (set x) → P x) → All (λ e. P e.low → P e.high) bounds → (x : ℕ) → IsTrue (c x) → P x

eq_same : (x y : ℕ) → nat_eq x y ≡ true → x ≡ y
eq_same x y e = eqb-true x y e

same_eq : (x : ℕ) → nat_eq x x ≡ true
same_eq x = eq-eqb x x refl

or_left : (a b : Bool) → a ≡ true → (a || b) ≡ true
or_left true b h = refl
or_left false b h = absurd (true_false (sym h))

or_right : (a b : Bool) → b ≡ true → (a || b) ≡ true
or_right true b h = refl
or_right false b h = h

either : (a b : Bool) → (a || b) ≡ true → (a ≡ true) ⊎ (b ≡ true)
either true b h = inl refl
either false b h = inr h

spread_step : (e : Bound) (bounds : List Bound) (set c : ℕ → Bool) → Spread bounds set c → Spread bounds (with_item c e.high) (spread bounds (with_item c e.high)) → (b : Bool) → c e.low ≡ b
    → Spread (e ∷ bounds) set (cond b (spread bounds (with_item c e.high)) c)
spread_step e bounds set c one two false eb = record {
  above = one.above;
  whole = all-cons (λ e. IsTrue (c e.low) → IsTrue (c e.high)) e bounds (λ h. absurd (true_false (sym h ∙ eb))) one.whole;
  least = λ P start step. one.least P start (all-tail (λ e. P e.low → P e.high) e bounds step);
}
spread_step e bounds set c one two true eb = record {
  above = λ x h. two.above x (or_right (nat_eq x e.high) (c x) (one.above x h));
  whole = all-cons (λ x. IsTrue (spread bounds (with_item c e.high) x.low) → IsTrue (spread bounds (with_item c e.high) x.high)) e bounds (λ h. two.above e.high (or_left (nat_eq e.high e.high) (c e.high) (same_eq e.high))) two.whole;
  least = λ P start step.
      let rest : All (λ e. P e.low → P e.high) bounds = all-tail (λ e. P e.low → P e.high) e bounds step in
      let first : (x : ℕ) → IsTrue (c x) → P x = one.least P start rest in
      two.least P (λ x h. added P first (step 0 e (omega arith)) x (either (nat_eq x e.high) (c x) h)) rest;
}
  where
    added : (P : ℕ → Type 0) → ((x : ℕ) → IsTrue (c x) → P x) → (P e.low → P e.high) → (x : ℕ) → (nat_eq x e.high ≡ true) ⊎ (c x ≡ true) → P x
    added P first up x (inl h) = subst P (sym (eq_same x e.high h)) (up (first e.low eb))
    added P first up x (inr h) = first x h

spread_is : (bounds : List Bound) (set : ℕ → Bool) → Spread bounds set (spread bounds set)
spread_is [] set = record { above = λ x h. h; whole = λ k d lt. absurd (omega arith); least = λ P start step x h. start x h }
spread_is (e ∷ bounds) set =
    let c : ℕ → Bool = spread bounds set in
    spread_step e bounds set c (spread_is bounds set) (spread_is bounds (with_item c e.high)) (c e.low) refl

module _ (bounds : List Bound) where
  abbrev pub reaches : ℕ → ℕ → Bool
  reaches a = spread bounds (λ x. nat_eq x a)

  pub reaches-to : (a b : ℕ) → IsTrue (reaches a b) → HasPath bounds a b
  reaches-to a b h =
      (spread_is bounds (λ x. nat_eq x a)).least (HasPath bounds a) (λ x e. (0, sym (eq_same x a e)))
      (all_by (λ e. HasPath bounds a e.low → HasPath bounds a e.high) bounds (λ e i c. (suc c.0, (e, c.1, i, refl)))) b h

  -- what an item reaches it reaches onward
  pub reaches-on : (a : ℕ) (e : Bound) → Contains bounds e → IsTrue (reaches a e.low) → IsTrue (reaches a e.high)
  reaches-on a e i h = all_at (λ e. IsTrue (reaches a e.low) → IsTrue (reaches a e.high)) bounds e (spread_is bounds (λ x. nat_eq x a)).whole i h

  pub path-reaches : (n a b : ℕ) → Path bounds a b n → IsTrue (reaches a b)
  path-reaches zero a b e = (spread_is bounds (λ x. nat_eq x a)).above b (subst (λ (y : ℕ). nat_eq y a ≡ true) e (same_eq a))
  path-reaches (suc n) a b (e, path, i, is) =
      subst (λ (y : ℕ). IsTrue (reaches a y)) is (reaches-on a e i (path-reaches n a e.low path))
