-- Stores that entail the same tokens are equal, and their join is the least store above both.
use Rattle.std.proofs.Common.{◌≡◌, Bool, true, false, cond, ◌&&◌, ◌||◌, not, ℤ, Option, Some, None, refl, sym, ap, ◌∙◌, subst, arith}
use Rattle.std.specs.Prelude.{◌≤ℤ◌, IsTrue, int_lt}
use Rattle.std.specs.Int.{int_max, int_min}
use Rattle.std.proofs.lemmas.Int.{ints}
use Rattle.std.specs.FinMap.{get, same_map}
use Rattle.token_system.specs.declared.cell.Kind.{Kind}
use Rattle.token_system.specs.declared.cell.Cell.{Cell}
use Rattle.token_system.specs.declared.cell.Value.{Value}
use Rattle.token_system.specs.declared.cell.Value.TheVariants as values
use Rattle.token_system.specs.declared.name.CellName.{CellName}
use Rattle.token_system.specs.Names.{name_total, name_cmp-IsAntisymmetric}
use Rattle.token_system.specs.Values.{bottom_of, IsProper, IsValueOf, WithinDomain}
use Rattle.token_system.specs.Joins.{value_join, value_leq}
use Rattle.token_system.specs.Stores.{StoreMap, IsKeptFor}
use Rattle.token_system.specs.StoreJoins.{AreKeptFor, EntailsAllOf, IsJoinOf, IsLeastAbove, IsStoreBelow, KeepsAbove, kept_by_both}
use Rattle.token_system.proofs.Adding.{clash_within}
use Rattle.token_system.proofs.Below.{leq-refl, leq-antisymm, join-above_first, join-above_second, join-least}
use Rattle.token_system.proofs.ByKind.{OfKind, signal, number, of_kind}
use Rattle.token_system.proofs.ByKind as by
use Rattle.token_system.proofs.StoreOrder.{below-entails, entails-below, bottom_value, bottom_below, leq-below}

-- ORDER

-- stores that keep the same values are equal
module _ (r s : StoreMap) (rs : IsStoreBelow r s) (sr : IsStoreBelow s r) where
  same_kept : (n : CellName) → (o p : Option Value) → get r n ≡ o → get s n ≡ p → o ≡ p
  same_kept n None None eo ep = refl
  same_kept n (Some v) None eo ep = absurd (let above = rs n v eo in let none : None ≡ Some above.0 = sym ep ∙ above.1 in cc)
  same_kept n None (Some w) eo ep = absurd (let above = sr n w ep in let none : None ≡ Some above.0 = sym eo ∙ above.1 in cc)
  same_kept n (Some v) (Some w) eo ep =
      let above = rs n v eo in
      let below = sr n w ep in
      let is_w : Some above.0 ≡ Some w = sym above.1 ∙ ep in
      let is_v : Some below.0 ≡ Some v = sym below.1 ∙ eo in
      let same_w : above.0 ≡ w = cc in
      let same_v : below.0 ≡ v = cc in
      ap Some (leq-antisymm v w (subst (λ (x : Value). IsTrue (value_leq v x)) same_w above.2) (subst (λ (x : Value). IsTrue (value_leq w x)) same_v below.2))

  same_stores : r ≡ s
  same_stores = same_map name_total name_cmp-IsAntisymmetric r s (λ n. same_kept n (get r n) (get s n) refl refl)

pub stores-same : (cell_of : CellName → Cell) (r s : StoreMap) → AreKeptFor cell_of r → AreKeptFor cell_of s → EntailsAllOf cell_of r s → EntailsAllOf cell_of s r → r ≡ s
stores-same cell_of r s hr hs rs sr = same_stores r s (entails-below cell_of r s hr hs rs) (entails-below cell_of s r hs hr sr)

-- JOIN

-- the join of two values of a cell is one
signal_is : (least most : ℤ) (k : Kind) (x y : Bool) → OfKind least most k (values.Signal x y) → (b : Bool) → (x && y) ≡ b → WithinDomain least most k (cond b values.Clash (values.Signal x y)) × IsProper (cond b values.Clash (values.Signal x y))
signal_is least most k x y q true e = (clash_within least most k, tt)
signal_is least most _ x y (signal _ _) false e = (tt, ap not e)

number_is : (least most : ℤ) (k : Kind) (x y : ℤ) → OfKind least most k (values.Number x y) → (b : Bool) → int_lt y x ≡ b → WithinDomain least most k (cond b values.Clash (values.Number x y)) × IsProper (cond b values.Clash (values.Number x y))
number_is least most k x y q true e = (clash_within least most k, tt)
number_is least most _ x y (number _ _ l h) false e = ((l, h), grind (arith, ints))

lower_of_both : (least a c : ℤ) → least ≤ℤ a → least ≤ℤ int_max a c
lower_of_both least a c l = grind (arith, ints)

upper_of_both : (most b d : ℤ) → b ≤ℤ most → int_min b d ≤ℤ most
upper_of_both most b d h = grind (arith, ints)

join_clash : (v : Value) → value_join v values.Clash ≡ values.Clash
join_clash values.Clash = refl
join_clash (values.Signal a b) = refl
join_clash (values.Number a b) = refl

join_within : (least most : ℤ) (k : Kind) (v w : Value) → OfKind least most k v → OfKind least most k w → WithinDomain least most k (value_join v w) × IsProper (value_join v w)
join_within least most _ _ w (by.OfKind.clash k) q = (clash_within least most k, tt)
join_within least most _ v _ p (by.OfKind.clash k) = subst (λ (x : Value). WithinDomain least most k x × IsProper x) (sym (join_clash v)) (clash_within least most k, tt)
join_within least most k _ _ (signal a b) (signal c d) = signal_is least most k (a || c) (b || d) (signal (a || c) (b || d)) _ refl
join_within least most k _ _ (number a b l h) (number c d _ _) = number_is least most k (int_max a c) (int_min b d) (number (int_max a c) (int_min b d) (lower_of_both least a c l) (upper_of_both most b d h)) _ refl

join_value : (c : Cell) (v w : Value) → IsValueOf c v → IsValueOf c w → IsValueOf c (value_join v w)
join_value c v w hv hw =
    let j = join_within c.lo c.hi c.kind v w (of_kind c.lo c.hi c.kind v hv.domain) (of_kind c.lo c.hi c.kind w hw.domain) in
    record { domain = j.0; proper = j.1 }

-- and no bottom, where one of them is none
join_kept : (c : Cell) (v w : Value) → IsKeptFor c v → IsKeptFor c w → IsKeptFor c (value_join v w)
join_kept c v w hv hw = record {
  value = join_value c v w hv.value hw.value;
  not_bottom = λ e. hv.not_bottom (leq-antisymm v (bottom_of c)
      (subst (λ (x : Value). IsTrue (value_leq v x)) e (join-above_first v w))
      ((leq-below c (bottom_of c) v (bottom_value c) hv.value).1 (bottom_below c v hv.value)));
}

module _ (r s both : StoreMap) (joins : IsJoinOf r s both) where
  first_below : IsStoreBelow r both
  first_below n v e = go (get s n) (joins n ∙ ap (λ o. kept_by_both o (get s n)) e)
    where
      go : (o : Option Value) → get both n ≡ kept_by_both (Some v) o → KeepsAbove both n v
      go None h = (v, h, leq-refl v)
      go (Some w) h = (value_join v w, h, join-above_first v w)

  second_below : IsStoreBelow s both
  second_below n w e = go (get r n) (joins n ∙ ap (kept_by_both (get r n)) e)
    where
      go : (o : Option Value) → get both n ≡ kept_by_both o (Some w) → KeepsAbove both n w
      go None h = (w, h, leq-refl w)
      go (Some v) h = (value_join v w, h, join-above_second v w)

  both_below : (x : StoreMap) → ((n : CellName) (y : Value) → get x n ≡ Some y → IsProper y) → IsStoreBelow r x → IsStoreBelow s x → IsStoreBelow both x
  both_below x proper rx sx n y e = go (get r n) (get s n) refl refl (sym (joins n) ∙ e)
    where
      go : (o p : Option Value) → get r n ≡ o → get s n ≡ p → kept_by_both o p ≡ Some y → KeepsAbove x n y
      go None None eo ep h = absurd (cc)
      go None (Some w) eo ep h = let same : w ≡ y = cc in subst (KeepsAbove x n) same (sx n w ep)
      go (Some v) None eo ep h = let same : v ≡ y = cc in subst (KeepsAbove x n) same (rx n v eo)
      go (Some v) (Some w) eo ep h =
          let same : value_join v w ≡ y = cc in
          let a = rx n v eo in
          let b = sx n w ep in
          let is : Some b.0 ≡ Some a.0 = sym b.1 ∙ a.1 in
          let one : b.0 ≡ a.0 = cc in
          subst (KeepsAbove x n) same (a.0, a.1, join-least v w a.0 (proper n a.0 a.1) a.2 (subst (λ (z : Value). IsTrue (value_leq w z)) one b.2))

  both_kept : (cell_of : CellName → Cell) → AreKeptFor cell_of r → AreKeptFor cell_of s → AreKeptFor cell_of both
  both_kept cell_of hr hs n y e = go (get r n) (get s n) refl refl (sym (joins n) ∙ e)
    where
      go : (o p : Option Value) → get r n ≡ o → get s n ≡ p → kept_by_both o p ≡ Some y → IsKeptFor (cell_of n) y
      go None None eo ep h = absurd (cc)
      go None (Some w) eo ep h = let same : w ≡ y = cc in subst (IsKeptFor (cell_of n)) same (hs n w ep)
      go (Some v) None eo ep h = let same : v ≡ y = cc in subst (IsKeptFor (cell_of n)) same (hr n v eo)
      go (Some v) (Some w) eo ep h = let same : value_join v w ≡ y = cc in subst (IsKeptFor (cell_of n)) same (join_kept (cell_of n) v w (hr n v eo) (hs n w ep))

pub join-least_above : (cell_of : CellName → Cell) (r s both : StoreMap) → AreKeptFor cell_of r → AreKeptFor cell_of s → IsJoinOf r s both → IsLeastAbove cell_of r s both
join-least_above cell_of r s both hr hs joins =
    let hb = both_kept r s both joins cell_of hr hs in
    record {
      kept = hb;
      above_first = below-entails cell_of r both hr hb (first_below r s both joins);
      above_second = below-entails cell_of s both hs hb (second_below r s both joins);
      least = λ x hx rx sx. below-entails cell_of both x hb hx
          (both_below r s both joins x (λ n y e. (hx n y e).value.proper) (entails-below cell_of r x hr hx rx) (entails-below cell_of s x hs hx sx));
    }
