-- The order of stores agrees with what they entail, and their join stands for the tokens of both, where names have cells.
use Rattle.std.proofs.Common.{◌≡◌, List, ◌++◌, Bool, Option, Some, None, IfSome, refl, sym, ap, ◌∙◌, subst}
use Rattle.std.specs.Prelude.{◌↔◌, IsTrue, unwrap_or}
use Rattle.std.specs.FinMap.{get, empty, get-empty}
use Rattle.token_system.specs.Names.{name_cmp}
use Rattle.token_system.specs.declared.name.CellName.{CellName}
use Rattle.token_system.specs.declared.cell.Cell.{Cell}
use Rattle.token_system.specs.declared.cell.Token.{Token}
use Rattle.token_system.specs.declared.cell.Value.{Value}
use Rattle.token_system.specs.Values.{bottom_of, value_entails, IsProper, IsValueOf, StandsFor}
use Rattle.token_system.specs.Joins.{IsBelow, value_join, value_leq}
use Rattle.token_system.specs.Stores.{StoreMap, value_at, store_entails, IsKeptFor}
use Rattle.token_system.specs.StoreJoins.{CanJoin, KeepsAbove, IsStoreBelow, AreKeptFor, EntailsAllOf, kept_by_both}
use Rattle.token_system.proofs.Adding.{bottom_covered, bottom_within}
use Rattle.token_system.proofs.Below.{leq-is_below, below-antisymm, leq-refl, leq-antisymm, join-least, join-above_first, join-above_second}
use Rattle.token_system.proofs.Both.{join-stands}
use Rattle.token_system.proofs.Telling.{value_kept}

pub bottom_value : (c : Cell) → IsValueOf c (bottom_of c)
bottom_value c = let b = bottom_within c.kind c.lo c.hi c.lawful in record { domain = b.0; proper = b.1 }

pub bottom_below : (c : Cell) (v : Value) → IsValueOf c v → IsBelow c (bottom_of c) v
bottom_below c v h = bottom_covered c.kind c.lo c.hi v h.domain

kept_at : (cell_of : CellName → Cell) (s : StoreMap) → AreKeptFor cell_of s → (n : CellName) → IfSome (get s n) (IsKeptFor (cell_of n))
kept_at cell_of s h n = go (get s n) refl
  where
    go : (o : Option Value) → get s n ≡ o → IfSome o (IsKeptFor (cell_of n))
    go None e = tt
    go (Some v) e = h n v e

pub leq-below : (c : Cell) (v w : Value) → IsValueOf c v → IsValueOf c w → (IsTrue (value_leq v w)) ↔ (IsBelow c v w)
leq-below c v w hv hw = leq-is_below v w (value_leq v w) refl c hv hw

module _ (cell_of : CellName → Cell) (r s : StoreMap) (hr : AreKeptFor cell_of r) (hs : AreKeptFor cell_of s) where
  value_of_s : (n : CellName) → IsValueOf (cell_of n) (value_at s n (cell_of n))
  value_of_s n = value_kept (cell_of n) (get s n) (kept_at cell_of s hs n)

  pub below-entails : IsStoreBelow r s → EntailsAllOf cell_of r s
  below-entails below n t f h = go (get r n) refl h
    where
      go : (o : Option Value) → get r n ≡ o → IsTrue (value_entails (unwrap_or o (bottom_of (cell_of n))) t) → IsTrue (store_entails s n (cell_of n) t)
      go None e h = bottom_below (cell_of n) (value_at s n (cell_of n)) (value_of_s n) t f h
      go (Some v) e h =
          let above = below n v e in
          let held : value_at s n (cell_of n) ≡ above.0 = ap (λ o. unwrap_or o (bottom_of (cell_of n))) above.1 in
          subst (λ (w : Value). IsTrue (value_entails w t)) (sym held)
          ((leq-below (cell_of n) v above.0 (hr n v e).value (hs n above.0 above.1).value).0 above.2 t f h)

  pub entails-below : EntailsAllOf cell_of r s → IsStoreBelow r s
  entails-below all n v e = go (get s n) refl
    where
      of_v : IsBelow (cell_of n) v (value_at s n (cell_of n))
      of_v t f h = all n t f (subst (λ (o : Option Value). IsTrue (value_entails (unwrap_or o (bottom_of (cell_of n))) t)) (sym e) h)

      go : (o : Option Value) → get s n ≡ o → KeepsAbove s n v
      go (Some w) e' = (
        w,
        e',
        (leq-below (cell_of n) v w (hr n v e).value (hs n w e').value).1
            (subst (λ (o : Option Value). IsBelow (cell_of n) v (unwrap_or o (bottom_of (cell_of n)))) e' of_v),
      )
      go None e' = absurd ((hr n v e).not_bottom (below-antisymm (cell_of n) v (bottom_of (cell_of n)) (hr n v e).value (bottom_value (cell_of n))
          (subst (λ (o : Option Value). IsBelow (cell_of n) v (unwrap_or o (bottom_of (cell_of n)))) e' of_v)
          (bottom_below (cell_of n) v (hr n v e).value)))

-- a test whether a store is below another says whether the other entails all that it entails
pub test_entails : (r s : StoreMap) (b : Bool) → (IsTrue b) ↔ (IsStoreBelow r s) → (cell_of : CellName → Cell) → AreKeptFor cell_of r → AreKeptFor cell_of s → (IsTrue b) ↔ (EntailsAllOf cell_of r s)
test_entails r s b h cell_of hr hs = (λ e. below-entails cell_of r s hr hs (h.0 e), λ all. h.1 (entails-below cell_of r s hr hs all))

join_absorbs : (x y : Value) → IsProper y → IsTrue (value_leq x y) → value_join x y ≡ y
join_absorbs x y p h = leq-antisymm (value_join x y) y (join-least x y y p h (leq-refl y)) (join-above_second x y)

join_absorbs_second : (y x : Value) → IsProper y → IsTrue (value_leq x y) → value_join y x ≡ y
join_absorbs_second y x p h = leq-antisymm (value_join y x) y (join-least y x y p (leq-refl y) h) (join-above_first y x)

-- an absent value is the bottom, which adds nothing
both_values : (c : Cell) (o p : Option Value) → IfSome o (IsKeptFor c) → IfSome p (IsKeptFor c) → unwrap_or (kept_by_both o p) (bottom_of c) ≡ value_join (unwrap_or o (bottom_of c)) (unwrap_or p (bottom_of c))
both_values c None None h k = sym (join_absorbs (bottom_of c) (bottom_of c) (bottom_value c).proper (leq-refl (bottom_of c)))
both_values c None (Some w) h k = sym (join_absorbs (bottom_of c) w k.value.proper ((leq-below c (bottom_of c) w (bottom_value c) k.value).1 (bottom_below c w k.value)))
both_values c (Some v) None h k = sym (join_absorbs_second v (bottom_of c) h.value.proper ((leq-below c (bottom_of c) v (bottom_value c) h.value).1 (bottom_below c v h.value)))
both_values c (Some v) (Some w) h k = refl

pub both-stand : (r s both : StoreMap) → ((n : CellName) → get both n ≡ kept_by_both (get r n) (get s n)) → (c : Cell) (n : CellName) (ts us : List Token)
    → IfSome (get r n) (IsKeptFor c) → IfSome (get s n) (IsKeptFor c) → StandsFor c (value_at r n c) ts → StandsFor c (value_at s n c) us → StandsFor c (value_at both n c) (ts ++ us)
both-stand r s both by_name c n ts us kr ks sr ss =
    subst (λ (v : Value). StandsFor c v (ts ++ us))
    (sym (ap (λ o. unwrap_or o (bottom_of c)) (by_name n) ∙ both_values c (get r n) (get s n) kr ks))
    (join-stands c ts us (value_at r n c) (value_at s n c) (value_kept c (get r n) kr) (value_kept c (get s n) ks) sr ss)

-- an empty store can be compared and joined with each
pub empty_can_join : (r s : StoreMap) → r ≡ empty → CanJoin r s
empty_can_join r s e n v w p q = absurd (let none : None ≡ Some v = sym (ap (λ m. get m n) e ∙ get-empty name_cmp n) ∙ p in cc)
