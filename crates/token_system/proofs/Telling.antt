-- What telling a token of one cell does to a store: that cell's value has the token more, and every other name keeps its own.
use Rattle.std.proofs.Common.{◌≡◌, ◌≢◌, Bool, true, false, cond, List, [], ◌∷◌, ◌++◌, Option, Some, None, IfSome, refl, sym, ap, ◌∙◌, subst}
use Rattle.std.specs.Prelude.{unwrap_or}
use Rattle.std.specs.FinMap.{get, insert, get-insert, empty, get-empty}
use Rattle.std.specs.Ordering.{is_eq, eq_by_cmp}
use Rattle.std.specs.Cmp.{eq_by_cmp_equiv}
use Rattle.std.specs.declared.cmp.Ordering.{Ordering}
use Rattle.std.specs.declared.cmp.Ordering.TheVariants.{Less, Equal, Greater}
use Rattle.token_system.specs.declared.name.CellName.{CellName}
use Rattle.token_system.specs.declared.cell.Cell.{Cell}
use Rattle.token_system.specs.declared.cell.Token.{Token}
use Rattle.token_system.specs.declared.cell.Value.{Value}
use Rattle.token_system.specs.Tokens.{Fits}
use Rattle.token_system.specs.Values.{bottom_of, value_with, value_eq, StandsFor, IsProper, IsValueOf, WithinDomain}
use Rattle.token_system.specs.Names.{name_cmp, name_total, name_cmp-IsAntisymmetric}
use Rattle.token_system.specs.Stores.{StoreMap, value_at, after_tell, IsKeptFor, CanHold, KeepsProper}
use Rattle.token_system.proofs.Alike.{true_false, Covers, same_tokens}
use Rattle.token_system.proofs.Adding.{added, bottom_covered, bottom_within, value_eq-true}
use Rattle.token_system.proofs.Standing.{with-stands}

-- names that the test finds alike are equal
pub equal_names : (q n : CellName) → eq_by_cmp name_cmp q n ≡ true → q ≡ n
equal_names q n e = name_cmp-IsAntisymmetric q n (go (name_cmp q n) e)
  where
    go : (r : Ordering) → is_eq r ≡ true → r ≡ Equal
    go Less h = absurd (true_false (sym h))
    go Equal h = refl
    go Greater h = absurd (true_false (sym h))

get-insert_other : (s : StoreMap) (n q : CellName) (v : Value) → q ≢ n → get (insert s n v) q ≡ get s q
get-insert_other s n q v differ = go (eq_by_cmp name_cmp q n) refl
  where
    go : (b : Bool) → eq_by_cmp name_cmp q n ≡ b → get (insert s n v) q ≡ get s q
    go true e = absurd (differ (equal_names q n e))
    go false e = get-insert name_total s n v q ∙ ap (λ b. cond b (Some v) (get s q)) e

get-insert_same : (s : StoreMap) (n : CellName) (v : Value) → get (insert s n v) n ≡ Some v
get-insert_same s n v = get-insert name_total s n v n ∙ ap (λ b. cond b (Some v) (get s n)) ((eq_by_cmp_equiv name_total).refl n)

-- a store with a proper value more keeps proper values
pub keeps-insert : (s : StoreMap) (n : CellName) (v : Value) → KeepsProper s → IsProper v → KeepsProper (insert s n v)
keeps-insert s n v h p q w e = go (eq_by_cmp name_cmp q n) refl
  where
    go : (b : Bool) → eq_by_cmp name_cmp q n ≡ b → IsProper w
    go true b = let same : Some v ≡ Some w = sym (ap (λ x. cond x (Some v) (get s q)) b) ∙ sym (get-insert name_total s n v q) ∙ e in let is : v ≡ w = cc in subst IsProper is p
    go false b = h q w (sym (ap (λ x. cond x (Some v) (get s q)) b) ∙ sym (get-insert name_total s n v q) ∙ e)

-- and one that keeps no value does
pub keeps-empty : (s : StoreMap) → s ≡ empty → KeepsProper s
keeps-empty s e q w h = absurd (let none : None ≡ Some w = sym (ap (λ m. get m q) e ∙ get-empty name_cmp q) ∙ h in cc)

-- every other name keeps what it had
pub get-told_other : (s : StoreMap) (n q : CellName) (c : Cell) (t : Token) → q ≢ n → get (after_tell s n c t) q ≡ get s q
get-told_other s n q c t differ = go (value_eq (value_with (value_at s n c) t) (bottom_of c))
  where
    go : (b : Bool) → get (cond b s (insert s n (value_with (value_at s n c) t))) q ≡ get s q
    go true = refl
    go false = get-insert_other s n q (value_with (value_at s n c) t) differ

-- a value that rises to its bottom was the bottom
rises_to_bottom : (c : Cell) (v : Value) (t : Token) → Fits c t → WithinDomain c.lo c.hi c.kind v → IsProper v → value_with v t ≡ bottom_of c → v ≡ bottom_of c
rises_to_bottom c v t f d p e =
    let b = bottom_within c.kind c.lo c.hi c.lawful in
    same_tokens c.kind c.lo c.hi v (bottom_of c) c.lawful d p b.0 b.1
    (subst (λ (w : Value). Covers c.kind v w) e (added c.lo c.hi c.kind v t c.lawful d p f).above)
    (bottom_covered c.kind c.lo c.hi v d)

-- the cell's value has the token more, where the store keeps none of its bottoms
pub value_at-told : (s : StoreMap) (n : CellName) (c : Cell) (t : Token) → Fits c t → IfSome (get s n) (IsKeptFor c) → value_at (after_tell s n c t) n c ≡ value_with (value_at s n c) t
value_at-told s n c t f kept = go (value_eq (value_with (value_at s n c) t) (bottom_of c)) refl
  where
    bottom_already : (o : Option Value) → IfSome o (IsKeptFor c) → value_with (unwrap_or o (bottom_of c)) t ≡ bottom_of c → unwrap_or o (bottom_of c) ≡ value_with (unwrap_or o (bottom_of c)) t
    bottom_already None k e = sym e
    bottom_already (Some v) k e = absurd (k.not_bottom (rises_to_bottom c v t f k.value.domain k.value.proper e))

    go : (b : Bool) → value_eq (value_with (value_at s n c) t) (bottom_of c) ≡ b → value_at (cond b s (insert s n (value_with (value_at s n c) t))) n c ≡ value_with (value_at s n c) t
    go true e = bottom_already (get s n) kept (value_eq-true _ _ e)
    go false e = ap (λ o. unwrap_or o (bottom_of c)) (get-insert_same s n (value_with (value_at s n c) t))

-- what a store has for a name is a value of its cell
pub value_kept : (c : Cell) (o : Option Value) → IfSome o (IsKeptFor c) → IsValueOf c (unwrap_or o (bottom_of c))
value_kept c None h = let b = bottom_within c.kind c.lo c.hi c.lawful in record { domain = b.0; proper = b.1 }
value_kept c (Some v) h = h.value

-- so it stands for the tokens that it stood for and the new one
pub told-stands : (s : StoreMap) (n : CellName) (c : Cell) (t : Token) → CanHold s n c t → IfSome (get s n) (IsKeptFor c)
    → (ts : List Token) → StandsFor c (value_at s n c) ts → StandsFor c (value_at (after_tell s n c t) n c) (ts ++ t ∷ [])
told-stands s n c t can kept ts h = subst (λ (v : Value). StandsFor c v (ts ++ t ∷ [])) (sym (value_at-told s n c t can.fits kept)) (with-stands c ts (value_at s n c) t can.fits (value_kept c (get s n) kept) h)
