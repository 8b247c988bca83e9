-- What is kept in a store: values of different names in any order, and those of a net's cells one after the other.
use Rattle.std.proofs.Common.{◌≡◌, ◌≢◌, ℕ, zero, suc, ◌+◌, ◌<◌, List, [], ◌∷◌, ◌++◌, take, Bool, true, false, cond, Option, Some, None, refl, sym, ap, ◌∙◌, arith}
use Rattle.std.specs.Prelude.{slice_get, option_map}
use Rattle.std.specs.FinMap.{get, insert, get-insert, same_map}
use Rattle.std.specs.Ordering.{eq_by_cmp}
use Rattle.token_system.specs.declared.cell.Cell.{Cell}
use Rattle.token_system.specs.declared.cell.Value.{Value}
use Rattle.token_system.specs.declared.name.CellName.{CellName}
use Rattle.token_system.specs.Names.{name_cmp, name_total, name_cmp-IsAntisymmetric}
use Rattle.token_system.specs.Values.{bottom_of, value_eq}
use Rattle.token_system.specs.Stores.{StoreMap, stored}
use Rattle.token_system.proofs.Telling.{equal_names}
use Rattle.instant_net.specs.declared.parts.NetCell.{NetCell}
use Rattle.instant_net.specs.Words.{value_in, store_in}
use Rattle.std.proofs.lemmas.List.{take_more}
use Rattle.std.proofs.lemmas.Option.{slice_get_within, get_or_from_slice_get}
use Rattle.instant_net.specs.Opened.{AreInOrder}
use Rattle.instant_net.proofs.StoreLookups.{HasNone, names_apart}

-- IN ANY ORDER

insert_other : (s : StoreMap) (n m : CellName) (v w : Value) → n ≢ m → insert (insert s n v) m w ≡ insert (insert s m w) n v
insert_other s n m v w d = same_map name_total name_cmp-IsAntisymmetric (insert (insert s n v) m w) (insert (insert s m w) n v) (λ q.
    get-insert name_total (insert s n v) m w q ∙ ap (cond (eq_by_cmp name_cmp q m) (Some w)) (get-insert name_total s n v q)
    ∙ swap q (eq_by_cmp name_cmp q m) (eq_by_cmp name_cmp q n) refl refl
    ∙ sym (get-insert name_total (insert s m w) n v q ∙ ap (cond (eq_by_cmp name_cmp q n) (Some v)) (get-insert name_total s m w q)))
  where
    swap : (q : CellName) (b c : Bool) → eq_by_cmp name_cmp q m ≡ b → eq_by_cmp name_cmp q n ≡ c → cond b (Some w) (cond c (Some v) (get s q)) ≡ cond c (Some v) (cond b (Some w) (get s q))
    swap q true true e f = absurd (d (sym (equal_names q n f) ∙ equal_names q m e))
    swap q true false e f = refl
    swap q false true e f = refl
    swap q false false e f = refl

-- values of two names, in either order
stored_other : (s : StoreMap) (n m : CellName) (c d : Cell) (v w : Value) → n ≢ m → stored (stored s n c v) m d w ≡ stored (stored s m d w) n c v
stored_other s n m c d v w apart = go (value_eq v (bottom_of c)) (value_eq w (bottom_of d))
  where
    go : (a b : Bool) → cond b (cond a s (insert s n v)) (insert (cond a s (insert s n v)) m w) ≡ cond a (cond b s (insert s m w)) (insert (cond b s (insert s m w)) n v)
    go true true = refl
    go true false = refl
    go false true = refl
    go false false = insert_other s n m v w apart

-- the cell behind the last
pub store_in-push : (cells : List NetCell) (c : NetCell) (words : List ℕ) → HasNone cells c.name → store_in (cells ++ c ∷ []) words ≡ stored (store_in cells words) c.name c.cell (value_in words c)
store_in-push [] c words none = refl
store_in-push (x ∷ cells) c words none =
    ap (λ s. stored s x.name x.cell (value_in words x)) (store_in-push cells c words (λ j. none (suc j)))
    ∙ stored_other (store_in cells words) c.name x.name c.cell x.cell (value_in words c) (value_in words x) (none 0 x refl)

-- PLACE BY PLACE

-- the cell at place k has this name, and this kind and domain
pub record IsNamed (cells : List NetCell) (k : ℕ) (name : CellName) (cell : Cell) : Type 0 where
  pub found : NetCell
  pub at : slice_get cells k ≡ Some found
  pub same_name : found.name ≡ name
  pub same_cell : found.cell ≡ cell

pub place_read : (cells : List NetCell) (k : ℕ) (name : CellName) (cell : Cell) → option_map (λ c. c.name) (slice_get cells k) ≡ Some name → option_map (λ c. c.cell) (slice_get cells k) ≡ Some cell → IsNamed cells k name cell
place_read cells k name cell f e = go (slice_get cells k) refl f e
  where
    go : (o : Option NetCell) → slice_get cells k ≡ o → option_map (λ c. c.name) o ≡ Some name → option_map (λ c. c.cell) o ≡ Some cell → IsNamed cells k name cell
    go None s f e = absurd (cc)
    go (Some c) s f e = record { found = c; at = s; same_name = cc; same_cell = cc }

pub cell_read : (cells : List NetCell) (k : ℕ) (cell : Cell) → option_map (λ c. c.cell) (slice_get cells k) ≡ Some cell → (c : NetCell) × (slice_get cells k ≡ Some c) × (c.cell ≡ cell)
cell_read cells k cell e = go (slice_get cells k) refl e
  where
    go : (o : Option NetCell) → slice_get cells k ≡ o → option_map (λ c. c.cell) o ≡ Some cell → (c : NetCell) × (slice_get cells k ≡ Some c) × (c.cell ≡ cell)
    go None s e = absurd (cc)
    go (Some c) s e = (c, s, cc)

-- none of the cells before has the name of this one
taken : (cells : List NetCell) (k j : ℕ) (d : NetCell) → slice_get (take k cells) j ≡ Some d → (j < k) × (slice_get cells j ≡ Some d)
taken cells zero j d e = absurd (cc)
taken [] (suc k) j d e = absurd (cc)
taken (c ∷ cells) (suc k) zero d e = (omega arith, e)
taken (c ∷ cells) (suc k) (suc j) d e = let t = taken cells k j d e in let b = t.0 in (omega arith, t.1)

pub none_before : (cells : List NetCell) → AreInOrder cells → (k : ℕ) (c : NetCell) → slice_get cells k ≡ Some c → HasNone (take k cells) c.name
none_before cells order k c e j d f same = let t = taken cells k j d f in names_apart cells j k d c order t.1 e t.0 (sym same)

pub take-found : (cells : List NetCell) (k : ℕ) (c : NetCell) → slice_get cells k ≡ Some c → take (k + 1) cells ≡ take k cells ++ c ∷ []
take-found cells k c e = take_more cells k c (slice_get_within cells k c e) ∙ ap (λ x. take k cells ++ x ∷ []) (get_or_from_slice_get cells k c c e)

pub store_in-more : (cells : List NetCell) (words : List ℕ) → AreInOrder cells → (k : ℕ) (c : NetCell) → slice_get cells k ≡ Some c → store_in (take (k + 1) cells) words ≡ stored (store_in (take k cells) words) c.name c.cell (value_in words c)
store_in-more cells words order k c e = ap (λ xs. store_in xs words) (take-found cells k c e) ∙ store_in-push (take k cells) c words (none_before cells order k c e)
