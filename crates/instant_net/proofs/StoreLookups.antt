-- What the store of some words keeps for a name: the value of the cell of that name, where it is not the bottom.
use Rattle.std.proofs.Common.{◌≡◌, ◌≢◌, ◌⊎◌, inl, inr, ℕ, zero, suc, ◌<◌, List, [], ◌∷◌, Bool, true, false, cond, Option, Some, None, IfSome, refl, sym, ap, ◌∙◌, subst, arith}
use Rattle.std.specs.Prelude.{slice_get, unwrap_or}
use Rattle.std.specs.FinMap.{get, insert, get-insert, get-empty}
use Rattle.std.specs.Ordering.{is_eq, eq_by_cmp}
use Rattle.std.specs.Cmp.{eq_by_cmp_equiv}
use Rattle.std.specs.declared.cmp.Ordering.TheVariants.{Less}
use Rattle.token_system.specs.declared.cell.Cell.{Cell}
use Rattle.token_system.specs.declared.cell.Value.{Value}
use Rattle.token_system.specs.declared.name.CellName.{CellName}
use Rattle.token_system.specs.Names.{name_cmp, name_total}
use Rattle.token_system.specs.Values.{bottom_of, value_eq, IsValueOf}
use Rattle.token_system.specs.Stores.{StoreMap, value_at, stored, IsKeptFor}
use Rattle.token_system.proofs.Alike.{true_false}
use Rattle.token_system.proofs.Adding.{value_eq-true, value_eq-itself}
use Rattle.token_system.proofs.Telling.{equal_names}
use Rattle.instant_net.specs.declared.parts.NetCell.{NetCell}
use Rattle.instant_net.specs.Opened.{AreInOrder}
use Rattle.instant_net.specs.Words.{value_in, store_in}

-- NAMES

name_itself : (n : CellName) → eq_by_cmp name_cmp n n ≡ true
name_itself n = (eq_by_cmp_equiv name_total).refl n

-- two names are equal or they differ
pub same_or_not : (q n : CellName) → (q ≡ n) ⊎ (q ≢ n)
same_or_not q n = go (eq_by_cmp name_cmp q n) refl
  where
    go : (b : Bool) → eq_by_cmp name_cmp q n ≡ b → (q ≡ n) ⊎ (q ≢ n)
    go true e = inl (equal_names q n e)
    go false e = inr (λ same. true_false (sym (subst (λ (m : CellName). eq_by_cmp name_cmp q m ≡ true) same (name_itself q)) ∙ e))

differ : (q n : CellName) → q ≢ n → eq_by_cmp name_cmp q n ≡ false
differ q n d = go (eq_by_cmp name_cmp q n) refl
  where
    go : (b : Bool) → eq_by_cmp name_cmp q n ≡ b → eq_by_cmp name_cmp q n ≡ false
    go true e = absurd (d (equal_names q n e))
    go false e = e

pub less_differs : (n m : CellName) → name_cmp n m ≡ Less → n ≢ m
less_differs n m h e = true_false (sym (name_itself n) ∙ ap is_eq (subst (λ (x : CellName). name_cmp n x ≡ Less) (sym e) h))

pub in_order_tail : (c : NetCell) (cells : List NetCell) → AreInOrder (c ∷ cells) → AreInOrder cells
in_order_tail c [] o = tt
in_order_tail c (d ∷ cells) o = o.1

-- the first name is before each later one
pub first_name : (c : NetCell) (cells : List NetCell) (j : ℕ) (d : NetCell) → AreInOrder (c ∷ cells) → slice_get cells j ≡ Some d → name_cmp c.name d.name ≡ Less
first_name c [] j d o e = absurd (cc)
first_name c (x ∷ cells) zero d o e = let same : x ≡ d = cc in subst (λ (y : NetCell). name_cmp c.name y.name ≡ Less) same o.0
first_name c (x ∷ cells) (suc j) d o e = name_total.trans c.name x.name d.name o.0 (first_name x cells j d o.1 e)

pub names_rise : (cells : List NetCell) (i j : ℕ) (c d : NetCell) → AreInOrder cells → slice_get cells i ≡ Some c → slice_get cells j ≡ Some d → i < j → name_cmp c.name d.name ≡ Less
names_rise [] i j c d o e f h = absurd (cc)
names_rise (x ∷ cells) i zero c d o e f h = absurd (omega arith)
names_rise (x ∷ cells) zero (suc j) c d o e f h =
    let same : x ≡ c = cc in
    subst (λ (y : NetCell). name_cmp y.name d.name ≡ Less) same (first_name x cells j d o f)
names_rise (x ∷ cells) (suc i) (suc j) c d o e f h = names_rise cells i j c d (in_order_tail x cells o) e f (omega arith)

pub names_apart : (cells : List NetCell) (i j : ℕ) (c d : NetCell) → AreInOrder cells → slice_get cells i ≡ Some c → slice_get cells j ≡ Some d → i < j → c.name ≢ d.name
names_apart cells i j c d o e f h = less_differs c.name d.name (names_rise cells i j c d o e f h)

-- WHAT IS STORED

-- what a store keeps for a cell of this value
abbrev pub kept : Cell → Value → Option Value
kept c v = cond (value_eq v (bottom_of c)) None (Some v)

get-stored : (s : StoreMap) (n : CellName) (c : Cell) (v : Value) (q : CellName) → get (stored s n c v) q ≡ cond (value_eq v (bottom_of c)) (get s q) (cond (eq_by_cmp name_cmp q n) (Some v) (get s q))
get-stored s n c v q = go (value_eq v (bottom_of c))
  where
    go : (b : Bool) → get (cond b s (insert s n v)) q ≡ cond b (get s q) (cond (eq_by_cmp name_cmp q n) (Some v) (get s q))
    go true = refl
    go false = get-insert name_total s n v q

pub get-stored_other : (s : StoreMap) (n : CellName) (c : Cell) (v : Value) (q : CellName) → q ≢ n → get (stored s n c v) q ≡ get s q
get-stored_other s n c v q d = get-stored s n c v q ∙ go (value_eq v (bottom_of c))
  where
    go : (b : Bool) → cond b (get s q) (cond (eq_by_cmp name_cmp q n) (Some v) (get s q)) ≡ get s q
    go true = refl
    go false = ap (λ b. cond b (Some v) (get s q)) (differ q n d)

pub get-stored_same : (s : StoreMap) (n : CellName) (c : Cell) (v : Value) → get (stored s n c v) n ≡ cond (value_eq v (bottom_of c)) (get s n) (Some v)
get-stored_same s n c v = get-stored s n c v n ∙ ap (λ b. cond (value_eq v (bottom_of c)) (get s n) (cond b (Some v) (get s n))) (name_itself n)

-- what a cell's value is kept as says what the value is
pub kept-value : (c : Cell) (v : Value) → unwrap_or (kept c v) (bottom_of c) ≡ v
kept-value c v = go (value_eq v (bottom_of c)) refl
  where
    go : (b : Bool) → value_eq v (bottom_of c) ≡ b → unwrap_or (cond b None (Some v)) (bottom_of c) ≡ v
    go true e = sym (value_eq-true v (bottom_of c) e)
    go false e = refl

pub kept-IsKeptFor : (c : Cell) (v : Value) → IsValueOf c v → IfSome (kept c v) (IsKeptFor c)
kept-IsKeptFor c v is = go (value_eq v (bottom_of c)) refl
  where
    go : (b : Bool) → value_eq v (bottom_of c) ≡ b → IfSome (cond b None (Some v)) (IsKeptFor c)
    go true e = tt
    go false e = record { value = is; not_bottom = λ h. true_false (sym (subst (λ (x : Value). value_eq x (bottom_of c) ≡ true) (sym h) (value_eq-itself (bottom_of c))) ∙ e) }

-- a kept value is kept
pub kept-same : (c : Cell) (v : Value) → IsKeptFor c v → kept c v ≡ Some v
kept-same c v k = go (value_eq v (bottom_of c)) refl
  where
    go : (b : Bool) → value_eq v (bottom_of c) ≡ b → cond b None (Some v) ≡ Some v
    go true e = absurd (k.not_bottom (value_eq-true v (bottom_of c) e))
    go false e = refl

-- LOOKUPS

-- no cell of these has the name
abbrev pub HasNone : List NetCell → CellName → Type 0
HasNone cells q = (j : ℕ) (d : NetCell) → slice_get cells j ≡ Some d → q ≢ d.name

pub get-none : (cells : List NetCell) (words : List ℕ) (q : CellName) → HasNone cells q → get (store_in cells words) q ≡ None
get-none [] words q h = get-empty name_cmp q
get-none (c ∷ cells) words q h =
    get-stored_other (store_in cells words) c.name c.cell (value_in words c) q (h 0 c refl) ∙ get-none cells words q (λ j. h (suc j))

pub get-cell : (cells : List NetCell) (words : List ℕ) → AreInOrder cells → (i : ℕ) (c : NetCell) → slice_get cells i ≡ Some c → get (store_in cells words) c.name ≡ kept c.cell (value_in words c)
get-cell [] words o i c e = absurd (cc)
get-cell (d ∷ cells) words o zero c e =
    let same : d ≡ c = cc in
    subst (λ (x : NetCell). get (store_in (d ∷ cells) words) x.name ≡ kept x.cell (value_in words x)) same
    (get-stored_same (store_in cells words) d.name d.cell (value_in words d)
    ∙ ap (λ g. cond (value_eq (value_in words d) (bottom_of d.cell)) g (Some (value_in words d)))
    (get-none cells words d.name (λ j x f. less_differs d.name x.name (first_name d cells j x o f))))
get-cell (d ∷ cells) words o (suc i) c e =
    get-stored_other (store_in cells words) d.name d.cell (value_in words d) c.name (λ same. less_differs d.name c.name (first_name d cells i c o e) (sym same))
    ∙ get-cell cells words (in_order_tail d cells o) i c e

pub value_at-cell : (cells : List NetCell) (words : List ℕ) → AreInOrder cells → (i : ℕ) (c : NetCell) → slice_get cells i ≡ Some c → value_at (store_in cells words) c.name c.cell ≡ value_in words c
value_at-cell cells words o i c e = ap (λ g. unwrap_or g (bottom_of c.cell)) (get-cell cells words o i c e) ∙ kept-value c.cell (value_in words c)

-- some cell has the name, or none has
pub cell_named_or_none : (cells : List NetCell) (q : CellName) → ((i : ℕ) × (c : NetCell) × (slice_get cells i ≡ Some c) × (c.name ≡ q)) ⊎ HasNone cells q
cell_named_or_none [] q = inr (λ j d e. absurd (cc))
cell_named_or_none (c ∷ cells) q = go (same_or_not q c.name) (cell_named_or_none cells q)
  where
    go : (q ≡ c.name) ⊎ (q ≢ c.name) → ((i : ℕ) × (d : NetCell) × (slice_get cells i ≡ Some d) × (d.name ≡ q)) ⊎ HasNone cells q
        → ((i : ℕ) × (d : NetCell) × (slice_get (c ∷ cells) i ≡ Some d) × (d.name ≡ q)) ⊎ HasNone (c ∷ cells) q
    go (inl e) r = inl (0, c, refl, sym e)
    go (inr n) (inl r) = inl (suc r.0, r.1, r.2, r.3)
    go (inr n) (inr r) = inr none
      where
        none : HasNone (c ∷ cells) q
        none zero d e = let same : c ≡ d = cc in subst (λ (x : NetCell). q ≢ x.name) same n
        none (suc j) d e = r j d e

-- where the values of all cells but those of one name are the same, so is what is kept for other names
pub same_elsewhere : (cells : List NetCell) (before after : List ℕ) (n : CellName) → ((j : ℕ) (d : NetCell) → slice_get cells j ≡ Some d → d.name ≢ n → value_in after d ≡ value_in before d)
    → (q : CellName) → q ≢ n → get (store_in cells after) q ≡ get (store_in cells before) q
same_elsewhere [] before after n same q d = refl
same_elsewhere (c ∷ cells) before after n same q d = go (same_or_not c.name n) (same_elsewhere cells before after n (λ j. same (suc j)) q d)
  where
    go : (c.name ≡ n) ⊎ (c.name ≢ n) → get (store_in cells after) q ≡ get (store_in cells before) q → get (store_in (c ∷ cells) after) q ≡ get (store_in (c ∷ cells) before) q
    go (inl e) rest =
        let other : q ≢ c.name = λ f. d (f ∙ e) in
        get-stored_other (store_in cells after) c.name c.cell (value_in after c) q other ∙ rest ∙ sym (get-stored_other (store_in cells before) c.name c.cell (value_in before c) q other)
    go (inr m) rest =
        get-stored (store_in cells after) c.name c.cell (value_in after c) q
        ∙ ap (λ v. cond (value_eq v (bottom_of c.cell)) (get (store_in cells after) q) (cond (eq_by_cmp name_cmp q c.name) (Some v) (get (store_in cells after) q))) (same 0 c refl m)
        ∙ ap (λ g. cond (value_eq (value_in before c) (bottom_of c.cell)) g (cond (eq_by_cmp name_cmp q c.name) (Some (value_in before c)) g)) rest
        ∙ sym (get-stored (store_in cells before) c.name c.cell (value_in before c) q)
