-- A walk over the names that a store keeps comes by each declared cell of which something is told, in order of declaration.
use Rattle.std.proofs.Common.{◌≡◌, ℕ, zero, suc, ◌<◌, ◌≤◌, Bool, true, false, cond, List, [], ◌∷◌, ◌++◌, length, get_or, drop, Option, Some, None, refl, sym, ap, ◌∙◌, subst, drop-cons, inl, inr, arith}
use Rattle.std.specs.Prelude.{T, slice_get, option_map, unwrap_or}
use Rattle.std.specs.Cmp.{ranks}
use Rattle.std.specs.FinMap as map
use Rattle.std.specs.FinMap.{find, is_sorted}
use Rattle.std.specs.FinMap.Entries.{below_all}
use Rattle.std.specs.Ordering.{MatchOrdering, eq_by_cmp, is_eq, nat_cmp, ordering_then}
use Rattle.std.specs.declared.cmp.Ordering.{Ordering}
use Rattle.std.specs.declared.cmp.Ordering.TheVariants.{Less, Equal, Greater}
use Rattle.std.proofs.lemmas.Option.{slice_get-get_or, slice_get-map, slice_get_cases, slice_get_past, slice_get_within}
use Rattle.std.proofs.lemmas.List.{length-drop, length-map}
use Rattle.token_system.specs.declared.cell.Value.{Value}
use Rattle.token_system.specs.declared.cell.Value.TheVariants.{Clash}
use Rattle.token_system.specs.declared.name.CellName.{CellName}
use Rattle.token_system.specs.declared.name.CellName.TheVariants.{Declared, Local}
use Rattle.token_system.specs.Names.{name_cmp}
use Rattle.token_system.specs.Stores.{StoreMap, value_at}
use Rattle.token_system.specs.Values.{bottom_of}
use Rattle.token_system.proofs.Adding.{value_eq-itself}
use Rattle.token_system.proofs.Alike.{true_false}
use Rattle.token_system.proofs.Places.{first_of_both, second_of_both, less_is}
use Rattle.token_system.proofs.Telling.{equal_names}
use Rattle.agent_core.specs.declared.node.CellDecl.{CellDecl}
use Rattle.trace_text.specs.StoreLines.{cell_of_name, cell_texts, told_texts, value_texts}

-- the texts of a cell, where there is one, that has this value
abbrev pub texts_of : Option CellDecl → Value → List (List ℕ)
texts_of None x = []
texts_of (Some d) x = value_texts d.name d.cell x

-- the texts of the entries that name one of the cells
abbrev pub entry_texts : List CellDecl → List (CellName × Value) → List (List ℕ)
entry_texts cells [] = []
entry_texts cells (e ∷ es) = texts_of (cell_of_name cells e.0) e.1 ++ entry_texts cells es

-- no declared cell below n has the name
abbrev IsFrom : ℕ → CellName → Type 0
IsFrom n (Declared m) = n ≤ m
IsFrom n (Local node births) = Unit {0}

abbrev AllFrom : ℕ → List (CellName × Value) → Type 0
AllFrom n [] = Unit {0}
AllFrom n (e ∷ es) = IsFrom n e.0 × AllFrom n es

-- THE ORDER OF NAMES

declared_less : (m n : ℕ) → name_cmp (Declared m) (Declared n) ≡ Less → m < n
declared_less m n h = go (nat_cmp m n) (ranks m n) h
  where
    go : (r : Ordering) → MatchOrdering r (m < n) (m ≡ n) (n < m) → ordering_then r Equal ≡ Less → m < n
    go Less lt e = lt
    go Equal same e = absurd (cc)
    go Greater gt e = absurd (cc)

later_name : (n : ℕ) (x y : CellName) → IsFrom n x → name_cmp x y ≡ Less → IsFrom (suc n) y
later_name n (Declared m) (Declared k) h less = let lt = declared_less m k less in omega arith
later_name n (Declared m) (Local node births) h less = tt
later_name n (Local node births) (Declared k) h less = absurd (cc)
later_name n (Local node births) (Local node' births') h less = tt

from_less : (m n : ℕ) (x : CellName) → m ≤ n → IsFrom n x → IsFrom m x
from_less m n (Declared k) le h = omega arith
from_less m n (Local node births) le h = tt

-- a declared name that is not that of cell n is that of a later one
from_next : (n : ℕ) (x : CellName) → IsFrom n x → eq_by_cmp name_cmp (Declared n) x ≡ false → IsFrom (suc n) x
from_next n (Declared m) h differ = go (nat_cmp n m) (ranks n m) differ
  where
    go : (r : Ordering) → MatchOrdering r (n < m) (n ≡ m) (m < n) → is_eq (ordering_then r Equal) ≡ false → suc n ≤ m
    go Less lt e = omega arith
    go Equal same e = absurd (true_false e)
    go Greater gt e = absurd (omega arith)
from_next n (Local node births) h differ = tt

-- THE ENTRIES FROM A PLACE ON

all_later : (n : ℕ) (x : CellName) (es : List (CellName × Value)) → IsFrom n x → T (below_all name_cmp x es) → AllFrom (suc n) es
all_later n x [] h below = tt
all_later n x (e ∷ es) h below = (later_name n x e.0 h (less_is _ (first_of_both _ _ below)), all_later n x es h (second_of_both _ _ below))

all_less : (m n : ℕ) (es : List (CellName × Value)) → m ≤ n → AllFrom n es → AllFrom m es
all_less m n [] le h = tt
all_less m n (e ∷ es) le h = (from_less m n e.0 le h.0, all_less m n es le h.1)

all_first : (es : List (CellName × Value)) → AllFrom 0 es
all_first [] = tt
all_first (e ∷ es) = (first_name e.0, all_first es)
  where
    first_name : (x : CellName) → IsFrom 0 x
    first_name (Declared m) = omega arith
    first_name (Local node births) = tt

all_next : (n : ℕ) (e : CellName × Value) (es : List (CellName × Value)) → T (is_sorted name_cmp (e ∷ es)) → IsFrom n e.0 → eq_by_cmp name_cmp (Declared n) e.0 ≡ false → AllFrom (suc n) (e ∷ es)
all_next n e es s h differ = (from_next n e.0 h differ, all_later n e.0 es h (first_of_both _ _ s))

-- a declared cell below them all is not there
find-below : (n : ℕ) (es : List (CellName × Value)) → AllFrom (suc n) es → find name_cmp (Declared n) es ≡ None
find-below n [] h = refl
find-below n (e ∷ es) h = go (eq_by_cmp name_cmp (Declared n) e.0) refl (find-below n es h.1)
  where
    go : (b : Bool) → eq_by_cmp name_cmp (Declared n) e.0 ≡ b → find name_cmp (Declared n) es ≡ None → cond b (Some e.1) (find name_cmp (Declared n) es) ≡ None
    go true same rest = let le : suc n ≤ n = subst (IsFrom (suc n)) (sym (equal_names (Declared n) e.0 same)) h.0 in absurd (omega arith)
    go false differ rest = rest

-- names that are beyond the cells have no texts
texts-beyond : (cells : List CellDecl) (es : List (CellName × Value)) → AllFrom (length cells) es → entry_texts cells es ≡ []
texts-beyond cells [] h = refl
texts-beyond cells (e ∷ es) h = ap (λ (c : Option CellDecl). texts_of c e.1 ++ entry_texts cells es) (none e.0 h.0) ∙ texts-beyond cells es h.1
  where
    none : (x : CellName) → IsFrom (length cells) x → cell_of_name cells x ≡ None
    none (Declared m) le = slice_get_past cells m le
    none (Local node births) h = refl

past : {A : Type 0} (xs : List A) (i : ℕ) → slice_get xs i ≡ None → length xs ≤ i
past xs i none = elim (slice_get_cases xs i).1 [
  | inl found ↦ absurd (let e : None ≡ Some found.0 = sym none ∙ found.2 in cc)
  | inr beyond ↦ beyond.0
]

-- where one name is beyond the cells, all later ones are
pub texts-end : (cells : List CellDecl) (e : CellName × Value) (es : List (CellName × Value)) → T (is_sorted name_cmp (e ∷ es)) → cell_of_name cells e.0 ≡ None → entry_texts cells (e ∷ es) ≡ []
texts-end cells e es s none = texts-beyond cells (e ∷ es) (here, all_less (length cells) (suc (length cells)) es (omega arith) (all_later (length cells) e.0 es here (first_of_both _ _ s)))
  where
    beyond : (x : CellName) → cell_of_name cells x ≡ None → IsFrom (length cells) x
    beyond (Declared m) e = past cells m e
    beyond (Local node births) e = tt

    here : IsFrom (length cells) e.0
    here = beyond e.0 none

-- THE TEXTS OF THE CELLS ARE THOSE OF THE ENTRIES

module _ (cells : List CellDecl) (v : StoreMap) where
  -- what the store has for the cells from n on is what the entries have for them
  abbrev HoldsFrom : ℕ → List (CellName × Value) → Type 0
  HoldsFrom n es = (k : ℕ) → n ≤ k → map.get v (Declared k) ≡ find name_cmp (Declared k) es

  -- a cell of which nothing is kept has no texts
  cell-absent : (d : CellDecl) (later : List CellDecl) (n : ℕ) (es : List (CellName × Value)) → AllFrom (suc n) es → HoldsFrom n es
      → cell_texts (suc n) later v ≡ entry_texts cells es → cell_texts n (d ∷ later) v ≡ entry_texts cells es
  cell-absent d later n es from holds rest = ap (λ (texts : List (List ℕ)). texts ++ cell_texts (suc n) later v) none ∙ rest
    where
      none : value_texts d.name d.cell (value_at v (Declared n) d.cell) ≡ []
      none =
          ap (λ (o : Option Value). value_texts d.name d.cell (unwrap_or o (bottom_of d.cell))) (holds n (omega arith) ∙ find-below n es from)
          ∙ ap (λ (b : Bool). cond b [] (told_texts d.name d.cell (bottom_of d.cell))) (value_eq-itself (bottom_of d.cell))

  -- and one of which something is kept has those of the first entry
  cell-kept : (d : CellDecl) (later : List CellDecl) (n : ℕ) (e : CellName × Value) (es : List (CellName × Value)) → slice_get cells n ≡ Some d → Declared n ≡ e.0 → map.get v (Declared n) ≡ Some e.1
      → cell_texts (suc n) later v ≡ entry_texts cells es → cell_texts n (d ∷ later) v ≡ entry_texts cells (e ∷ es)
  cell-kept d later n e es read name kept rest =
      ap (λ (o : Option Value). value_texts d.name d.cell (unwrap_or o (bottom_of d.cell)) ++ cell_texts (suc n) later v) kept
      ∙ ap (λ (texts : List (List ℕ)). value_texts d.name d.cell e.1 ++ texts) rest
      ∙ ap (λ (c : Option CellDecl). texts_of c e.1 ++ entry_texts cells es) (sym (ap (cell_of_name cells) (sym name) ∙ read))

  holds_later : (n : ℕ) (e : CellName × Value) (es : List (CellName × Value)) → Declared n ≡ e.0 → HoldsFrom n (e ∷ es) → HoldsFrom (suc n) es
  holds_later n e es name holds k le = go (eq_by_cmp name_cmp (Declared k) e.0) refl
    where
      go : (b : Bool) → eq_by_cmp name_cmp (Declared k) e.0 ≡ b → map.get v (Declared k) ≡ find name_cmp (Declared k) es
      go true same = let again : Declared k ≡ Declared n = equal_names (Declared k) e.0 same ∙ sym name in let one : k ≡ n = cc in absurd (omega arith)
      go false differ = holds k (omega arith) ∙ ap (λ (b : Bool). cond b (Some e.1) (find name_cmp (Declared k) es)) differ

  walk-step : (d : CellDecl) (later : List CellDecl) (n : ℕ) (es : List (CellName × Value)) → slice_get cells n ≡ Some d → T (is_sorted name_cmp es) → AllFrom n es → HoldsFrom n es
      → ((es : List (CellName × Value)) → T (is_sorted name_cmp es) → AllFrom (suc n) es → HoldsFrom (suc n) es → cell_texts (suc n) later v ≡ entry_texts cells es)
      → cell_texts n (d ∷ later) v ≡ entry_texts cells es
  walk-step d later n [] read s from holds rest = cell-absent d later n [] tt holds (rest [] s tt (λ k le. holds k (omega arith)))
  walk-step d later n (e ∷ es) read s from holds rest = go (eq_by_cmp name_cmp (Declared n) e.0) refl
    where
      go : (b : Bool) → eq_by_cmp name_cmp (Declared n) e.0 ≡ b → cell_texts n (d ∷ later) v ≡ entry_texts cells (e ∷ es)
      go true same =
          let name = equal_names (Declared n) e.0 same in
          cell-kept d later n e es read name (holds n (omega arith) ∙ ap (λ (b : Bool). cond b (Some e.1) (find name_cmp (Declared n) es)) same)
          (rest es (second_of_both _ _ s) (all_later n e.0 es from.0 (first_of_both _ _ s)) (holds_later n e es name holds))
      go false differ =
          let next = all_next n e es s from.0 differ in
          cell-absent d later n (e ∷ es) next holds (rest (e ∷ es) s next (λ k le. holds k (omega arith)))

  walk : (later : List CellDecl) (n : ℕ) (es : List (CellName × Value)) → later ≡ drop n cells → T (is_sorted name_cmp es) → AllFrom n es → HoldsFrom n es → cell_texts n later v ≡ entry_texts cells es
  walk [] n es are s from holds = sym (texts-beyond cells es (all_less (length cells) n es (omega (arith, length-drop n cells, ap length are)) from))
  walk (d ∷ later) n es are s from holds =
      let within : n < length cells = omega (arith, length-drop n cells, ap length are) in
      let next : d ∷ later ≡ get_or cells n d ∷ drop (suc n) cells = are ∙ drop-cons cells n d within in
      let here : get_or cells n d ≡ d = cc in
      let tail : later ≡ drop (suc n) cells = cc in
      walk-step d later n es (slice_get-get_or cells n d within ∙ ap Some here) s from holds (λ es s from holds. walk later (suc n) es tail s from holds)

pub cells-entries : (cells : List CellDecl) (v : StoreMap) → cell_texts 0 cells v ≡ entry_texts cells (map.entries v)
cells-entries cells v = walk cells v cells 0 (map.entries v) refl (map.entries_sorted v) (all_first (map.entries v)) (λ k le. map.get-entries v (Declared k))

-- THE ENTRY AT A PLACE

sorted-drop : (p : ℕ) (es : List (CellName × Value)) → T (is_sorted name_cmp es) → T (is_sorted name_cmp (drop p es))
sorted-drop zero es s = s
sorted-drop (suc p) [] s = tt
sorted-drop (suc p) (e ∷ es) s = sorted-drop p es (second_of_both _ _ s)

module _ (v : StoreMap) (p : ℕ) (n : CellName) (key : slice_get (map.keys v) p ≡ Some n) where
  abbrev at_hand : CellName × Value
  at_hand = get_or (map.entries v) p (n, Clash)

  within : p < length (map.entries v)
  within = omega (arith, slice_get_within (map.keys v) p n key, length-map (map.entries v) (λ (e : CellName × Value). e.0))

  read : slice_get (map.entries v) p ≡ Some at_hand
  read = slice_get-get_or (map.entries v) p (n, Clash) within

  its_name : at_hand.0 ≡ n
  its_name = let e : Some at_hand.0 ≡ Some n = sym (slice_get-map (λ e. e.0) (map.entries v) p ∙ ap (option_map (λ e. e.0)) read) ∙ key in cc

  split : drop p (map.entries v) ≡ at_hand ∷ drop (suc p) (map.entries v)
  split = drop-cons (map.entries v) p (n, Clash) within

  pub entries-from : (x : Value) → slice_get (map.values v) p ≡ Some x → drop p (map.entries v) ≡ (n, x) ∷ drop (suc p) (map.entries v)
  entries-from x value =
      let held : Some at_hand.1 ≡ Some x = sym (slice_get-map (λ e. e.1) (map.entries v) p ∙ ap (option_map (λ e. e.1)) read) ∙ value in
      let same : at_hand.1 ≡ x = cc in
      split ∙ ap (λ (e : CellName × Value). e ∷ drop (suc p) (map.entries v)) (ap (λ (m : CellName). (m, at_hand.1)) its_name ∙ ap (λ (y : Value). (n, y)) same)

  -- where the name is beyond the cells, no texts are left
  pub texts-after : (cells : List CellDecl) → cell_of_name cells n ≡ None → entry_texts cells (drop p (map.entries v)) ≡ []
  texts-after cells none =
      ap (entry_texts cells) split
      ∙ texts-end cells at_hand (drop (suc p) (map.entries v)) (subst (λ (es : List (CellName × Value)). T (is_sorted name_cmp es)) split (sorted-drop p (map.entries v) (map.entries_sorted v))) (ap (cell_of_name cells) its_name ∙ none)
