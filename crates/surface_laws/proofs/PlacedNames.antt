-- Each name in scope has its cell: a cell of its kind, declared or local around the place.
use Rattle.std.proofs.Common.{◌≡◌, ℕ, ◌+◌, ◌<◌, ◌≤◌, ℤ, List, [], ◌∷◌, ◌++◌, length, Some, None, Bool, true, false, refl, ap, sym, ◌∙◌, arith, subst, inl, inr, bytes_eq, length-append, append_assoc}
use Rattle.std.specs.Prelude.{◌⊎◌, ◌&&◌, map, slice_get, int_lt, int_le, if◌then◌else◌}
use Rattle.std.proofs.lemmas.Int.{ints}
use Rattle.program_lexemes.specs.declared.bytes.TextForm.{TextForm}
use Rattle.token_system.specs.Domain.{is_bound, is_cell}
use Rattle.token_system.specs.declared.cell.Kind.{Kind}
use Rattle.token_system.specs.declared.cell.Kind.TheVariants as kind
use Rattle.agent_core.specs.declared.node.CellDecl.{CellDecl}
use Rattle.agent_core.specs.Programs.{CoreProgram}
use Rattle.agent_core.specs.WellFormed.{IsAmong}
use Rattle.program_grammar.specs.Phrases.{NamesPhrase, LastName, MoreName, ItemsPhrase, LastItem, MoreItem}
use Rattle.tdcc_reader.specs.Scope.{Known, known, kind_in_scope, declared_fault, domain_fault, item_fault, names_known, items_fault, items_known}
use Rattle.tdcc_reader.specs.Surfaces.{Placed, placed, cell_in_scope, Declared, declared, declared_signal, declared_number, cell_view, names_cells, names_scope, items_cells, items_scope}
use Rattle.tdcc_reader.proofs.Asks.{none_left, none_right}
use Rattle.surface_laws.proofs.CellViews.{seen_cell}
use Rattle.surface_laws.proofs.FitPhrases.{ItemFit, ItemsFit}

-- this is a cell of the kind, declared or one of these local ones
pub record IsCellOf (p : CoreProgram) (locals : List ℕ) (cell : ℕ) (k : Kind) : Type 0 where
  pub visible : (cell < p.declared) ⊎ IsAmong locals cell
  pub decl : CellDecl
  pub found : slice_get p.cells cell ≡ Some decl
  pub kind : decl.cell.kind ≡ k

-- each known name has such a cell
pub record ArePlaced (p : CoreProgram) (locals : List ℕ) (names : List Known) (places : List Placed) : Type 0 where
  pub each : (x : List ℕ) (k : Kind) → kind_in_scope names x ≡ Some k → IsCellOf p locals (cell_in_scope places x) k

pub none_placed : (p : CoreProgram) → ArePlaced p [] [] []
none_placed p = record { each = λ x k e. cc }

-- a cell is still one where there are more local ones
wider : (p : CoreProgram) (locals : List ℕ) (local cell : ℕ) (k : Kind) → IsCellOf p locals cell k → IsCellOf p (local ∷ locals) cell k
wider p locals local cell k is = record { visible = go is.visible; decl = is.decl; found = is.found; kind = is.kind }
  where
    go : (cell < p.declared) ⊎ IsAmong locals cell → (cell < p.declared) ⊎ IsAmong (local ∷ locals) cell
    go (inl h) = inl h
    go (inr h) = inr (inr h)

-- a name more, with its cell
name_placed : (p : CoreProgram) (locals : List ℕ) (names : List Known) (places : List Placed) (x : List ℕ) (k : Kind) (n : ℕ)
    → ArePlaced p locals names places → IsCellOf p locals n k → ArePlaced p locals (known x k ∷ names) (placed x n ∷ places)
name_placed p locals names places x k n are is = record { each = λ y j e. go y j (bytes_eq x y) e }
  where
    go : (y : List ℕ) (j : Kind) (b : Bool) → (if b then Some k else kind_in_scope names y) ≡ Some j → IsCellOf p locals (if b then n else cell_in_scope places y) j
    go y j true e = let f : k ≡ j = cc in subst (IsCellOf p locals n) f is
    go y j false e = are.each y j e

all_wider : (p : CoreProgram) (locals : List ℕ) (local : ℕ) (names : List Known) (places : List Placed) → ArePlaced p locals names places → ArePlaced p (local ∷ locals) names places
all_wider p locals local names places are = record { each = λ x k e. wider p locals local (cell_in_scope places x) k (are.each x k e) }

at_seam : (front back : List Declared) (d : Declared) → slice_get (front ++ d ∷ back) (length front) ≡ Some d
at_seam [] back d = refl
at_seam (x ∷ front) back d = at_seam front back d

-- what is seen behind the cells in front
pub seen_behind : (cells : List CellDecl) (front back : List Declared) (d : Declared) (n : ℕ) → map cell_view cells ≡ front ++ d ∷ back → length front ≡ n → (c : CellDecl) × (slice_get cells n ≡ Some c) × (cell_view c ≡ d)
seen_behind cells front back d n whole long = seen_cell cells n d (ap (λ (l : List Declared). slice_get l n) whole ∙ ap (slice_get (front ++ d ∷ back)) (sym long) ∙ at_seam front back d)

-- the cell behind those in front
cell_behind : (p : CoreProgram) (locals : List ℕ) (front back : List Declared) (d : Declared) (n : ℕ) → map cell_view p.cells ≡ front ++ d ∷ back → length front ≡ n
    → (n < p.declared) ⊎ IsAmong locals n → IsCellOf p locals n d.kind
cell_behind p locals front back d n whole long visible =
    let (c, found, seen) = seen_behind p.cells front back d n whole long in
    record { visible = visible; decl = c; found = found; kind = ap (λ (e : Declared). e.kind) seen }

-- A local name, with its cell.
pub local_placed : (p : CoreProgram) (locals : List ℕ) (names : List Known) (places : List Placed) (front back : List Declared) (x : List ℕ) (d : Declared) (k : Kind) (n : ℕ)
    → map cell_view p.cells ≡ front ++ d ∷ back → length front ≡ n → d.kind ≡ k → ArePlaced p locals names places → ArePlaced p (n ∷ locals) (known x k ∷ names) (placed x n ∷ places)
local_placed p locals names places front back x d k n whole long is are =
    name_placed p (n ∷ locals) names places x k n (all_wider p locals n names places are)
    (subst (IsCellOf p (n ∷ locals) n) is (cell_behind p (n ∷ locals) front back d n whole long (inr (inl refl))))

-- a declared name, with its cell
declared_placed : (p : CoreProgram) (names : List Known) (places : List Placed) (front back : List Declared) (x : List ℕ) (d : Declared) (k : Kind) (n : ℕ)
    → map cell_view p.cells ≡ front ++ d ∷ back → length front ≡ n → n < p.declared → d.kind ≡ k → ArePlaced p [] names places → ArePlaced p [] (known x k ∷ names) (placed x n ∷ places)
declared_placed p names places front back x d k n whole long few is are =
    name_placed p [] names places x k n are (subst (IsCellOf p [] n) is (cell_behind p [] front back d n whole long (inl few)))

-- the front goes on by a cell
pub whole_more : (cs front more : List Declared) (d : Declared) → cs ≡ front ++ d ∷ more → cs ≡ (front ++ d ∷ []) ++ more
whole_more cs front more d e = e ∙ sym (append_assoc front (d ∷ []) more)

pub long_more : (front : List Declared) (d : Declared) (n : ℕ) → length front ≡ n → length (front ++ d ∷ []) ≡ n + 1
long_more front d n e = let l = length-append front (d ∷ []) in omega arith

pub names_placed : (ns : NamesPhrase) (p : CoreProgram) (names : List Known) (places : List Placed) (front back : List Declared) (n : ℕ)
    → map cell_view p.cells ≡ front ++ (names_cells ns ++ back) → length front ≡ n → n + length (names_cells ns) ≤ p.declared → ArePlaced p [] names places
    → ArePlaced p [] (names_known ns names) (names_scope ns places n)
names_placed (LastName x) p names places front back n whole long few are = declared_placed p names places front back x (declared_signal x) kind.Signal n whole long (omega arith) refl are
names_placed (MoreName x ns) p names places front back n whole long few are =
    names_placed ns p (known x kind.Signal ∷ names) (placed x n ∷ places) (front ++ declared_signal x ∷ []) back (n + 1)
    (whole_more (map cell_view p.cells) front (names_cells ns ++ back) (declared_signal x) whole) (long_more front (declared_signal x) n long) (omega arith)
    (declared_placed p names places front (names_cells ns ++ back) x (declared_signal x) kind.Signal n whole long (omega arith) refl are)

ordered : (l h : ℤ) → int_lt h l ≡ false → int_le l h ≡ true
ordered l h e = grind (arith, ints)

all_three : (a b c : Bool) → a ≡ true → b ≡ true → c ≡ true → (a && b && c) ≡ true
all_three true true c p q r = r
all_three true false c p q r = cc
all_three false b c p q r = cc

no_fault : {A : Type 0} (b : Bool) (f : A) → (if b then Some f else None) ≡ None → b ≡ false
no_fault true f e = cc
no_fault false f e = refl

-- The cell of a domain without a fault is that of a declared_number.
pub number_kind : (form : TextForm) (x : List ℕ) (l h : ℤ) (names : List Known) (at : ℕ) → ItemFit form x l h → item_fault x l h names at ≡ None → (declared_number x l h).kind ≡ kind.Number
number_kind form x l h names at fit e =
    let o : int_lt h l ≡ false = no_fault (int_lt h l) _ (none_right (declared_fault x names at) (domain_fault l h (at + 2)) e) in
    let is : is_cell kind.Number l h ≡ true = all_three (is_bound l) (is_bound h) (int_le l h) fit.low_fit fit.high_fit (ordered l h o) in
    ap (λ (b : Bool). (if b then declared x kind.Number l h else declared_signal x).kind) is

pub items_placed : (form : TextForm) (is : ItemsPhrase) (p : CoreProgram) (names : List Known) (places : List Placed) (front back : List Declared) (n at : ℕ)
    → map cell_view p.cells ≡ front ++ (items_cells is ++ back) → length front ≡ n → n + length (items_cells is) ≤ p.declared → ItemsFit form is → items_fault is names at ≡ None → ArePlaced p [] names places
    → ArePlaced p [] (items_known is names) (items_scope is places n)
items_placed form (LastItem x l h) p names places front back n at whole long few fit e are =
    declared_placed p names places front back x (declared_number x l h) kind.Number n whole long (omega arith) (number_kind form x l h names at fit e) are
items_placed form (MoreItem x l h is) p names places front back n at whole long few fit e are =
    let here = number_kind form x l h names at fit.0 (none_left (item_fault x l h names at) (items_fault is (known x kind.Number ∷ names) (at + 6)) e) in
    items_placed form is p (known x kind.Number ∷ names) (placed x n ∷ places) (front ++ declared_number x l h ∷ []) back (n + 1) (at + 6)
    (whole_more (map cell_view p.cells) front (items_cells is ++ back) (declared_number x l h) whole) (long_more front (declared_number x l h) n long) (omega arith)
    fit.1 (none_right (item_fault x l h names at) (items_fault is (known x kind.Number ∷ names) (at + 6)) e)
    (declared_placed p names places front (items_cells is ++ back) x (declared_number x l h) kind.Number n whole long (omega arith) here are)
