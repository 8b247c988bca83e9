-- Cells in a row, and the cells of a net in their order.
use Rattle.std.proofs.Common.{◌≡◌, ℕ, zero, suc, ◌+◌, ◌<◌, ◌≤◌, Bool, List, [], ◌∷◌, ◌++◌, length, get_or, Some, None, refl, sym, ap, ◌∙◌, subst, arith, length-append, ◌⊎◌, inl, inr}
use Rattle.std.specs.Prelude.{All, Contains, map, flat_map, slice_get, slice_index, cond, ◌==◌}
use Rattle.std.specs.Ordering.{nat_cmp}
use Rattle.std.specs.declared.cmp.Ordering.TheVariants.{Less, Equal, Greater}
use Rattle.std.specs.List.Sorted.{IsStrictlySortedBy}
use Rattle.std.proofs.lemmas.Bool.{lt-ltb}
use Rattle.std.proofs.lemmas.List.Elements.{All-cons, All-head, All-tail, All-push, All-append, All-same, All-weaker, All-nil}
use Rattle.std.proofs.lemmas.Option.{get_or_from_slice_get, slice_get_cases}
use Rattle.token_system.specs.declared.name.CellName.{CellName}
use Rattle.token_system.specs.declared.name.CellName.TheVariants.{Declared, Local}
use Rattle.token_system.specs.Names.{name_cmp}
use Rattle.agent_core.specs.declared.node.CellDecl.{CellDecl}
use Rattle.agent_core.specs.Programs.{CoreProgram}
use Rattle.agent_core.specs.WellFormed.{IsWellFormed}
use Rattle.agent_core.specs.Names.{Names, new_cell, cell_named}
use Rattle.instant_net.specs.declared.parts.NetCell.{NetCell}
use Rattle.instant_net.specs.NamedLeaves.{NamedLeaf, names_of}
use Rattle.instant_net.specs.Opened.{IsCellOf, AreInOrder}
use Rattle.instant_net.specs.Limits.{most_instant_cells}
use Rattle.instant_net.specs.Words.{AreLaidOut}
use Rattle.instant_net.specs.Collecting.{IsLocal, IsSpokenBy, cell_names, declared_names, unplaced, IsRow, AreCellsFor}
use Rattle.instant_net.proofs.Counts.{length-map}
use Rattle.instant_net.proofs.Lists.{get-left, get-right}
use Rattle.instant_net.proofs.WordPlaces.{hows_few}

-- A ROW

-- the cell of a name, by its number
pub named-cell : (p : CoreProgram) (n : CellName) (d : CellDecl) → Names p n d → slice_get p.cells (cell_named p n) ≡ Some d
named-cell p (Declared n) d named = named.1
named-cell p (Local m births) d (cell, body, new, found, long) =
    let same : new_cell (slice_get p.nodes m) ≡ cell = ap new_cell new in
    ap (slice_get p.cells) same ∙ found

-- a row has a cell for each of its names
pub names-count : (cells : List NetCell) (names : List CellName) → cell_names cells ≡ names → length cells ≡ length names
names-count cells names same = sym (length-map (λ (c : NetCell). c.name) cells) ∙ ap length same

-- the cell that is made of a name, its declaration and its level
pub cell-is : (p : CoreProgram) (table : List ℕ) (all : List CellDecl) (levels : List ℕ) (n : CellName) (cell k : ℕ) (x : CellDecl) → ((d : CellDecl) × Names p n d) → cell ≡ cell_named p n → all ≡ p.cells → levels ≡ table
    → x ≡ get_or all cell x → k ≡ slice_index levels cell → IsCellOf p table (record { name = n; cell = x.cell; stratum = k; first = 0; word = 0 })
cell-is p table all levels n cell k x named number same same_levels read level =
    let found : slice_get p.cells cell ≡ Some named.0 = ap (slice_get p.cells) number ∙ named-cell p n named.0 named.1 in
    let one : x ≡ named.0 = read ∙ ap (λ xs. get_or xs cell x) same ∙ get_or_from_slice_get p.cells cell named.0 x found in
    record {
      decl = named.0;
      named = named.1;
      cell = ap (λ (d : CellDecl). d.cell) one;
      stratum = level ∙ ap (λ xs. slice_index xs cell) same_levels ∙ ap (slice_index table) number;
    }

pub declared-named : (p : CoreProgram) (k : ℕ) → k < p.declared → p.declared ≤ length p.cells → (d : CellDecl) × Names p (Declared k) d
declared-named p k lt le = at (slice_get_cases p.cells k).1
  where
    at : ((d : CellDecl) × (k < length p.cells) × (slice_get p.cells k ≡ Some d) × (get_or p.cells k d ≡ d)) ⊎ ((length p.cells ≤ k) × (slice_get p.cells k ≡ None)) → (d : CellDecl) × Names p (Declared k) d
    at (inl h) = (h.0, (lt, h.2))
    at (inr h) = absurd (let g = h.0 in omega arith)

-- ORDER

abbrev InOrder : List CellName → Type 0
InOrder [] = Unit {0}
InOrder (m ∷ []) = Unit {0}
InOrder (m ∷ n ∷ names) = (name_cmp m n ≡ Less) × InOrder (n ∷ names)

cells-in_order : (cells : List NetCell) → InOrder (cell_names cells) → AreInOrder cells
cells-in_order [] h = tt
cells-in_order (c ∷ []) h = tt
cells-in_order (c ∷ d ∷ cells) h = (h.0, cells-in_order (d ∷ cells) h.1)

joined : (xs : List CellName) (x : CellName) (ys : List CellName) → InOrder (xs ++ x ∷ []) → InOrder (x ∷ ys) → InOrder ((xs ++ x ∷ []) ++ ys)
joined [] x ys h g = g
joined (a ∷ []) x ys h g = (h.0, g)
joined (a ∷ b ∷ xs) x ys h g = (h.0, joined (b ∷ xs) x ys h.1 g)

sorted-in_order : (names : List CellName) → IsStrictlySortedBy name_cmp names → InOrder names
unfolding IsStrictlySortedBy
sorted-in_order [] h = tt
sorted-in_order (m ∷ []) h = tt
sorted-in_order (m ∷ n ∷ names) h = (h.0.0, sorted-in_order (n ∷ names) h.1)

less-next : (n : ℕ) → nat_cmp n (suc n) ≡ Less
less-next n = ap (λ (b : Bool). cond b Less (cond (n == suc n) Equal Greater)) (lt-ltb n (suc n) (omega arith))

declared-less : (n : ℕ) → name_cmp (Declared n) (Declared (suc n)) ≡ Less
declared-less n = rw (less-next n) refl

before-locals : (p : CoreProgram) (n : ℕ) (names : List CellName) → All (IsLocal p) names → InOrder names → InOrder (Declared n ∷ names)
before-locals p n [] all h = tt
before-locals p n (m ∷ names) all h = (subst (λ (q : CellName). name_cmp (Declared n) q ≡ Less) (sym (all 0 m (omega arith)).is) refl, h)

declared-in_order : (n : ℕ) → InOrder (declared_names n)
declared-in_order zero = tt
declared-in_order (suc zero) = tt
declared-in_order (suc (suc n)) = joined (declared_names n) (Declared n) (Declared (suc n) ∷ []) (declared-in_order (suc n)) (declared-less n, tt)

all-in_order : (p : CoreProgram) (n : ℕ) (names : List CellName) → All (IsLocal p) names → InOrder names → InOrder (declared_names n ++ names)
all-in_order p zero names all h = h
all-in_order p (suc n) names all h = joined (declared_names n) (Declared n) names (declared-in_order (suc n)) (before-locals p n names all h)

-- WHICH CELLS THERE ARE

pub length-declared : (n : ℕ) → length (declared_names n) ≡ n
length-declared zero = refl
length-declared (suc n) = let h = length-declared n in omega (arith, length-append (declared_names n) (Declared n ∷ []))

declared-at : (n k : ℕ) → k < n → slice_get (declared_names n) k ≡ Some (Declared k)
declared-at zero k lt = absurd (omega arith)
declared-at (suc n) k lt = elim (two k n (omega arith)) [
  | inl less ↦ get-left (declared_names n) (Declared n ∷ []) k (Declared k) (declared-at n k less)
  | inr same ↦ get-right (declared_names n) (Declared n ∷ []) 0 k (Declared k) (omega (arith, length-declared n)) (ap (λ (j : ℕ). Some (Declared j)) (sym same))
]
  where
    two : (k n : ℕ) → k < suc n → (k < n) ⊎ (k ≡ n)
    two zero zero lt = inr refl
    two zero (suc n) lt = inl (omega arith)
    two (suc k) zero lt = absurd (omega arith)
    two (suc k) (suc n) lt = go (two k n (omega arith))
      where
        go : (k < n) ⊎ (k ≡ n) → (suc k < suc n) ⊎ (suc k ≡ suc n)
        go (inl h) = inl (omega arith)
        go (inr h) = inr (ap suc h)

named-at : (cells : List NetCell) (k : ℕ) (n : CellName) → slice_get (cell_names cells) k ≡ Some n → (c : NetCell) × (slice_get cells k ≡ Some c) × (c.name ≡ n)
named-at [] k n e = absurd (cc)
named-at (c ∷ cells) zero n e = (c, refl, cc)
named-at (c ∷ cells) (suc k) n e = named-at cells k n e

all-unmap : (P : CellName → Type 0) (cells : List NetCell) → All P (cell_names cells) → All (λ c. P c.name) cells
all-unmap P [] h k d lt = absurd (omega arith)
all-unmap P (c ∷ cells) h zero d lt = h 0 c.name (omega arith)
all-unmap P (c ∷ cells) h (suc k) d lt = all-unmap P cells (λ j n lt'. h (suc j) n (omega arith)) k d (omega arith)

declared-each : (ls : List NamedLeaf) (n : ℕ) → All (λ q. ((k : ℕ) × (q ≡ Declared k)) ⊎ Contains (flat_map names_of ls) q) (declared_names n)
declared-each ls zero = All-nil (λ q. ((k : ℕ) × (q ≡ Declared k)) ⊎ Contains (flat_map names_of ls) q)
declared-each ls (suc n) = All-push (λ q. ((k : ℕ) × (q ≡ Declared k)) ⊎ Contains (flat_map names_of ls) q) (declared_names n) (Declared n) (declared-each ls n) (inl (n, refl))

-- CELLS THAT ARE LAID OUT

first_of : {X : Type 0} (x y : X) (xs ys : List X) → x ∷ xs ≡ y ∷ ys → x ≡ y
first_of x y xs ys e = cc

rest_of : {X : Type 0} (x y : X) (xs ys : List X) → x ∷ xs ≡ y ∷ ys → xs ≡ ys
rest_of x y xs ys e = cc

-- a cell is that of its name wherever it stands in the words
placed-cell : (p : CoreProgram) (table : List ℕ) (c d : NetCell) → unplaced d ≡ unplaced c → IsCellOf p table c → IsCellOf p table d
placed-cell p table c d same is =
    let without : IsCellOf p table (unplaced c) = record { decl = is.decl; named = is.named; cell = is.cell; stratum = is.stratum } in
    let moved = subst (IsCellOf p table) (sym same) without in
    record { decl = moved.decl; named = moved.named; cell = moved.cell; stratum = moved.stratum }

placed-cells : (p : CoreProgram) (table : List ℕ) (cells laid : List NetCell) → map unplaced laid ≡ map unplaced cells → All (IsCellOf p table) cells → All (IsCellOf p table) laid
placed-cells p table [] [] same h = h
placed-cells p table [] (d ∷ laid) same h = absurd (cc)
placed-cells p table (c ∷ cells) [] same h = absurd (cc)
placed-cells p table (c ∷ cells) (d ∷ laid) same h =
    All-cons (IsCellOf p table) d laid (placed-cell p table c d (first_of (unplaced d) (unplaced c) (map unplaced laid) (map unplaced cells) same) (All-head (IsCellOf p table) c cells h))
    (placed-cells p table cells laid (rest_of (unplaced d) (unplaced c) (map unplaced laid) (map unplaced cells) same) (All-tail (IsCellOf p table) c cells h))

names-unplaced : (cells : List NetCell) → cell_names (map unplaced cells) ≡ cell_names cells
names-unplaced [] = refl
names-unplaced (c ∷ cells) = ap (λ ns. c.name ∷ ns) (names-unplaced cells)

pub placed-names : (cells laid : List NetCell) → map unplaced laid ≡ map unplaced cells → cell_names laid ≡ cell_names cells
placed-names cells laid same = sym (names-unplaced laid) ∙ ap cell_names same ∙ names-unplaced cells

-- the row of the declared cells and of the local ones that leaves speak of, laid out
pub cells-are : (p : CoreProgram) (table : List ℕ) (ls : List NamedLeaf) (cells laid : List NetCell) (names : List CellName) → IsWellFormed p → IsRow p table cells → cell_names cells ≡ declared_names p.declared ++ names
    → All (IsSpokenBy p ls) names → IsStrictlySortedBy name_cmp names → p.declared + length names ≤ most_instant_cells → AreLaidOut laid → map unplaced laid ≡ map unplaced cells → AreCellsFor p table ls laid
cells-are p table ls cells laid names is row named spoken order few places unmoved =
    let same : cell_names laid ≡ declared_names p.declared ++ names = placed-names cells laid unmoved ∙ named in
    let P : CellName → Type 0 = λ q. ((k : ℕ) × (q ≡ Declared k)) ⊎ Contains (flat_map names_of ls) q in
    let locals : All (IsLocal p) names = All-weaker (IsSpokenBy p ls) (IsLocal p) (λ q h. h.local) names spoken in
    let each : All P names = All-weaker (IsSpokenBy p ls) P (λ q h. inr h.spoken) names spoken in
    let long = names-count laid (declared_names p.declared ++ names) same in
    let both = length-append (declared_names p.declared) names in
    let declared = length-declared p.declared in
    let words = hows_few laid in
    record {
      program = is;
      each = placed-cells p table cells laid unmoved row;
      order = cells-in_order laid (subst InOrder (sym same) (all-in_order p p.declared names locals (sorted-in_order names order)));
      laid_out = places;
      declared = λ k lt. named-at laid k (Declared k) (ap (λ xs. slice_get xs k) same ∙ get-left (declared_names p.declared) names k (Declared k) (declared-at p.declared k lt));
      spoken = all-unmap P laid (All-same P (cell_names laid) (declared_names p.declared ++ names) same (All-append P (declared_names p.declared) names (declared-each ls p.declared) each));
      few = omega arith;
      few_words = omega arith;
    }
