-- Each local cell of a program has one new node, which is the one that is found for it.
use Rattle.std.proofs.Common.{◌≡◌, ℕ, zero, suc, ◌+◌, ◌-◌, ◌<◌, ◌≤◌, Bool, false, not, cond, List, [], ◌∷◌, Some, None, length, ap, ◌∙◌, arith, inl, inr}
use Rattle.std.specs.Prelude.{slice_get, filter_map, unwrap_or, nat_lt}
use Rattle.std.specs.List.{position_or_len}
use Rattle.std.proofs.lemmas.Bool.{lt-ltb, ltb-false, eq-eqb, ne_eqb, cases_eq}
use Rattle.std.proofs.lemmas.Option.{slice_get_within}
use Rattle.agent_core.specs.declared.node.Node.{Node}
use Rattle.agent_core.specs.declared.node.Node.TheVariants as nodes
use Rattle.agent_core.specs.declared.node.CellDecl.{CellDecl}
use Rattle.agent_core.specs.Programs.{CoreProgram}
use Rattle.agent_core.specs.Names.{is_new_of, new_of}
use Rattle.agent_core.specs.WellFormed.{cell_of, count_up, IsWellFormed}

-- where the cells of new nodes are counted up, none is below the first
cell_above : (all : List Node) (first n : ℕ) → filter_map cell_of all ≡ count_up first n → (i c body : ℕ) → slice_get all i ≡ Some (nodes.New c body) → first ≤ c
cell_above [] first n e i c body g = absurd (cc)
cell_above (nodes.New d b ∷ all) first zero e i c body g = absurd (cc)
cell_above (nodes.New d b ∷ all) first (suc n) e zero c body g = let f : d ≡ first = cc in let h : d ≡ c = cc in omega arith
cell_above (nodes.New d b ∷ all) first (suc n) e (suc i) c body g =
    let rest : filter_map cell_of all ≡ count_up (suc first) n = cc in
    let above = cell_above all (suc first) n rest i c body g in omega arith
cell_above (node ∷ all) first n e zero c body g = absurd (cc)
cell_above (node ∷ all) first n e (suc i) c body g = cell_above all first n e i c body g

-- the first new node of a cell is the one that it has
new_place : (all : List Node) (first n : ℕ) → filter_map cell_of all ≡ count_up first n → (i c body : ℕ) → slice_get all i ≡ Some (nodes.New c body)
    → position_or_len (is_new_of c) all ≡ i
new_place [] first n e i c body g = absurd (cc)
new_place (nodes.New d b ∷ all) first zero e i c body g = absurd (cc)
new_place (nodes.New d b ∷ all) first (suc n) e zero c body g =
    let h : d ≡ c = cc in ap (λ (t : Bool). cond (not t) (1 + position_or_len (is_new_of c) all) 0) (eq-eqb d c h)
new_place (nodes.New d b ∷ all) first (suc n) e (suc i) c body g =
    let f : d ≡ first = cc in
    let rest : filter_map cell_of all ≡ count_up (suc first) n = cc in
    let above = cell_above all (suc first) n rest i c body g in
    let place = new_place all (suc first) n rest i c body g in
    ap (λ (t : Bool). cond (not t) (1 + position_or_len (is_new_of c) all) 0) (ne_eqb d c (λ h. omega arith)) ∙ omega arith
new_place (node ∷ all) first n e zero c body g = absurd (cc)
new_place (node ∷ all) first n e (suc i) c body g = let place = new_place all first n e i c body g in omega arith

-- each number that is counted has its new node
new_exists : (all : List Node) (first n : ℕ) → filter_map cell_of all ≡ count_up first n → (c : ℕ) → first ≤ c → c < first + n
    → (i body : ℕ) × (slice_get all i ≡ Some (nodes.New c body))
new_exists [] first zero e c from to = absurd (omega arith)
new_exists [] first (suc n) e c from to = absurd (cc)
new_exists (nodes.New d b ∷ all) first zero e c from to = absurd (cc)
new_exists (nodes.New d b ∷ all) first (suc n) e c from to = elim (cases_eq d c) [
  | inl same ↦ (0, b, ap (λ (k : ℕ). Some (nodes.New k b)) same)
  | inr other ↦
      let f : d ≡ first = cc in
      let rest : filter_map cell_of all ≡ count_up (suc first) n = cc in
      let found = new_exists all (suc first) n rest c (omega (arith, other)) (omega arith) in
      (suc found.0, found.1, found.2)
]
new_exists (node ∷ all) first n e c from to = let found = new_exists all first n e c from to in (suc found.0, found.1, found.2)

-- a cell of a new node is found at that node, and nowhere else
pub new_of-one : (p : CoreProgram) → IsWellFormed p → (m c body : ℕ) → slice_get p.nodes m ≡ Some (nodes.New c body) → new_of p.nodes c ≡ m
new_of-one p is m c body g =
    let place = new_place p.nodes p.declared (length p.cells - p.declared) is.locals m c body g in
    let inside : position_or_len (is_new_of c) p.nodes < length p.nodes = let lt = slice_get_within p.nodes m (nodes.New c body) g in omega arith in
    ap (λ (t : Bool). unwrap_or (cond t (Some (position_or_len (is_new_of c) p.nodes)) None) 0) (lt-ltb (position_or_len (is_new_of c) p.nodes) (length p.nodes) inside) ∙ place

-- each local cell belongs to the new node that is found for it
pub new_of-found : (p : CoreProgram) → IsWellFormed p → (c : ℕ) (d : CellDecl) → nat_lt c p.declared ≡ false → slice_get p.cells c ≡ Some d
    → (body : ℕ) × (slice_get p.nodes (new_of p.nodes c) ≡ Some (nodes.New c body))
new_of-found p is c d local g =
    let from = ltb-false c p.declared local in
    let to = slice_get_within p.cells c d g in
    let within = is.limits.within in
    let found = new_exists p.nodes p.declared (length p.cells - p.declared) is.locals c from (omega arith) in
    (found.1, ap (λ (k : ℕ). slice_get p.nodes k) (new_of-one p is found.0 c found.1 found.2) ∙ found.2)
