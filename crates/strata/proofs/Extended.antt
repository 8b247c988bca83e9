-- Each table that stratifies a program comes from one of its cells and nodes that meets the bounds: a node gets the least number of a cell that is told below it.
use Rattle.std.proofs.Common.{◌≡◌, inl, inr, ℕ, zero, suc, ◌+◌, ◌<◌, ◌≤◌, Bool, true, false, List, [], ◌∷◌, ◌++◌, length, map, refl, sym, ap, ◌∙◌, subst, arith}
use Rattle.std.specs.Prelude.{All, slice_index, min, max, if◌then◌else◌}
use Rattle.std.specs.List.{range_with_len}
use Rattle.std.proofs.lemmas.List.{get_or_append_left, get_or-append-add}
use Rattle.std.proofs.lemmas.List.FromFn.{get_or-map-range_with_len}
use Rattle.std.proofs.Math.Nat.{le-min, min-le_left, min-le_right}
use Rattle.agent_core.specs.Programs.{CoreProgram}
use Rattle.agent_core.specs.WellFormed.{IsWellFormed}
use Rattle.agent_core.specs.Strata.{Edge, edges, In, Each, Stratifies}
use Rattle.agent_core.specs.Strata as strata
use Rattle.order_tables.specs.declared.bound.Bound.{Bound}
use Rattle.order_tables.specs.Bounds.{Satisfies, Within}
use Rattle.strata.specs.Items.{program_bounds}
use Rattle.strata.proofs.Members.{in_each, each_all, each-map}
use Rattle.strata.proofs.Under.{tells}
use Rattle.strata.proofs.Grounded.{ToldBound, DownBound, AskBound, Grounded, bounds-grounded}

-- a number above all of the table
above_all : List ℕ → ℕ
above_all [] = 1
above_all (x ∷ xs) = max (suc x) (above_all xs)

table-low : (table : List ℕ) (c : ℕ) → slice_index table c + 1 ≤ above_all table
unfolding above_all
table-low [] c = omega arith
table-low (x ∷ xs) zero = omega arith
table-low (x ∷ xs) (suc c) = let h = table-low xs c in omega arith

-- the least number of these cells, or else this one
lowest : List ℕ → ℕ → List (ℕ × ℕ) → ℕ
lowest table most [] = most
lowest table most (t ∷ ts) = min (slice_index table t.1) (lowest table most ts)

lowest-le : (table : List ℕ) (most : ℕ) (ts : List (ℕ × ℕ)) (t : ℕ × ℕ) → In t ts → lowest table most ts ≤ slice_index table t.1
unfolding lowest
lowest-le table most [] t i = absurd i
lowest-le table most (x ∷ ts) t (inl e) = let a = min-le_left (slice_index table x.1) (lowest table most ts) in let same : slice_index table t.1 ≡ slice_index table x.1 = ap (λ (y : ℕ × ℕ). slice_index table y.1) e in omega arith
lowest-le table most (x ∷ ts) t (inr i) = let a = min-le_right (slice_index table x.1) (lowest table most ts) in let h = lowest-le table most ts t i in omega arith

lowest-most : (table : List ℕ) (most : ℕ) (ts : List (ℕ × ℕ)) → lowest table most ts ≤ most
unfolding lowest
lowest-most table most [] = omega arith
lowest-most table most (x ∷ ts) = let a = min-le_right (slice_index table x.1) (lowest table most ts) in let h = lowest-most table most ts in omega arith

le-lowest : (table : List ℕ) (most k : ℕ) (ts : List (ℕ × ℕ)) → k ≤ most → ((t : ℕ × ℕ) → In t ts → k ≤ slice_index table t.1) → k ≤ lowest table most ts
unfolding lowest
le-lowest table most k [] le h = le
le-lowest table most k (x ∷ ts) le h = le-min (h x (inl refl)) (le-lowest table most k ts le (λ t i. h t (inr i)))

module _ (p : CoreProgram) (table : List ℕ) (s : Stratifies p table) where
  abbrev cells : ℕ
  cells = length p.cells

  below : ℕ → ℕ
  below n = lowest table (above_all table) (tells p n)

  -- the table, with the nodes after the cells
  pub full : List ℕ
  full = table ++ map below (range_with_len 0 (length p.nodes))

  pub at_cell : (c : ℕ) → c < cells → slice_index full c ≡ slice_index table c
  unfolding full
  at_cell c lt = get_or_append_left table (map below (range_with_len 0 (length p.nodes))) 0 c (let l = s.long in omega arith)

  at_node : (n : ℕ) → n < length p.nodes → slice_index full (cells + n) ≡ below n
  unfolding full
  at_node n lt =
      let long : length table + n ≡ cells + n = let l = s.long in omega arith in
      ap (slice_index full) (sym long) ∙ get_or-append-add table (map below (range_with_len 0 (length p.nodes))) n 0
      ∙ get_or-map-range_with_len below 0 (length p.nodes) n n 0 lt (omega arith)

  told_meets : (e : Bound) → ToldBound p e → Satisfies full e
  unfolding below
  told_meets e g = subst (Satisfies full) (sym g.is) (
      let a = at_node g.from g.node in
      let b = at_cell g.told g.cell in
      let le = lowest-le table (above_all table) (tells p g.from) (g.below.0, g.told) g.below.1 in
      omega arith)

  down_meets : (e : Bound) → DownBound p e → Satisfies full e
  unfolding below
  down_meets e g = subst (Satisfies full) (sym g.is) (
      let a = at_node g.from g.node in
      let b = at_node g.to g.part in
      let le = le-lowest table (above_all table) (lowest table (above_all table) (tells p g.from)) (tells p g.to) (lowest-most table (above_all table) (tells p g.from)) (λ t i. lowest-le table (above_all table) (tells p g.from) t (g.below t i)) in
      omega arith)

  ask_meets : (e : Bound) → AskBound p e → Satisfies full e
  unfolding below
  ask_meets e g = subst (Satisfies full) (sym g.is) (
      let a = at_cell g.asked g.cell in
      let b = at_node g.to g.part in
      let low = table-low table g.asked in
      let least = le-lowest table (above_all table) (slice_index table g.asked + (if g.negative then 1 else 0)) (tells p g.to) (at_most g.negative (slice_index table g.asked) low) (λ t i. made t (g.makes t i)) in
      omega arith)
    where
      at_most : (b : Bool) (x : ℕ) → x + 1 ≤ above_all table → x + (if b then 1 else 0) ≤ above_all table
      at_most true x le = omega arith
      at_most false x le = omega arith

      made : (t : ℕ × ℕ) → (x : Edge) × In x (edges p) × (x.guard.cell ≡ g.asked) × (x.guard.negative ≡ g.negative) × (x.told ≡ t.1) → slice_index table g.asked + (if g.negative then 1 else 0) ≤ slice_index table t.1
      made t m =
          let met = in_each (strata.Meets table) (edges p) m.0 s.each m.1 in
          let one = subst (λ (k : ℕ). slice_index table k + (if m.0.guard.negative then 1 else 0) ≤ slice_index table m.0.told) m.2 met in
          let two = subst (λ (b : Bool). slice_index table g.asked + (if b then 1 else 0) ≤ slice_index table m.0.told) m.3 one in
          subst (λ (k : ℕ). slice_index table g.asked + (if g.negative then 1 else 0) ≤ slice_index table k) m.4 two

  meets : (e : Bound) → Grounded p e → Satisfies full e
  meets e (inl g) = told_meets e g
  meets e (inr (inl g)) = down_meets e g
  meets e (inr (inr g)) = ask_meets e g

  pub full-meets : IsWellFormed p → All (Satisfies full) (program_bounds p)
  full-meets is = each_all (Satisfies full) (program_bounds p) (each-map (Grounded p) (Satisfies full) meets (program_bounds p) (bounds-grounded p is))

-- ARCS LIE WITHIN

within : (p : CoreProgram) (e : Bound) → Grounded p e → Within (length p.cells + length p.nodes) e
within p e (inl g) = subst (Within (length p.cells + length p.nodes)) (sym g.is) (let a = g.node in let b = g.cell in (omega arith, omega arith))
within p e (inr (inl g)) = subst (Within (length p.cells + length p.nodes)) (sym g.is) (let a = g.node in let b = g.part in (omega arith, omega arith))
within p e (inr (inr g)) = subst (Within (length p.cells + length p.nodes)) (sym g.is) (let a = g.part in let b = g.cell in (omega arith, omega arith))

pub bounds-within : (p : CoreProgram) → IsWellFormed p → All (Within (length p.cells + length p.nodes)) (program_bounds p)
bounds-within p is = each_all (Within (length p.cells + length p.nodes)) (program_bounds p) (each-map (Grounded p) (Within (length p.cells + length p.nodes)) (within p) (program_bounds p) (bounds-grounded p is))
