-- The sketch of a generated program: how many nodes and hidden cells it has, and the numbers of these cells in its table.
use Rattle.std.proofs.Common.{◌≡◌, ℕ, suc, ◌+◌, ◌*◌, ◌≤◌, List, [], ◌∷◌, ◌++◌, length, refl, ◌∙◌, arith, length-append}
use Rattle.std.specs.Prelude.{map, flat_map}
use Rattle.tdcc_reader.specs.Trees as tree
use Rattle.expansion_laws.specs.SymbolicAgents.{SymbolicAgent, symbolic_size, binders}
use Rattle.expansion_laws.specs.Expanding.{symbolic_of}
use Rattle.generated_laws.specs.GeneratedUnits.{GeneratedUnit, Follows, Defaults, Delays, Starts, Ends, Bounds}
use Rattle.generated_laws.specs.GeneratedSurfaces.{part_tree, par_of}
use Rattle.generated_laws.specs.GeneratedTables.{part_levels}

-- the sketch of a part whose root has number m, and of parts
abbrev pub part_sketch : ℕ → GeneratedUnit → SymbolicAgent
part_sketch m u = symbolic_of 40 m (part_tree u)

abbrev pub parts_sketch : ℕ → List GeneratedUnit → SymbolicAgent
parts_sketch m us = symbolic_of 40 m (par_of (map part_tree us))

-- NODES

part_small : (u : GeneratedUnit) (m : ℕ) → symbolic_size (part_sketch m u) ≤ 22
part_small (Follows i j) m = omega arith
part_small (Defaults i j) m = omega arith
part_small (Delays i j) m = omega arith
part_small (Starts i j) m = omega arith
part_small (Ends i j h) m = omega arith
part_small (Bounds i n k) m = omega arith

pub parts_small : (u : GeneratedUnit) (us : List GeneratedUnit) (m : ℕ) → symbolic_size (parts_sketch m (u ∷ us)) ≤ 22 + 23 * length us
parts_small u [] m = part_small u m
parts_small u (v ∷ vs) m =
    let left = part_small u (suc m) in
    let right = parts_small v vs (suc m + tree.form_count (part_tree u)) in
    omega arith

-- HIDDEN CELLS

pub part_levels_many : (u : GeneratedUnit) (m : ℕ) → length (binders (part_sketch m u)) ≡ length (part_levels u)
part_levels_many (Follows i j) m = refl
part_levels_many (Defaults i j) m = refl
part_levels_many (Delays i j) m = refl
part_levels_many (Starts i j) m = refl
part_levels_many (Ends i j h) m = refl
part_levels_many (Bounds i n k) m = refl

pub parts_levels_many : (us : List GeneratedUnit) (m : ℕ) → length (binders (parts_sketch m us)) ≡ length (flat_map part_levels us)
parts_levels_many [] m = refl
parts_levels_many (u ∷ []) m = part_levels_many u m ∙ more (part_levels u)
  where
    more : (xs : List ℕ) → length xs ≡ length (xs ++ [])
    more xs = omega (arith, length-append xs [])
parts_levels_many (u ∷ v ∷ vs) m =
    let next : ℕ = suc m + tree.form_count (part_tree u) in
    let left = part_levels_many u (suc m) in
    let right = parts_levels_many (v ∷ vs) next in
    omega (arith, length-append (binders (part_sketch (suc m) u)) (binders (parts_sketch next (v ∷ vs))), length-append (part_levels u) (flat_map part_levels (v ∷ vs)))

part_levels_few : (u : GeneratedUnit) → length (part_levels u) ≤ 1
part_levels_few (Follows i j) = omega arith
part_levels_few (Defaults i j) = omega arith
part_levels_few (Delays i j) = omega arith
part_levels_few (Starts i j) = omega arith
part_levels_few (Ends i j h) = omega arith
part_levels_few (Bounds i n k) = omega arith

pub levels_few : (us : List GeneratedUnit) → length (flat_map part_levels us) ≤ length us
levels_few [] = omega arith
levels_few (u ∷ us) =
    let first = part_levels_few u in
    let rest = levels_few us in
    omega (arith, length-append (part_levels u) (flat_map part_levels us))
