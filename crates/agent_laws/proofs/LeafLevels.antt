-- Leaves that a table stratifies: what each told cell's number has to do with those of the asked cells.
use Rattle.std.proofs.Common.{ℕ, ◌<◌, ◌≤◌, List, arith}
use Rattle.std.specs.Prelude.{slice_index}
use Rattle.agent_core.specs.Leaves.{Guard, Positive, Negative, Leaf, tells}
use Rattle.agent_core.specs.Strata.{Each}
use Rattle.agent_laws.proofs.Eachs.{Each-map}

-- a cell of number k may be told under the guard: no cell of a then ask has a greater number, and each cell of an else ask a lesser one
abbrev pub Under : List ℕ → ℕ → Guard → Type 0
Under table k (Positive b c) = Each (λ x. slice_index table x.0 ≤ k) c
Under table k (Negative b c) = Each (λ x. slice_index table x.0 < k) c

-- each told cell may be told under each guard of the path
abbrev pub LeafStratified : List ℕ → Leaf → Type 0
LeafStratified table l = Each (λ x. Each (Under table (slice_index table x.0)) l.path) (tells l.agent)

under-le : (table : List ℕ) (k m : ℕ) (g : Guard) → k ≤ m → Under table k g → Under table m g
under-le table k m (Positive b c) le h = Each-map (λ x. slice_index table x.0 ≤ k) (λ x. slice_index table x.0 ≤ m) (λ x l. omega arith) c h
under-le table k m (Negative b c) le h = Each-map (λ x. slice_index table x.0 < k) (λ x. slice_index table x.0 < m) (λ x l. omega arith) c h

-- what may be told under a path may be told with a greater number
pub path-le : (table : List ℕ) (k m : ℕ) (path : List Guard) → k ≤ m → Each (Under table k) path → Each (Under table m) path
path-le table k m path le h = Each-map (Under table k) (Under table m) (λ g. under-le table k m g le) path h
