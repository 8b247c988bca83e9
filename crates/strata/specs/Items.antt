-- The bounds between the cells and the nodes of a program. A node's number is at most that of each cell that is told below it within the instant. This project's own.
use Rattle.std.specs.Prelude.{◌≡◌, ℕ, suc, ◌+◌, ◌<◌, Some, slice_get, Bool, true, false, List, [], ◌∷◌, ◌++◌, length, map}
use Rattle.agent_core.specs.declared.node.Node.{Node}
use Rattle.agent_core.specs.declared.node.Node.TheVariants as nodes
use Rattle.agent_core.specs.Programs.{CoreProgram}
use Rattle.agent_core.specs.Agents.{Constraint}
use Rattle.agent_core.specs.Strata.{Each}
use Rattle.order_tables.specs.declared.bound.Bound.{Bound}

-- a bound from one number to another
abbrev pub bound : ℕ → ℕ → Bool → Bound
bound low high negative = record { low = low; high = high; negative = negative }

-- the bounds of node n, where the nodes are numbered after so many cells
abbrev pub node_bounds : ℕ → ℕ → Node → List Bound
node_bounds cells n nodes.Skip = []
node_bounds cells n (nodes.Tell told) = map (λ x. bound (cells + n) x.0 false) told
node_bounds cells n (nodes.Then ask body) = bound (cells + n) (cells + body) false ∷ map (λ x. bound x.0 (cells + body) false) ask
node_bounds cells n (nodes.Else ask body) = bound (cells + n) (cells + body) false ∷ map (λ x. bound x.0 (cells + body) true) ask
node_bounds cells n (nodes.Par left right) = bound (cells + n) (cells + left) false ∷ bound (cells + n) (cells + right) false ∷ []
node_bounds cells n (nodes.New cell body) = bound (cells + n) (cells + body) false ∷ []
node_bounds cells n (nodes.Hence body) = []
node_bounds cells n (nodes.Next body) = []

-- the bounds of the nodes from number n on
abbrev pub bounds_from : ℕ → ℕ → List Node → List Bound
bounds_from cells n [] = []
bounds_from cells n (node ∷ later) = node_bounds cells n node ++ bounds_from cells (suc n) later

-- the bounds of all its nodes
abbrev pub program_bounds : CoreProgram → List Bound
program_bounds p = bounds_from (length p.cells) 0 p.nodes

-- each cell of the constraint is one of so many
abbrev pub AskInside : ℕ → Constraint → Type 0
AskInside cells ask = Each (λ x. x.0 < cells) ask

-- what the node names is one of so many cells and one of so many nodes
abbrev pub NodeInside : ℕ → ℕ → Node → Type 0
NodeInside cells size nodes.Skip = Unit {0}
NodeInside cells size (nodes.Tell told) = AskInside cells told
NodeInside cells size (nodes.Then ask body) = AskInside cells ask × (body < size)
NodeInside cells size (nodes.Else ask body) = AskInside cells ask × (body < size)
NodeInside cells size (nodes.Par left right) = (left < size) × (right < size)
NodeInside cells size (nodes.New cell body) = body < size
NodeInside cells size (nodes.Hence body) = body < size
NodeInside cells size (nodes.Next body) = body < size

abbrev pub AllInside : ℕ → List Node → Type 0
AllInside cells all = (n : ℕ) (node : Node) → slice_get all n ≡ Some node → NodeInside cells (length all) node
