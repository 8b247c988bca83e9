-- Which surfaces have too large a core program. This project's own.
use Rattle.std.specs.Prelude.{ℕ, ◌+◌, ◌<◌, ◌≤◌, length}
use Rattle.agent_core.specs.Limits.{most_nodes, most_cells}
use Rattle.tdcc_reader.specs.Surfaces.{SurfaceProgram}
use Rattle.expansion_laws.specs.SymbolicAgents.{SymbolicAgent, symbolic_size, binders}
use Rattle.expansion_laws.specs.Expansions.{IsSymbolicOf}
use Rattle.derived_forms.specs.declared.fault.ExpandFault.{ExpandFault}
use Rattle.derived_forms.specs.declared.fault.ExpandFault.TheVariants.{TooManyNodes, TooManyCells, Memory}

-- The core program would have more than 4,096 nodes; or it would not, and it would have more than 1,024 cells. Want
-- of memory says nothing of the surface.
abbrev pub RefusesExpansion : SurfaceProgram → ExpandFault → Type 0
RefusesExpansion s TooManyNodes = (d : SymbolicAgent) × IsSymbolicOf s d × (most_nodes < symbolic_size d)
RefusesExpansion s TooManyCells =
    (d : SymbolicAgent) × IsSymbolicOf s d × (symbolic_size d ≤ most_nodes) × (most_cells < s.declared + length (binders d))
RefusesExpansion s Memory = Unit {0}

-- So many nodes are too many; the number of cells is not told before the symbolic agent is whole.
abbrev pub IsTooLarge : ℕ → ExpandFault → Type 0
IsTooLarge nodes TooManyNodes = most_nodes < nodes
IsTooLarge nodes TooManyCells = ⊥
IsTooLarge nodes Memory = Unit {0}
