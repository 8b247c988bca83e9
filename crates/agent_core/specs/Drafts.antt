-- What the test of a program looks at: cells and nodes that may make one, and the local cells around a place. This project's own.
use Rattle.std.specs.Prelude.{ℕ, List, [], ◌∷◌}
use Rattle.agent_core.specs.declared.candidate.Around.{Around, Nothing, Within'}
use Rattle.agent_core.specs.declared.candidate.Candidate.{Candidate}
use Rattle.agent_core.specs.Programs.{CoreProgram}

-- the local cells, innermost first
abbrev pub locals_of : Around → List ℕ
locals_of Nothing = []
locals_of (Within' cell p outer) = cell ∷ locals_of outer

-- the program that these would make
abbrev pub core_of : Candidate → CoreProgram
core_of d = record { cells = d.cells.now; declared = d.declared; nodes = d.nodes.now }
