-- The store after a constraint is told, token by token. This project's own.
use Rattle.std.specs.Prelude.{ℕ, List, [], ◌∷◌, Option, Some, None, slice_get}
use Rattle.token_system.specs.declared.cell.Token.{Token}
use Rattle.token_system.specs.Stores.{StoreMap, after_tell}
use Rattle.agent_core.specs.declared.node.CellDecl.{CellDecl}
use Rattle.agent_core.specs.Programs.{CoreProgram}
use Rattle.agent_core.specs.Agents.{Constraint}
use Rattle.agent_core.specs.Names.{name_of}

-- the store after a token of a cell is told, where there is such a cell
abbrev pub tell_at : Option CellDecl → CoreProgram → List ℕ → StoreMap → ℕ → Token → StoreMap
tell_at (Some d) p b u cell t = after_tell u (name_of p b cell) d.cell t
tell_at None p b u cell t = u

-- the store after each token of the constraint is told
abbrev pub tell_all : CoreProgram → List ℕ → Constraint → StoreMap → StoreMap
tell_all p b [] u = u
tell_all p b (pair ∷ ask) u = tell_all p b ask (tell_at (slice_get p.cells pair.0) p b u pair.0 pair.1)
