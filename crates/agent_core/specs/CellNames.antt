-- The names of the cells of a program, as its texts have them.
use Rattle.std.specs.Prelude.{ℕ, List, [], slice_get}
use Rattle.std.specs.Option.{option_map_or}
use Rattle.agent_core.specs.declared.node.CellDecl.{CellDecl}

-- the name of the cell with this number, as the program has it
abbrev pub name_at : List CellDecl → ℕ → List ℕ
name_at cells n = option_map_or (λ d. d.name) (slice_get cells n) []
