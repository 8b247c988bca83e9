-- The `out` lines of entries: what an output has of each cell, the declared ones as in the line of a store, and the local ones behind them. This project's own.
use Rattle.std.specs.Prelude.{ℕ, List, [], ◌++◌, codes, flat_map, slice_get, Option, Some, None}
use Rattle.std.specs.FinMap.{entries}
use Rattle.token_system.specs.declared.cell.Value.{Value}
use Rattle.token_system.specs.declared.name.CellName.{CellName}
use Rattle.token_system.specs.declared.name.CellName.TheVariants.{Declared, Local}
use Rattle.token_system.specs.Stores.{StoreMap}
use Rattle.agent_core.specs.declared.node.CellDecl.{CellDecl}
use Rattle.agent_core.specs.declared.node.Node.{Node}
use Rattle.agent_core.specs.declared.node.Node.TheVariants as nodes
use Rattle.agent_core.specs.Programs.{CoreProgram}
use Rattle.trace_text.specs.StoreLines.{store_line, value_texts}
use Rattle.trace_text.specs.Writing.{separated}
use Rattle.certificate_text.specs.InLines.{line_behind}
use Rattle.certificate_text.specs.LocalNames.{local_text}

-- the cell that a node makes, if it is a new node
abbrev pub cell_made : List CellDecl → Option Node → Option CellDecl
cell_made cells (Some (nodes.New cell body)) = slice_get cells cell
cell_made cells _ = None

-- the texts of the cell of this name that has this value, where there is one
abbrev pub texts_where : List ℕ → Option CellDecl → Value → List (List ℕ)
texts_where name (Some d) x = value_texts name d.cell x
texts_where name None x = []

-- the texts of a local cell that has this value; a declared one has none here
abbrev pub local_value_texts : CoreProgram → CellName → Value → List (List ℕ)
local_value_texts p (Declared n) x = []
local_value_texts p (Local m births) x = texts_where (local_text m births) (cell_made p.cells (slice_get p.nodes m)) x

-- the texts of the local cells, in the order of their names: by node, and then by births
abbrev pub local_texts : CoreProgram → StoreMap → List (List ℕ)
local_texts p v = flat_map (λ e. local_value_texts p e.0 e.1) (entries v)

-- the word, the line of the store behind it, and each text of a local cell behind a space
abbrev pub out_line : CoreProgram → StoreMap → List ℕ
out_line p v = line_behind (codes "out") (store_line p v) ++ separated (codes " ") (local_texts p v)
