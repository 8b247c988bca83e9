-- Core texts: a line for each declared cell, and then a line with the agent. This project's own syntax.
use Rattle.std.specs.Prelude.{ℕ, List, [], ◌++◌, codes, take, flat_map, slice_get}
use Rattle.std.specs.List.{join_by}
use Rattle.std.specs.Option.{option_map_or}
use Rattle.std.specs.Fmt.{signed_decimal}
use Rattle.token_system.specs.declared.cell.Kind.{Kind}
use Rattle.token_system.specs.declared.cell.Kind.TheVariants.{Signal, Number}
use Rattle.token_system.specs.declared.cell.Cell.{Cell}
use Rattle.token_system.specs.Texts.{text_of}
use Rattle.agent_core.specs.declared.node.CellDecl.{CellDecl}
pub use Rattle.agent_core.specs.CellNames.{name_at}
use Rattle.agent_core.specs.Agents.{Agent, Constraint, Skip, Tell, Then, Else, Par, New, Hence, Next, agent_at}
use Rattle.agent_core.specs.Programs.{CoreProgram}

-- CELLS

-- `LO..HI`
abbrev pub domain_text : Cell → List ℕ
domain_text c = signed_decimal c.lo ++ codes ".." ++ signed_decimal c.hi

-- `signal NAME`, or `int NAME in LO..HI`
abbrev pub cell_text : Kind → CellDecl → List ℕ
cell_text Signal d = codes "signal " ++ d.name
cell_text Number d = codes "int " ++ d.name ++ codes " in " ++ domain_text d.cell

abbrev pub decl_text : CellDecl → List ℕ
decl_text d = cell_text d.cell.kind d

-- a line for each cell
abbrev pub decl_lines : List CellDecl → List ℕ
decl_lines cells = flat_map (λ d. decl_text d ++ codes ";\n") cells

-- the cell with this number, as it is declared
abbrev pub decl_at : List CellDecl → ℕ → List ℕ
decl_at cells n = option_map_or decl_text (slice_get cells n) []

-- AGENTS

-- the tokens in their order, with ` & ` between them
abbrev pub constraint_text : List CellDecl → Constraint → List ℕ
constraint_text cells ask = join_by (λ x. text_of (name_at cells x.0) x.1) (codes " & ") ask

-- the text of an agent where it is to be one unit: a par stands in braces
abbrev pub as_unit : Agent → List ℕ → List ℕ
as_unit (Par l r) text = codes "{ " ++ text ++ codes " }"
as_unit _ text = text

-- the left part of a par and every body is a unit
abbrev pub agent_text : List CellDecl → Agent → List ℕ
agent_text cells Skip = codes "skip"
agent_text cells (Tell c) = constraint_text cells c
agent_text cells (Then c a) = codes "if " ++ constraint_text cells c ++ codes " then " ++ as_unit a (agent_text cells a)
agent_text cells (Else c a) = codes "if " ++ constraint_text cells c ++ codes " else " ++ as_unit a (agent_text cells a)
agent_text cells (Par l r) = as_unit l (agent_text cells l) ++ codes " || " ++ agent_text cells r
agent_text cells (New cell a) = codes "new " ++ decl_at cells cell ++ codes " in " ++ as_unit a (agent_text cells a)
agent_text cells (Hence a) = codes "hence " ++ as_unit a (agent_text cells a)
agent_text cells (Next a) = codes "next " ++ as_unit a (agent_text cells a)

-- PROGRAMS

abbrev pub core_text : CoreProgram → List ℕ
core_text p = decl_lines (take p.declared p.cells) ++ agent_text p.cells (agent_at p.nodes 0) ++ codes "\n"
