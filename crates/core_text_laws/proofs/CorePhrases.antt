-- The phrase that a program is.
use Rattle.std.proofs.Common.{ℕ, List, [], ◌∷◌, take, Option, Some, None}
use Rattle.std.specs.Prelude.{slice_get}
use Rattle.token_system.specs.declared.cell.Kind.{Kind}
use Rattle.token_system.specs.declared.cell.Kind.TheVariants.{Signal, Number}
use Rattle.token_system.specs.declared.cell.Token.{Token}
use Rattle.token_system.specs.declared.cell.Token.TheVariants as token
use Rattle.program_grammar.specs.Phrases as g
use Rattle.agent_core.specs.declared.node.CellDecl.{CellDecl}
use Rattle.agent_core.specs.Agents.{Agent, Constraint, Skip, Tell, Then, Else, Par, New, Hence, Next, agent_at}
use Rattle.agent_core.specs.Programs.{CoreProgram}
use Rattle.core_text.specs.CoreTexts.{name_at}

abbrev pub token_phrase : List ℕ → Token → g.TokenPhrase
token_phrase x token.On = g.On x
token_phrase x token.Off = g.Off x
token_phrase x token.Clash = g.Clash x
token_phrase x (token.AtLeast k) = g.AtLeast x k
token_phrase x (token.AtMost k) = g.AtMost x k

-- no constraint is empty
abbrev pub ask_phrase : List CellDecl → Constraint → g.ConstraintPhrase
ask_phrase cells [] = g.One (g.On [])
ask_phrase cells (x ∷ []) = g.One (token_phrase (name_at cells x.0) x.1)
ask_phrase cells (x ∷ y ∷ ys) = g.Both (token_phrase (name_at cells x.0) x.1) (ask_phrase cells (y ∷ ys))

-- an agent as one unit
abbrev pub as_unit_phrase : g.AgentPhrase → g.UnitPhrase
as_unit_phrase (g.Only u) = u
as_unit_phrase (g.Par u a) = g.Braces (g.Par u a)

abbrev pub local_phrase : Kind → CellDecl → g.UnitPhrase → g.UnitPhrase
local_phrase Signal d u = g.LocalSignal d.name u
local_phrase Number d u = g.LocalInt d.name d.cell.lo d.cell.hi u

-- each new node has its cell
abbrev pub local_at : Option CellDecl → g.UnitPhrase → g.UnitPhrase
local_at None u = u
local_at (Some d) u = local_phrase d.cell.kind d u

abbrev pub agent_phrase : List CellDecl → Agent → g.AgentPhrase
agent_phrase cells Skip = g.Only g.Skip
agent_phrase cells (Tell c) = g.Only (g.Tell (ask_phrase cells c))
agent_phrase cells (Then c a) = g.Only (g.IfThen (ask_phrase cells c) (as_unit_phrase (agent_phrase cells a)))
agent_phrase cells (Else c a) = g.Only (g.IfElse (ask_phrase cells c) (as_unit_phrase (agent_phrase cells a)))
agent_phrase cells (Par l r) = g.Par (as_unit_phrase (agent_phrase cells l)) (agent_phrase cells r)
agent_phrase cells (New cell a) = g.Only (local_at (slice_get cells cell) (as_unit_phrase (agent_phrase cells a)))
agent_phrase cells (Hence a) = g.Only (g.Hence (as_unit_phrase (agent_phrase cells a)))
agent_phrase cells (Next a) = g.Only (g.Next (as_unit_phrase (agent_phrase cells a)))

abbrev pub decl_phrase : Kind → CellDecl → g.ProgramPhrase → g.ProgramPhrase
decl_phrase Signal d p = g.Signals (g.LastName d.name) p
decl_phrase Number d p = g.Ints (g.LastItem d.name d.cell.lo d.cell.hi) p

abbrev pub decls_phrase : List CellDecl → g.ProgramPhrase → g.ProgramPhrase
decls_phrase [] p = p
decls_phrase (d ∷ ds) p = decl_phrase d.cell.kind d (decls_phrase ds p)

abbrev pub program_phrase : CoreProgram → g.ProgramPhrase
program_phrase p = decls_phrase (take p.declared p.cells) (g.Runs (agent_phrase p.cells (agent_at p.nodes 0)))
