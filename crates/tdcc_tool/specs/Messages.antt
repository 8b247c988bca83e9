-- The one line on err that goes with each status but Ok. The texts are this project's own.
use Rattle.std.specs.Prelude.{ℕ, List, [], ◌∷◌, ◌++◌, codes, decimal, slice_get, Option, Some, None}
use Rattle.agent_core.specs.declared.node.CellDecl.{CellDecl}
use Rattle.agent_core.specs.Limits.{most_instants}
use Rattle.agent_core.specs.Programs.{CoreProgram}
use Rattle.tdcc_reader.specs.declared.fault.ReadFault.{ReadFault}
use Rattle.tdcc_reader.specs.Messages.{fault_message}
use Rattle.trace_text.specs.declared.fault.LineFault.{LineFault}
use Rattle.trace_text.specs.Messages.{line_fault_message}

-- the program's name before the text, and a line feed after it
abbrev pub message : List ℕ → List ℕ
message text = codes "tdcc: " ++ text ++ 10 ∷ []

-- the words are none of the tool's
abbrev pub usage_line : List ℕ
usage_line = message (codes "usage")

-- the program text has the fault
abbrev pub program_line : ReadFault → List ℕ
program_line fault = message (codes "program: " ++ fault_message fault)

-- the name of a cell
abbrev pub cell_name : Option CellDecl → List ℕ
cell_name None = []
cell_name (Some d) = d.name

-- the program depends on its own absence: what the cell `told` entails below the else of the node reaches the cell `guard`, for which that else asks
abbrev pub strata_line : CoreProgram → ℕ → ℕ → ℕ → List ℕ
strata_line p guard told node =
    message (codes "program: not stratified, " ++ cell_name (slice_get p.cells guard) ++ codes " guards " ++ cell_name (slice_get p.cells told) ++ codes " at node " ++ decimal node)

-- what is said of the line of instant n
abbrev pub instant_line : ℕ → List ℕ → List ℕ
instant_line n text = message (codes "trace: instant " ++ decimal n ++ codes ": " ++ text)

-- the line of instant n has the fault
abbrev pub trace_line : ℕ → LineFault → List ℕ
trace_line n fault = instant_line n (line_fault_message fault)

-- there is a line for an instant more than there may be
abbrev pub many_line : ℕ → List ℕ
many_line n = instant_line n (codes "over " ++ decimal most_instants ++ codes " instants")

-- instant n has this many leaves, which are more than it may have
abbrev pub net_line : ℕ → ℕ → List ℕ
net_line n leaves = message (codes "net: instant " ++ decimal n ++ codes ": " ++ decimal leaves ++ codes " leaves")

-- through instant n this many agents ran, which are more than may run
abbrev pub fuel_line : ℕ → ℕ → List ℕ
fuel_line n agents = message (codes "fuel: instant " ++ decimal n ++ codes ": " ++ decimal agents ++ codes " agents run")

-- the source failed
abbrev pub read_line : List ℕ
read_line = message (codes "read fault")

-- the sink failed
abbrev pub write_line : List ℕ
write_line = message (codes "write fault")

-- memory ran out
abbrev pub memory_line : List ℕ
memory_line = message (codes "out of memory")
