-- The core programs that core texts are, and why a text is none. This project's own.
use Rattle.std.specs.Prelude.{◌≡◌, ◌≢◌, ◌⊎◌, ℕ, ◌<◌, ◌≤◌, List, length, map, Result, MatchResult}
use Rattle.program_grammar.specs.Phrases.{ProgramPhrase as Phrase}
use Rattle.agent_core.specs.Agents.{Agent}
use Rattle.agent_core.specs.Programs.{CoreProgram}
use Rattle.agent_core.specs.Limits.{most_nodes, most_cells}
use Rattle.agent_core.specs.Listing.{listing}
use Rattle.tdcc_reader.specs.declared.dialect.Dialect.TheVariants as dialect
use Rattle.tdcc_reader.specs.declared.fault.ReadFault.{ReadFault}
use Rattle.tdcc_reader.specs.declared.fault.ReadFault.TheVariants.{TooManyNodes, TooManyCells, Memory}
use Rattle.tdcc_reader.specs.Trees.{form_count}
use Rattle.tdcc_reader.specs.Surfaces.{cell_view, program_tree, program_cells, declared_cells}
use Rattle.tdcc_reader.specs.Refusals.{Accepts, Refuses}
use Rattle.core_reader.specs.Trees.{tree_of}

-- the program's agent is the tree of the phrase, and its cells are the phrase's
pub record IsCoreOf (phrase : Phrase) (p : CoreProgram) : Type 0 where
  pub agent : Agent
  pub nodes : p.nodes ≡ listing 0 agent
  pub tree : tree_of agent ≡ program_tree phrase
  pub cells : map cell_view p.cells ≡ program_cells phrase
  pub declared : p.declared ≡ length (declared_cells phrase)

-- the core text is this phrase, nothing refuses it, and it has at most 4,096 forms and 1,024 cells
pub record AcceptsCore (text : List ℕ) (phrase : Phrase) : Type 0 where
  pub accepts : Accepts dialect.Core text phrase
  pub few_nodes : form_count (program_tree phrase) ≤ most_nodes
  pub few_cells : length (program_cells phrase) ≤ most_cells

-- the text is this core program
abbrev pub IsCoreText : List ℕ → CoreProgram → Type 0
IsCoreText text p = (phrase : Phrase) × AcceptsCore text phrase × IsCoreOf phrase p

-- the text is refused as a core text; or it is accepted, and has too many forms, or else too many cells
abbrev pub RefusesCore : List ℕ → ReadFault → Type 0
RefusesCore text TooManyNodes = (phrase : Phrase) × Accepts dialect.Core text phrase × (most_nodes < form_count (program_tree phrase))
RefusesCore text TooManyCells =
    (phrase : Phrase) × Accepts dialect.Core text phrase
    × (form_count (program_tree phrase) ≤ most_nodes) × (most_cells < length (program_cells phrase))
RefusesCore text fault = Refuses dialect.Core text fault

-- the text is a core program, or it is refused for a reason that is not out of memory
abbrev pub HasCoreVerdict : List ℕ → Type 0
HasCoreVerdict text = ((p : CoreProgram) × IsCoreText text p) ⊎ ((f : ReadFault) × (f ≢ Memory) × RefusesCore text f)

-- what `read_core` may answer of the text: the core program that it is, or its refusal, where out of memory says nothing
abbrev pub MayAnswer : List ℕ → Result CoreProgram ReadFault → Type 0
MayAnswer text answer = MatchResult answer (IsCoreText text) (RefusesCore text)
