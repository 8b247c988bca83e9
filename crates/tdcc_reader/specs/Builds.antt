-- What is built of a program: the flat forms of its tree, its cells, and how many of them are declared.
use Rattle.std.specs.Prelude.{◌≡◌, ◌≤◌, ℕ, List, [], length, None}
use Rattle.program_grammar.specs.Phrases.{ProgramPhrase}
use Rattle.program_grammar.specs.Spelling.{program}
use Rattle.program_lexemes.specs.Limits.{longest_core_text}
use Rattle.agent_core.specs.Limits.{most_declared_cells}
use Rattle.tdcc_reader.specs.declared.dialect.Dialect.{Dialect}
use Rattle.tdcc_reader.specs.LimitFaults.{program_limit}
use Rattle.tdcc_reader.specs.Scope.{program_fault}
use Rattle.tdcc_reader.specs.Refusals.{Accepts}
use Rattle.tdcc_reader.specs.Surfaces.{program_tree, program_cells, declared_cells}
use Rattle.tdcc_reader.specs.FlatForms.{flat_forms}
use Rattle.tdcc_reader.specs.BuildPass.{Built}

pub record IsBuilt (p : ProgramPhrase) (b : Built) : Type 0 where
  pub tree : b.flat_forms ≡ flat_forms (program_tree p)
  pub cells : b.cells ≡ program_cells p
  pub declared : b.declared ≡ length (declared_cells p)

-- the program keeps the limits, its names have no fault, it declares few cells, and this is built of it
pub record IsChecked (dialect : Dialect) (p : ProgramPhrase) (b : Built) : Type 0 where
  pub within : program_limit dialect p ≡ None
  pub named : program_fault p ≡ None
  pub declared : length (declared_cells p) ≤ most_declared_cells
  pub built : IsBuilt p b

-- the text is accepted as this program, of which this is built
pub record IsReadyToBuild (dialect : Dialect) (text : List ℕ) (p : ProgramPhrase) (b : Built) : Type 0 where
  pub accepts : Accepts dialect text p
  pub few : length (program p []) ≤ longest_core_text
  pub built : IsBuilt p b
