-- What a generated program and its trace are read as, behind one another and with a mark between them. This project's own.
use Rattle.std.specs.Prelude.{◌≡◌, ℕ, List, [], ◌∷◌, ◌++◌}
use Rattle.token_system.specs.Stores.{StoreMap}
use Rattle.agent_core.specs.Programs.{CoreProgram}
use Rattle.tdcc_base.specs.Lines.{lines_of}
use Rattle.tdcc_base.specs.Texts.{program_text_of, trace_of}
use Rattle.trace_text.specs.Generated.{program_text, trace_lines, input_bytes}
use Rattle.trace_text.specs.Inputs.{GivesInput}

-- these bytes have the text with its line feed before their mark, and behind it the lines of the trace
pub record IsParted (n : ℕ) : Type 0 where
  pub text : program_text_of (input_bytes n) ≡ program_text n ++ 10 ∷ []
  pub lines : lines_of (trace_of (input_bytes n)) ≡ trace_lines n

-- the line gives an input of the program
abbrev pub GivesSomeInput : CoreProgram → List ℕ → Type 0
GivesSomeInput p line = (i : StoreMap) × GivesInput p line i
