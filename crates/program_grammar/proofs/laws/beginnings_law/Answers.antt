use Rattle.program_grammar.proofs.Beginnings.{begins_program}
use Rattle.program_grammar.proofs.Fronts.{program_begins}
use Rattle.program_grammar.proofs.laws.beginnings_law.Goals as goal

pub returns : goal.returns
returns c = λ l ts. (begins_program l ts, program_begins l ts)
