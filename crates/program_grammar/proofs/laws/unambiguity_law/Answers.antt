use Rattle.program_grammar.proofs.Unambiguous.{one_program}
use Rattle.program_grammar.proofs.laws.unambiguity_law.Goals as goal

pub returns : goal.returns
returns c = one_program
