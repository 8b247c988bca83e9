use Rattle.program_grammar.proofs.Verdicts.{verdict, one_fault, no_fault}
use Rattle.program_grammar.proofs.laws.faults_law.Goals as goal

pub returns-clause-some : goal.returns-clause-some
returns-clause-some c = verdict

pub returns-clause-one : goal.returns-clause-one
returns-clause-one c = one_fault

pub returns-clause-not_both : goal.returns-clause-not_both
returns-clause-not_both c = no_fault
