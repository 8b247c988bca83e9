use Rattle.core_reader.proofs.CoreVerdicts.{core_verdict, text_is_program, one_core_text, one_core_refusal, text_not_refused}
use Rattle.core_reader.proofs.laws.core_law.Goals as goal

pub returns-clause-some : goal.returns-clause-some
returns-clause-some c = core_verdict

pub returns-clause-program : goal.returns-clause-program
returns-clause-program c = text_is_program

pub returns-clause-one : goal.returns-clause-one
returns-clause-one c = one_core_text

pub returns-clause-one_refusal : goal.returns-clause-one_refusal
returns-clause-one_refusal c = one_core_refusal

pub returns-clause-not_both : goal.returns-clause-not_both
returns-clause-not_both c = text_not_refused
