use Rattle.tdcc_reader.proofs.OneRefusal.{one_refusal, accepted_not_refused}
use Rattle.tdcc_reader.proofs.Verdicts.{verdict}
use Rattle.tdcc_reader.proofs.laws.refusal_law.Goals as goal

pub returns-clause-some : goal.returns-clause-some
returns-clause-some c = verdict

pub returns-clause-one : goal.returns-clause-one
returns-clause-one c = one_refusal

pub returns-clause-not_both : goal.returns-clause-not_both
returns-clause-not_both c = accepted_not_refused
