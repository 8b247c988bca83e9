use Rattle.certificate_laws.proofs.CertifiedRuns as runs
use Rattle.certificate_laws.proofs.laws.runs_law.Goals as goal

pub returns : goal.returns
returns c = runs.runs_law
