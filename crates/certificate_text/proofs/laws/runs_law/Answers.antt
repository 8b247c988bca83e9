use Rattle.certificate_text.proofs.RunTexts as runs
use Rattle.certificate_text.proofs.laws.runs_law.Goals as goal

pub returns : goal.returns
returns c = runs.runs_law
