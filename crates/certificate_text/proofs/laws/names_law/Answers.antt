use Rattle.certificate_text.proofs.NameTexts as names
use Rattle.certificate_text.proofs.laws.names_law.Goals as goal

pub returns : goal.returns
returns c = names.names_law
