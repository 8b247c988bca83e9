use Rattle.certificate_laws.proofs.Certified as certified
use Rattle.certificate_laws.proofs.laws.certified_law.Goals as goal

pub returns : goal.returns
returns c = certified.certified_law
