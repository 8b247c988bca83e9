use Rattle.certificate_laws.proofs.Growing as growing
use Rattle.certificate_laws.proofs.laws.outputs_law.Goals as goal

pub returns : goal.returns
returns c = growing.outputs_law
