use Rattle.surface_laws.proofs.WellFormed.{well_formed}
use Rattle.surface_laws.proofs.laws.text_law.Goals as goal

pub returns : goal.returns
returns c = well_formed
