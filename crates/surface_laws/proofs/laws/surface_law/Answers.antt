use Rattle.surface_laws.proofs.WellFormed.{surface_formed}
use Rattle.surface_laws.proofs.laws.surface_law.Goals as goal

pub returns : goal.returns
returns c = surface_formed
