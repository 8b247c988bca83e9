use Rattle.instant_core.proofs.laws.opening_law.Goals as goal
use Rattle.instant_core.proofs.Opens.{opens}

pub returns : goal.returns
returns c = λ net input words o. opens net input words o
