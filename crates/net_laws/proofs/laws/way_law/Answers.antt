use Rattle.net_laws.proofs.laws.way_law.Goals as goal
use Rattle.net_laws.proofs.RestingWords.{on-way}

pub returns : goal.returns
returns c = λ net is input out ii fin k words are above low same. on-way net is input out ii fin k words are above low same
