use Rattle.net_laws.proofs.laws.rest_law.Goals as goal
use Rattle.net_laws.proofs.RestingWords.{rest-done}

pub returns : goal.returns
returns c = λ net is strat input out ii fin p few noted r. rest-done net is input out ii fin strat p few noted r
