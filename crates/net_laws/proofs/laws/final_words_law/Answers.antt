use Rattle.net_laws.proofs.laws.final_words_law.Goals as goal
use Rattle.net_laws.proofs.FinalWords.{finals-are, final-store}

pub returns : goal.returns
returns c = λ net is strat input ii v out. (finals-are net is strat input ii v out, final-store net is strat input ii v out)
