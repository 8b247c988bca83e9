use Rattle.net_laws.proofs.laws.words_rise_law.Goals as goal
use Rattle.net_laws.proofs.RisingWords.{words_rise}

pub returns : goal.returns
returns c = λ net is u w iu iw below. words_rise net is u w below
