use Rattle.net_laws.proofs.laws.entailed_law.Goals as goal
use Rattle.net_laws.proofs.ToldWords.{within-entailed}

pub returns : goal.returns
returns c = λ net is words are atoms fits h. within-entailed net is words are atoms fits h
