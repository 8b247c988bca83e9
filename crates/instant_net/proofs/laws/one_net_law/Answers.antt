use Rattle.instant_net.proofs.OneNet.{one_net}
use Rattle.instant_net.proofs.laws.one_net_law.Goals as goal

pub returns : goal.returns
returns c = λ p table rs t net net' is is'. one_net p table rs t net net' is is'
