use Rattle.instant_net.proofs.NetOutputs.{same-outputs}
use Rattle.instant_net.proofs.laws.net_outputs_law.Goals as goal

pub returns : goal.returns
returns c = λ p table rs t net of i v is. same-outputs p table rs t net of i v is
