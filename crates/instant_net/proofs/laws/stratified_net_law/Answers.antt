use Rattle.instant_net.proofs.NetStrata.{net-stratified}
use Rattle.instant_net.proofs.laws.stratified_net_law.Goals as goal

pub returns : goal.returns
returns c = λ p table rs t net of. net-stratified p of.program table rs t net of
