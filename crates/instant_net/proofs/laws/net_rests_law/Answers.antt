use Rattle.std.proofs.Common.{sym}
use Rattle.instant_net.proofs.NetOutputs.{rests-same}
use Rattle.instant_net.proofs.NetRests.{net-rests}
use Rattle.instant_net.proofs.laws.net_rests_law.Goals as goal

pub returns-clause-roots : goal.returns-clause-roots
returns-clause-roots c = λ p table rs t net of u v below. sym (rests-same p table rs t net of u v below)

pub returns-clause-leaves : goal.returns-clause-leaves
returns-clause-leaves c = λ p. net-rests p
