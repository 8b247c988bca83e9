use Rattle.agent_laws.proofs.Eachs.{all_each}
use Rattle.agent_laws.proofs.Started.{IsOwn}
use Rattle.agent_laws.proofs.ClosureOutputs.{closures_leaves}
use Rattle.agent_laws.proofs.laws.by_leaves_law.Goals as goal

pub returns : goal.returns
returns c p is rs all t u v below = closures_leaves p is rs (all_each (IsOwn p) rs all) t u v below
