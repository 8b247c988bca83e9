use Rattle.agent_laws.proofs.Eachs.{all_each}
use Rattle.agent_laws.proofs.Started.{IsOwn}
use Rattle.agent_laws.proofs.ClosureOutputs.{above_all, all_below}
use Rattle.agent_laws.proofs.Completing.{output-is_told}
use Rattle.agent_laws.proofs.laws.told_law.Goals as goal

pub returns : goal.returns
returns c p table is strat rs all t i v out = output-is_told p table (above_all table) (all_below p table) is strat rs (all_each (IsOwn p) rs all) t i v out
