use Rattle.agent_laws.proofs.Eachs.{all_each}
use Rattle.agent_laws.proofs.Started.{IsOwn}
use Rattle.agent_laws.proofs.ClosureOutputs.{closures-have_output, closures-one_output}
use Rattle.agent_laws.proofs.laws.one_output_law.Goals as goal

pub returns : goal.returns
returns c p table is strat rs all t i ii =
    let own = all_each (IsOwn p) rs all in
    let v = closures-have_output p table is strat rs own t i ii in
    (v.0, v.1, λ w out. closures-one_output p table is strat rs own t i v.0 w v.1 out)
