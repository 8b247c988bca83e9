use Rattle.agent_laws.proofs.ProgramOutputs.{has_output, one_output}
use Rattle.agent_laws.proofs.Runs.{has_run, one_run}
use Rattle.agent_laws.proofs.laws.one_run_law.Goals as goal

pub returns-clause-output : goal.returns-clause-output
returns-clause-output c p table is strat z i ii =
    let v = has_output p table is strat z i ii in
    (v.0, v.1, λ w out. one_output p table is strat z i v.0 w v.1 out)

pub returns-clause-run : goal.returns-clause-run
returns-clause-run c p table is strat ins stores =
    let r = has_run p table is strat ins stores in
    (r.0, r.1, λ others run. one_run p table is strat ins r.0 others r.1 run)
