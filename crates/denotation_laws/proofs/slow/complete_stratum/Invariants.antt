use Rattle.std.proofs.Common.{◌≡◌, ◌+◌, false, cond}
use Rattle.token_system.specs.Stores.{StoreMap}
use Rattle.agent_core.specs.Outputs.{IsOutput}
use Rattle.agent_core.specs.Stores.{IsStore}
use Rattle.agent_core.specs.Strata.{Each}
use Rattle.agent_laws.specs.Ways.{IsOnWay}
use Rattle.denotation_laws.specs.Dues.{is_due, leaves_now}
use Rattle.denotation_laws.proofs.Completed.{untold}
use Rattle.denotation_laws.proofs.slow.complete_stratum.Given as goal

abbrev pub invariant-loop-told : goal.invariant-loop-told
invariant-loop-told l = record {
  store : IsStore l.program l.store;
  way : (i v : StoreMap) → IsOutput l.program l.closed i v → IsOnWay l.program l.levels i v l.stratum l.fn.store → IsOnWay l.program l.levels i v l.stratum l.store;
  calm : l.told ≡ false → Each (λ x. is_due l.program l.levels l.stratum l.store x ≡ false) (leaves_now l.program l.closed);
}

abbrev pub decreases-loop-told : goal.decreases-loop-told
decreases-loop-told l = untold l.program l.store (leaves_now l.program l.closed) + cond l.told 1 0
