use Rattle.token_system.specs.Stores.{StoreMap}
use Rattle.agent_core.specs.Outputs.{IsOutput}
use Rattle.agent_core.specs.Stores.{IsStore}
use Rattle.agent_laws.specs.Ways.{IsOnWay}
use Rattle.denotation_laws.proofs.slow.output.Given as goal

abbrev pub invariant-loop-stratum : goal.invariant-loop-stratum
invariant-loop-stratum l = record {
  store : IsStore l.program l.store;
  way : (v : StoreMap) → IsOutput l.program l.closed l.input v → IsOnWay l.program l.levels l.input v l.stratum l.store;
}
