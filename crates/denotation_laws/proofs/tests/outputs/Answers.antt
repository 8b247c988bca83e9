use Rattle.std.proofs.Common.{All, List, length, sym, ap, subst, arith}
use Rattle.token_system.specs.Stores.{StoreMap}
use Rattle.agent_core.specs.Stores.{IsInput}
use Rattle.denotation_laws.proofs.tests.outputs.Goals as goal

pub slow_run-requires-clause-inputs : goal.slow_run-requires-clause-inputs
slow_run-requires-clause-inputs c = subst (All (IsInput c.args.program.now)) (sym c.deref.ensures.value) c.requires.inputs

pub slow_run-requires-clause-few : goal.slow_run-requires-clause-few
slow_run-requires-clause-few c = omega (arith, ap (λ (z : List StoreMap). length z) c.deref.ensures.value, c.requires.few)
