use Rattle.std.proofs.Common.{sym, subst}
use Rattle.std.specs.Prelude.{All}
use Rattle.agent_core.specs.Stores.{IsInput}
use Rattle.tdcc_tool.proofs.tests.slowly.found_slowly.Goals as goal

pub slow_run-requires-clause-inputs : goal.slow_run-requires-clause-inputs
slow_run-requires-clause-inputs c = subst (All (IsInput c.in-Ok.program)) (sym c.deref.ensures.value) c.in_ok-ins.ensures.inputs
