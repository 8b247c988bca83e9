use Rattle.std.proofs.Common.{All, sym, subst}
use Rattle.agent_core.specs.Stores.{IsStore}
use Rattle.agent_core.proofs.tests.root_rests_after.Goals as goal

pub obs-requires-clause-closed : goal.obs-requires-clause-closed
obs-requires-clause-closed c = subst (All (IsStore c.args.program.now)) (sym c.deref.ensures.value) c.in_ok-closed.ensures.stores
