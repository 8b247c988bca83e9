use Rattle.std.proofs.Common.{sym, subst}
use Rattle.agent_core.specs.Stores.{IsStore}
use Rattle.agent_core.proofs.Tellings.{empty-IsStore}
use Rattle.agent_core.proofs.tests.nothing.Goals as goal

pub returns : goal.returns
returns c = subst (IsStore c.args.program.now) (sym c.new.ensures) (empty-IsStore c.args.program.now)
