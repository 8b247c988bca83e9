use Rattle.std.proofs.Common.{sym, subst}
use Rattle.token_system.specs.Stores.{StoreMap}
use Rattle.agent_core.specs.Stores.{IsStore, Below}
use Rattle.agent_core.proofs.Tellings.{empty-IsStore, empty-Below}
use Rattle.agent_core.proofs.tests.root_rests.Goals as goal

pub rests-requires-clause-store : goal.rests-requires-clause-store
rests-requires-clause-store c = subst (IsStore c.args.program.now) (sym c.new-empty.ensures) (empty-IsStore c.args.program.now)

pub rests-requires-clause-guess : goal.rests-requires-clause-guess
rests-requires-clause-guess c = subst (IsStore c.args.program.now) (sym c.new-empty.ensures) (empty-IsStore c.args.program.now)

pub rests-requires-2-clause-store : goal.rests-requires-2-clause-store
rests-requires-2-clause-store c = subst (IsStore c.args.program.now) (sym c.new-empty.ensures) (empty-IsStore c.args.program.now)

pub rests-requires-2-clause-below : goal.rests-requires-2-clause-below
rests-requires-2-clause-below c = subst (λ (x : StoreMap). Below c.args.program.now x c.args.on.now) (sym c.new-empty.ensures) (empty-Below c.args.program.now c.args.on.now c.requires.store)
