use Rattle.std.proofs.Common.{List, sym, subst, ◌∙◌}
use Rattle.token_system.specs.Stores.{StoreMap}
use Rattle.agent_core.specs.declared.node.Closure.{Closure}
use Rattle.agent_core.specs.Closures.{roots}
use Rattle.agent_laws.specs.Laws.{AreClosures}
use Rattle.agent_laws.proofs.Eachs.{each_all}
use Rattle.agent_laws.proofs.Started.{IsOwn, roots-closures}
use Rattle.instant_net.specs.Opened.{IsNetOf}
use Rattle.residuals.proofs.tests.net_at.Goals as goal

pub open_net-requires-clause-closures : goal.open_net-requires-clause-closures
open_net-requires-clause-closures c =
    let p = c.args.program.now in
    let closed : List StoreMap = c.requires.roots.0 in
    subst (AreClosures p) (sym (c.deref.ensures.value ∙ c.in_ok-list.ensures.all ∙ c.requires.roots.2.all)) (each_all (IsOwn p) (roots p closed) (roots-closures p c.requires.program closed))

pub returns-in-Ok : goal.returns-in-Ok
returns-in-Ok c = subst (λ (rs : List Closure). IsNetOf c.args.program.now c.args.levels.now rs c.args.t c.in-Ok.net) (c.deref.ensures.value ∙ c.in_ok-list.ensures.all) c.in-Ok.ensures.found
