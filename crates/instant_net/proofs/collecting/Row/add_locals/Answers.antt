use Rattle.std.proofs.lemmas.Map.Views.{All-turn}
use Rattle.token_system.specs.declared.name.CellName.{CellName}
use Rattle.instant_net.specs.Collecting.{IsLocal}
use Rattle.instant_net.proofs.collecting.Row.add_locals.Goals as goal

pub add-requires-clause-named : goal.add-requires-clause-named
add-requires-clause-named c =
    let local : IsLocal c.args.program.now c.in-Some.name =
    All-turn (λ (q : CellName). q) (IsLocal c.args.program.now) c.args.names.keys _ _ _ _ _ _ c.requires.locals c.into_iter-name-iterator.ensures.into_iter_gives.0 c.loop-name.yielded_by c.in-Some.is c.next.ensures.steps in
    (local.decl, local.named)
