use Rattle.std.proofs.Common.{All, [], ◌∷◌, List, length, sym, ap, subst, arith, length-append}
use Rattle.std.proofs.lemmas.List.Elements.{All-push}
use Rattle.token_system.specs.Stores.{StoreMap}
use Rattle.agent_core.specs.Stores.{IsInput}
use Rattle.denotation_laws.proofs.tests.silence.Goals as goal

pub loop-preserved : goal.loop-preserved
loop-preserved c = record {
  inputs = subst (All (IsInput c.args.program.now)) (sym c.in_ok-push.ensures.items) (All-push (IsInput c.args.program.now) c.loop.ins.items c.nothing.result c.loop.invariant.inputs c.nothing.ensures);
  long = omega (arith, ap (λ (z : List StoreMap). length z) c.in_ok-push.ensures.items, length-append c.loop.ins.items (c.nothing.result ∷ []), c.loop.invariant.long);
}
