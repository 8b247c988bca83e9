use Rattle.std.proofs.Common.{All, List, [], ◌∷◌, length, sym, ap, subst, arith, length-append}
use Rattle.std.proofs.lemmas.List.Elements.{All-push}
use Rattle.token_system.specs.Stores.{StoreMap}
use Rattle.agent_core.specs.Stores.{IsInput}
use Rattle.denotation_laws.proofs.tests.silence_and_first_on.Goals as goal

pub returns-clause-inputs : goal.returns-clause-inputs
returns-clause-inputs c =
    subst (All (IsInput c.args.program.now)) (sym c.in_ok-push.ensures.items) (All-push (IsInput c.args.program.now) c.in_ok-ins.ins.items c.in_ok-on.on c.in_ok-ins.ensures.inputs c.in_ok-on.ensures)

pub returns-clause-bounded : goal.returns-clause-bounded
returns-clause-bounded c =
    omega (arith, ap (λ (z : List StoreMap). length z) c.in_ok-push.ensures.items, length-append c.in_ok-ins.ins.items (c.in_ok-on.on ∷ []), c.in_ok-ins.ensures.bounded)
