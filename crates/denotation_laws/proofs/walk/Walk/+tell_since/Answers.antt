use Rattle.std.proofs.Common.{◌≡◌, ◌-◌, true, false, refl, List, [], ◌∷◌, ◌++◌, Some, length, sym, ap, ◌∙◌, subst, arith, length-drop}
use Rattle.std.specs.List.{All}
use Rattle.std.proofs.lemmas.List.{take_rest}
use Rattle.std.proofs.lemmas.List.Elements.{All-drop, All-head, All-rest}
use Rattle.token_system.specs.Stores.{StoreMap}
use Rattle.agent_core.specs.declared.node.Node.TheVariants as nodes
use Rattle.agent_core.specs.Names.{IsClosure}
use Rattle.agent_core.specs.Stores.{IsStore}
use Rattle.agent_core.proofs.RestTests.{node_found, own_ask_fits, left_of, right_of, then_body, else_body, new_body, hence_body, next_body}
use Rattle.agent_core.specs.Leaves.{Leaf}
use Rattle.denotation_laws.specs.Dues.{TellsOne, leaves_since, leaves_of_hence}
use Rattle.denotation_laws.proofs.Steps.{one-store, answer-same, answer-left, answer-right}
use Rattle.denotation_laws.proofs.HistoryLeaves.{just_started, none_left, silent-since, par-since, then-waits, then-since, else-waits, else-since, new-since, next-since, hence-since, one-tells, none-tells, last-tells}
use Rattle.denotation_laws.proofs.walk.Walk.+tell_since.Goals as goal

pub tell_hence-tell_since-requires : goal.tell_hence-tell_since-requires
tell_hence-tell_since-requires t c =
    let same = take_rest c.args.closed.now c.loop-k.k in
    let more = c.loop-k-test.true in
    let few = c.requires.instants in (
      omega arith,
      (
        c.requires.closure,
        (
          subst (All (IsStore c.args.self.now.program.now)) (sym same) (All-drop (IsStore c.args.self.now.program.now) c.loop-k.k c.args.closed.now c.requires.closed),
          (omega (arith, ap (λ (z : List StoreMap). length z) same, length-drop c.loop-k.k c.args.closed.now), subst (IsStore c.args.self.now.program.now) (sym c.loop-k.invariant.same) c.requires.store),
        ),
      ),
    )

pub tell_hence-returns-then-told : goal.tell_hence-returns-then-told
tell_hence-returns-then-told t c =
    one-tells c.args.self.now.program.now c.args.self.now.levels.now c.args.self.now.stratum c.args.self.now.instant c.args.node c.args.births.now c.args.closed.now c.args.store.now c.loop-k.k c.loop-k.store c.loop-k.invariant c.in_ok-told.told c.if-told.true c.tell_since.new.store c.loop-k-test.true _ (take_rest c.args.closed.now c.loop-k.k) c.in_ok-told.ensures

pub tell_hence-loop-k-preserved : goal.tell_hence-loop-k-preserved
tell_hence-loop-k-preserved t c =
    none-tells c.args.self.now.program.now c.args.self.now.levels.now c.args.self.now.stratum c.args.self.now.instant c.args.node c.args.births.now c.args.closed.now c.args.store.now c.loop-k.k c.loop-k.store c.loop-k.invariant c.in_ok-told.told c.if-told.false c.tell_since.new.store c.loop-k-test.true _ (take_rest c.args.closed.now c.loop-k.k) c.in_ok-told.ensures

pub tell_hence-returns : goal.tell_hence-returns
tell_hence-returns t c =
    last-tells c.args.self.now.program.now c.args.self.now.levels.now c.args.self.now.stratum c.args.self.now.instant c.args.node c.args.births.now c.args.closed.now c.args.store.now c.loop-k.k c.loop-k.store c.loop-k.invariant c.tell_now.result c.tell_now.new.store c.loop-k-test.false c.tell_now.ensures

pub tell_since-entails-requires-clause-store : goal.tell_since-entails-requires-clause-store
tell_since-entails-requires-clause-store t c =
    All-head (IsStore c.args.self.now.program.now) c.in-Some.first.now c.in-Some.later.now (subst (All (IsStore c.args.self.now.program.now)) c.in-Some.ensures.cases.0 c.requires.closed)

pub tell_since-entails-requires-clause-fits : goal.tell_since-entails-requires-clause-fits
tell_since-entails-requires-clause-fits t c =
    own_ask_fits c.args.self.now.program.now c.nodes.ensures.program c.args.node c.args.births.now c.requires.closure (nodes.Then c.in-Then.ask c.in-Then.body)
    (node_found c.args.self.now.program.now c.nodes.result.now c.args.node c.index-nodes-node.result c.nodes.ensures.all c.requires.closure.node c.index-nodes-node.is ∙ ap Some c.in-Then.is)

pub tell_since-entails-requires-in-Else-clause-store : goal.tell_since-entails-requires-in-Else-clause-store
tell_since-entails-requires-in-Else-clause-store t c =
    All-head (IsStore c.args.self.now.program.now) c.in-Some.first.now c.in-Some.later.now (subst (All (IsStore c.args.self.now.program.now)) c.in-Some.ensures.cases.0 c.requires.closed)

pub tell_since-entails-requires-in-Else-clause-fits : goal.tell_since-entails-requires-in-Else-clause-fits
tell_since-entails-requires-in-Else-clause-fits t c =
    own_ask_fits c.args.self.now.program.now c.nodes.ensures.program c.args.node c.args.births.now c.requires.closure (nodes.Else c.in-Else.ask c.in-Else.body)
    (node_found c.args.self.now.program.now c.nodes.result.now c.args.node c.index-nodes-node.result c.nodes.ensures.all c.requires.closure.node c.index-nodes-node.is ∙ ap Some c.in-Else.is)

pub tell_since-tell_since-requires : goal.tell_since-tell_since-requires
tell_since-tell_since-requires t c =
    let part =
    left_of c.args.self.now.program.now c.nodes.ensures.program c.args.node c.args.births.now c.requires.closure c.in-Par.left c.in-Par.right
    (node_found c.args.self.now.program.now c.nodes.result.now c.args.node c.index-nodes-node.result c.nodes.ensures.all c.requires.closure.node c.index-nodes-node.is ∙ ap Some c.in-Par.is) in
    let above = part.above in
    let inside = part.inside in
    (omega arith, (part.is_closure, (c.requires.closed, (c.requires.instants, c.requires.store))))

pub tell_since-tell_since-requires-in-Par : goal.tell_since-tell_since-requires-in-Par
tell_since-tell_since-requires-in-Par t c =
    let part =
    right_of c.args.self.now.program.now c.nodes.ensures.program c.args.node c.args.births.now c.requires.closure c.in-Par.left c.in-Par.right
    (node_found c.args.self.now.program.now c.nodes.result.now c.args.node c.index-nodes-node.result c.nodes.ensures.all c.requires.closure.node c.index-nodes-node.is ∙ ap Some c.in-Par.is) in
    let above = part.above in
    let inside = part.inside in
    (omega arith, (part.is_closure, (c.requires.closed, (c.requires.instants, one-store c.args.self.now.program.now c.args.self.now.levels.now c.args.self.now.stratum (leaves_since c.args.self.now.program.now c.args.self.now.instant c.in-Par.left c.args.births.now c.args.closed.now) c.args.store.now c.in_ok-told-in-Par.told c.if-told.false c.tell_since.new.store c.in_ok-told-in-Par.ensures c.requires.store))))

pub tell_since-tell_since-requires-in-Then : goal.tell_since-tell_since-requires-in-Then
tell_since-tell_since-requires-in-Then t c =
    let part =
    then_body c.args.self.now.program.now c.nodes.ensures.program c.args.node c.args.births.now c.requires.closure c.in-Then.ask c.in-Then.body
    (node_found c.args.self.now.program.now c.nodes.result.now c.args.node c.index-nodes-node.result c.nodes.ensures.all c.requires.closure.node c.index-nodes-node.is ∙ ap Some c.in-Then.is) in
    let above = part.above in
    let inside = part.inside in
    (omega arith, (part.is_closure, (c.requires.closed, (c.requires.instants, c.requires.store))))

pub tell_since-tell_since-requires-in-Else : goal.tell_since-tell_since-requires-in-Else
tell_since-tell_since-requires-in-Else t c =
    let part =
    else_body c.args.self.now.program.now c.nodes.ensures.program c.args.node c.args.births.now c.requires.closure c.in-Else.ask c.in-Else.body
    (node_found c.args.self.now.program.now c.nodes.result.now c.args.node c.index-nodes-node.result c.nodes.ensures.all c.requires.closure.node c.index-nodes-node.is ∙ ap Some c.in-Else.is) in
    let above = part.above in
    let inside = part.inside in
    (omega arith, (part.is_closure, (c.requires.closed, (c.requires.instants, c.requires.store))))

pub tell_since-tell_since-requires-in-New : goal.tell_since-tell_since-requires-in-New
tell_since-tell_since-requires-in-New t c =
    let grown : c.list.result.now ≡ c.args.births.now ++ (c.args.self.now.instant - length c.args.closed.now) ∷ [] = c.list.ensures ∙ c.in_ok-inner-in-New.ensures in
    let part =
    new_body c.args.self.now.program.now c.nodes.ensures.program c.args.node c.args.births.now c.requires.closure c.in-New.cell c.in-New.body (c.args.self.now.instant - length c.args.closed.now)
    (node_found c.args.self.now.program.now c.nodes.result.now c.args.node c.index-nodes-node.result c.nodes.ensures.all c.requires.closure.node c.index-nodes-node.is ∙ ap Some c.in-New.is) in
    let above = part.above in
    let inside = part.inside in
    (omega arith, (subst (IsClosure c.args.self.now.program.now c.in-New.body) (sym grown) part.is_closure, (c.requires.closed, (c.requires.instants, c.requires.store))))

pub tell_since-tell_hence-requires : goal.tell_since-tell_hence-requires
tell_since-tell_hence-requires t c =
    let part =
    hence_body c.args.self.now.program.now c.nodes.ensures.program c.args.node c.args.births.now c.requires.closure c.in-Hence.body
    (node_found c.args.self.now.program.now c.nodes.result.now c.args.node c.index-nodes-node.result c.nodes.ensures.all c.requires.closure.node c.index-nodes-node.is ∙ ap Some c.in-Hence.is) in
    let above = part.above in
    let inside = part.inside in
    let few = c.requires.instants in
    let shorter = c.in-Some.ensures.cases.1 in
    let stores = All-rest (IsStore c.args.self.now.program.now) c.in-Some.first.now c.in-Some.later.now c.args.closed.now c.in-Some.ensures.cases.0 c.requires.closed in
    (omega arith, (part.is_closure, (stores, (omega arith, c.requires.store))))

pub tell_since-tell_since-requires-in-Next : goal.tell_since-tell_since-requires-in-Next
tell_since-tell_since-requires-in-Next t c =
    let part =
    next_body c.args.self.now.program.now c.nodes.ensures.program c.args.node c.args.births.now c.requires.closure c.in-Next.body
    (node_found c.args.self.now.program.now c.nodes.result.now c.args.node c.index-nodes-node.result c.nodes.ensures.all c.requires.closure.node c.index-nodes-node.is ∙ ap Some c.in-Next.is) in
    let above = part.above in
    let inside = part.inside in
    let few = c.requires.instants in
    let shorter = c.in-Some.ensures.cases.1 in
    let stores = All-rest (IsStore c.args.self.now.program.now) c.in-Some.first.now c.in-Some.later.now c.args.closed.now c.in-Some.ensures.cases.0 c.requires.closed in
    (omega arith, (part.is_closure, (stores, (omega arith, c.requires.store))))

pub tell_since-returns-in-Skip : goal.tell_since-returns-in-Skip
tell_since-returns-in-Skip t c =
    subst (λ (ls : List Leaf). TellsOne c.args.self.now.program.now c.args.self.now.levels.now c.args.self.now.stratum ls c.args.store.now false c.args.store.now)
    (silent-since c.args.self.now.program.now c.nodes.ensures.program c.args.node c.args.births.now c.requires.closure c.args.self.now.instant c.args.closed.now c.in-Some.first.now c.in-Some.later.now c.in-Some.ensures.cases.0 c.index-nodes-node.result
    (node_found c.args.self.now.program.now c.nodes.result.now c.args.node c.index-nodes-node.result c.nodes.ensures.all c.requires.closure.node c.index-nodes-node.is) c.in-Skip.is) (tt, refl)

pub tell_since-returns-in-Skip-2 : goal.tell_since-returns-in-Skip-2
tell_since-returns-in-Skip-2 t c =
    subst (λ (ls : List Leaf). TellsOne c.args.self.now.program.now c.args.self.now.levels.now c.args.self.now.stratum ls c.args.store.now false c.args.store.now)
    (silent-since c.args.self.now.program.now c.nodes.ensures.program c.args.node c.args.births.now c.requires.closure c.args.self.now.instant c.args.closed.now c.in-Some.first.now c.in-Some.later.now c.in-Some.ensures.cases.0 c.index-nodes-node.result
    (node_found c.args.self.now.program.now c.nodes.result.now c.args.node c.index-nodes-node.result c.nodes.ensures.all c.requires.closure.node c.index-nodes-node.is) c.in-Skip.is) (tt, refl)

pub tell_since-returns-then-told : goal.tell_since-returns-then-told
tell_since-returns-then-told t c =
    subst (λ (ls : List Leaf). TellsOne c.args.self.now.program.now c.args.self.now.levels.now c.args.self.now.stratum ls c.args.store.now true c.tell_since.new.store)
    (par-since c.args.self.now.program.now c.nodes.ensures.program c.args.node c.args.births.now c.requires.closure c.args.self.now.instant c.args.closed.now c.in-Some.first.now c.in-Some.later.now c.in-Some.ensures.cases.0 c.in-Par.left c.in-Par.right
    (node_found c.args.self.now.program.now c.nodes.result.now c.args.node c.index-nodes-node.result c.nodes.ensures.all c.requires.closure.node c.index-nodes-node.is ∙ ap Some c.in-Par.is))
    (answer-left c.args.self.now.program.now c.args.self.now.levels.now c.args.self.now.stratum (leaves_since c.args.self.now.program.now c.args.self.now.instant c.in-Par.left c.args.births.now c.args.closed.now) (leaves_since c.args.self.now.program.now c.args.self.now.instant c.in-Par.right c.args.births.now c.args.closed.now) c.args.store.now c.tell_since.new.store c.in_ok-told-in-Par.told c.if-told.true c.in_ok-told-in-Par.ensures)

pub tell_since-returns-else-told : goal.tell_since-returns-else-told
tell_since-returns-else-told t c =
    answer-same c.args.self.now.program.now c.args.self.now.levels.now c.args.self.now.stratum c.tell_since-in-Par.result ((leaves_since c.args.self.now.program.now c.args.self.now.instant c.in-Par.left c.args.births.now c.args.closed.now) ++ (leaves_since c.args.self.now.program.now c.args.self.now.instant c.in-Par.right c.args.births.now c.args.closed.now)) (leaves_since c.args.self.now.program.now c.args.self.now.instant c.args.node c.args.births.now c.args.closed.now) c.args.store.now c.tell_since-in-Par.new.store
    (par-since c.args.self.now.program.now c.nodes.ensures.program c.args.node c.args.births.now c.requires.closure c.args.self.now.instant c.args.closed.now c.in-Some.first.now c.in-Some.later.now c.in-Some.ensures.cases.0 c.in-Par.left c.in-Par.right
    (node_found c.args.self.now.program.now c.nodes.result.now c.args.node c.index-nodes-node.result c.nodes.ensures.all c.requires.closure.node c.index-nodes-node.is ∙ ap Some c.in-Par.is))
    (answer-right c.args.self.now.program.now c.args.self.now.levels.now c.args.self.now.stratum c.tell_since-in-Par.result (leaves_since c.args.self.now.program.now c.args.self.now.instant c.in-Par.left c.args.births.now c.args.closed.now) (leaves_since c.args.self.now.program.now c.args.self.now.instant c.in-Par.right c.args.births.now c.args.closed.now) c.args.store.now c.tell_since.new.store c.tell_since-in-Par.new.store c.in_ok-told-in-Par.told c.if-told.false c.in_ok-told-in-Par.ensures c.tell_since-in-Par.ensures)

pub tell_since-returns-then-not-runs : goal.tell_since-returns-then-not-runs
tell_since-returns-then-not-runs t c =
    subst (λ (ls : List Leaf). TellsOne c.args.self.now.program.now c.args.self.now.levels.now c.args.self.now.stratum ls c.args.store.now false c.args.store.now)
    (then-waits c.args.self.now.program.now c.nodes.ensures.program c.args.node c.args.births.now c.requires.closure c.args.self.now.instant c.args.closed.now c.in-Some.first.now c.in-Some.later.now c.in-Some.ensures.cases.0 c.in-Then.ask c.in-Then.body
    (node_found c.args.self.now.program.now c.nodes.result.now c.args.node c.index-nodes-node.result c.nodes.ensures.all c.requires.closure.node c.index-nodes-node.is ∙ ap Some c.in-Then.is) (sym c.in_ok-runs-in-Then.ensures ∙ c.if-not-runs.true)) (tt, refl)

pub tell_since-returns-else-not-runs : goal.tell_since-returns-else-not-runs
tell_since-returns-else-not-runs t c =
    answer-same c.args.self.now.program.now c.args.self.now.levels.now c.args.self.now.stratum c.tell_since-in-Then.result (leaves_since c.args.self.now.program.now c.args.self.now.instant c.in-Then.body c.args.births.now c.args.closed.now) (leaves_since c.args.self.now.program.now c.args.self.now.instant c.args.node c.args.births.now c.args.closed.now) c.args.store.now c.tell_since-in-Then.new.store
    (then-since c.args.self.now.program.now c.nodes.ensures.program c.args.node c.args.births.now c.requires.closure c.args.self.now.instant c.args.closed.now c.in-Some.first.now c.in-Some.later.now c.in-Some.ensures.cases.0 c.in-Then.ask c.in-Then.body
    (node_found c.args.self.now.program.now c.nodes.result.now c.args.node c.index-nodes-node.result c.nodes.ensures.all c.requires.closure.node c.index-nodes-node.is ∙ ap Some c.in-Then.is) (sym c.in_ok-runs-in-Then.ensures ∙ c.if-not-runs.false))
    c.tell_since-in-Then.ensures

pub tell_since-returns-then-refuted : goal.tell_since-returns-then-refuted
tell_since-returns-then-refuted t c =
    subst (λ (ls : List Leaf). TellsOne c.args.self.now.program.now c.args.self.now.levels.now c.args.self.now.stratum ls c.args.store.now false c.args.store.now)
    (else-waits c.args.self.now.program.now c.nodes.ensures.program c.args.node c.args.births.now c.requires.closure c.args.self.now.instant c.args.closed.now c.in-Some.first.now c.in-Some.later.now c.in-Some.ensures.cases.0 c.in-Else.ask c.in-Else.body
    (node_found c.args.self.now.program.now c.nodes.result.now c.args.node c.index-nodes-node.result c.nodes.ensures.all c.requires.closure.node c.index-nodes-node.is ∙ ap Some c.in-Else.is) (sym c.in_ok-refuted-in-Else.ensures ∙ c.if-refuted.true)) (tt, refl)

pub tell_since-returns-else-refuted : goal.tell_since-returns-else-refuted
tell_since-returns-else-refuted t c =
    answer-same c.args.self.now.program.now c.args.self.now.levels.now c.args.self.now.stratum c.tell_since-in-Else.result (leaves_since c.args.self.now.program.now c.args.self.now.instant c.in-Else.body c.args.births.now c.args.closed.now) (leaves_since c.args.self.now.program.now c.args.self.now.instant c.args.node c.args.births.now c.args.closed.now) c.args.store.now c.tell_since-in-Else.new.store
    (else-since c.args.self.now.program.now c.nodes.ensures.program c.args.node c.args.births.now c.requires.closure c.args.self.now.instant c.args.closed.now c.in-Some.first.now c.in-Some.later.now c.in-Some.ensures.cases.0 c.in-Else.ask c.in-Else.body
    (node_found c.args.self.now.program.now c.nodes.result.now c.args.node c.index-nodes-node.result c.nodes.ensures.all c.requires.closure.node c.index-nodes-node.is ∙ ap Some c.in-Else.is) (sym c.in_ok-refuted-in-Else.ensures ∙ c.if-refuted.false))
    c.tell_since-in-Else.ensures

pub tell_since-returns-in_ok-inner-in-New : goal.tell_since-returns-in_ok-inner-in-New
tell_since-returns-in_ok-inner-in-New t c =
    let grown : c.list.result.now ≡ c.args.births.now ++ (c.args.self.now.instant - length c.args.closed.now) ∷ [] = c.list.ensures ∙ c.in_ok-inner-in-New.ensures in
    answer-same c.args.self.now.program.now c.args.self.now.levels.now c.args.self.now.stratum c.tell_since-in-New.result (leaves_since c.args.self.now.program.now c.args.self.now.instant c.in-New.body c.list.result.now c.args.closed.now) (leaves_since c.args.self.now.program.now c.args.self.now.instant c.args.node c.args.births.now c.args.closed.now) c.args.store.now c.tell_since-in-New.new.store
    (new-since c.args.self.now.program.now c.nodes.ensures.program c.args.node c.args.births.now c.requires.closure c.args.self.now.instant c.args.closed.now c.in-Some.first.now c.in-Some.later.now c.in-Some.ensures.cases.0 c.in-New.cell c.in-New.body
    (node_found c.args.self.now.program.now c.nodes.result.now c.args.node c.index-nodes-node.result c.nodes.ensures.all c.requires.closure.node c.index-nodes-node.is ∙ ap Some c.in-New.is) c.list.result.now grown)
    c.tell_since-in-New.ensures

pub tell_since-returns-in-Next : goal.tell_since-returns-in-Next
tell_since-returns-in-Next t c =
    answer-same c.args.self.now.program.now c.args.self.now.levels.now c.args.self.now.stratum c.tell_since-in-Next.result (leaves_since c.args.self.now.program.now c.args.self.now.instant c.in-Next.body c.args.births.now c.in-Some.later.now) (leaves_since c.args.self.now.program.now c.args.self.now.instant c.args.node c.args.births.now c.args.closed.now) c.args.store.now c.tell_since-in-Next.new.store
    (next-since c.args.self.now.program.now c.nodes.ensures.program c.args.node c.args.births.now c.requires.closure c.args.self.now.instant c.args.closed.now c.in-Some.first.now c.in-Some.later.now c.in-Some.ensures.cases.0 c.in-Next.body
    (node_found c.args.self.now.program.now c.nodes.result.now c.args.node c.index-nodes-node.result c.nodes.ensures.all c.requires.closure.node c.index-nodes-node.is ∙ ap Some c.in-Next.is) c.requires.instants)
    c.tell_since-in-Next.ensures

pub tell_since-returns-in-Hence : goal.tell_since-returns-in-Hence
tell_since-returns-in-Hence t c =
    answer-same c.args.self.now.program.now c.args.self.now.levels.now c.args.self.now.stratum c.tell_hence.result (leaves_of_hence c.args.self.now.program.now c.args.self.now.instant c.in-Hence.body c.args.births.now c.in-Some.later.now) (leaves_since c.args.self.now.program.now c.args.self.now.instant c.args.node c.args.births.now c.args.closed.now) c.args.store.now c.tell_hence.new.store
    (hence-since c.args.self.now.program.now c.nodes.ensures.program c.args.node c.args.births.now c.requires.closure c.args.self.now.instant c.args.closed.now c.in-Some.first.now c.in-Some.later.now c.in-Some.ensures.cases.0 c.in-Hence.body
    (node_found c.args.self.now.program.now c.nodes.result.now c.args.node c.index-nodes-node.result c.nodes.ensures.all c.requires.closure.node c.index-nodes-node.is ∙ ap Some c.in-Hence.is) c.requires.instants)
    c.tell_hence.ensures

pub tell_since-returns-in_default : goal.tell_since-returns-in_default
tell_since-returns-in_default t c =
    just_started c.tell_now.result c.args.self.now.program.now c.args.self.now.levels.now c.args.self.now.stratum c.args.self.now.instant c.args.node c.args.births.now c.args.closed.now c.args.store.now c.tell_now.new.store
    (none_left c.split_first.result (length c.args.closed.now) _ c.split_first.ensures.cases (λ x e. c.in_default.not-Some x e)) c.tell_now.ensures

pub tell_hence-tell_now-requires-clause-store : goal.tell_hence-tell_now-requires-clause-store
tell_hence-tell_now-requires-clause-store t c = subst (IsStore c.args.self.now.program.now) (sym c.loop-k.invariant.same) c.requires.store
