use Rattle.std.proofs.Common.{◌≡◌, ◌+◌, ◌-◌, List, [], ◌∷◌, ◌++◌, ℕ, Some, length, sym, ap, ◌∙◌, subst, arith, length-drop}
use Rattle.std.specs.List.{All, list_all}
use Rattle.std.proofs.lemmas.List.{take_rest}
use Rattle.std.proofs.lemmas.List.Elements.{All-drop, All-head, All-rest}
use Rattle.token_system.specs.Stores.{StoreMap}
use Rattle.agent_core.specs.declared.node.Node.TheVariants as nodes
use Rattle.agent_core.specs.Names.{IsClosure}
use Rattle.agent_core.specs.Stores.{IsStore}
use Rattle.agent_core.specs.RestsAfter.{suffixes, obs}
use Rattle.agent_core.proofs.RestTests.{same_answer, node_found, own_ask_fits, left_of, right_of, then_body, else_body, new_body, hence_body, next_body}
use Rattle.agent_core.proofs.ObservedTests.{always-obs, left-not, right-decides, then-waits, then-decides, else-refuted, else-decides, new-obs, next-obs, hence-obs, AreLeft-next}
use Rattle.agent_core.proofs.observing.+node_obs.Goals as goal

pub hence_obs-node_obs-requires : goal.hence_obs-node_obs-requires
hence_obs-node_obs-requires t c =
    let same = take_rest c.args.closed.now c.loop-k.k in
    let more = c.loop-k-test.true in
    let few = c.requires.instants in (
      omega arith,
      (
        c.requires.closure,
        (
          subst (All (IsStore c.args.program.now)) (sym same) (All-drop (IsStore c.args.program.now) c.loop-k.k c.args.closed.now c.requires.closed),
          (omega (arith, ap (λ (z : List StoreMap). length z) same, length-drop c.loop-k.k c.args.closed.now), (c.requires.store, c.requires.guess)),
        ),
      ),
    )

pub hence_obs-loop-k-preserved : goal.hence_obs-loop-k-preserved
hence_obs-loop-k-preserved t c =
    AreLeft-next c.args.program.now c.args.node c.args.births.now c.args.start c.args.closed.now c.args.u.now c.args.v.now c.loop-k.k c.loop-k.invariant c.loop-k-test.true
    (sym c.if-not-rests.false ∙ c.in_ok-rests.ensures ∙ ap (λ (z : List StoreMap). obs c.args.program.now c.args.node c.args.births.now (c.args.start + c.loop-k.k) z c.args.u.now c.args.v.now) (take_rest c.args.closed.now c.loop-k.k))

pub node_obs-node_obs-requires : goal.node_obs-node_obs-requires
node_obs-node_obs-requires t c =
    let part =
    left_of c.args.program.now c.nodes.ensures.program c.args.node c.args.births.now c.requires.closure c.in-Par.left c.in-Par.right
    (node_found c.args.program.now c.nodes.result.now c.args.node c.index-nodes-node.result c.nodes.ensures.all c.requires.closure.node c.index-nodes-node.is ∙ ap Some c.in-Par.is) in
    let above = part.above in
    let inside = part.inside in
    (omega arith, (part.is_closure, (c.requires.closed, (c.requires.instants, (c.requires.store, c.requires.guess)))))

pub node_obs-returns-then-not-left_rests : goal.node_obs-returns-then-not-left_rests
node_obs-returns-then-not-left_rests t c =
    left-not c.args.program.now c.nodes.ensures.program c.args.node c.args.births.now c.requires.closure c.args.start c.args.closed.now c.in-Some.first.now c.in-Some.later.now c.in-Some.ensures.cases.0 c.args.u.now c.args.v.now c.in-Par.left c.in-Par.right
    (node_found c.args.program.now c.nodes.result.now c.args.node c.index-nodes-node.result c.nodes.ensures.all c.requires.closure.node c.index-nodes-node.is ∙ ap Some c.in-Par.is) (sym c.if-not-left_rests.true ∙ c.in_ok-left_rests-in-Par.ensures)

pub node_obs-node_obs-requires-in-Par : goal.node_obs-node_obs-requires-in-Par
node_obs-node_obs-requires-in-Par t c =
    let part =
    right_of c.args.program.now c.nodes.ensures.program c.args.node c.args.births.now c.requires.closure c.in-Par.left c.in-Par.right
    (node_found c.args.program.now c.nodes.result.now c.args.node c.index-nodes-node.result c.nodes.ensures.all c.requires.closure.node c.index-nodes-node.is ∙ ap Some c.in-Par.is) in
    let above = part.above in
    let inside = part.inside in
    (omega arith, (part.is_closure, (c.requires.closed, (c.requires.instants, (c.requires.store, c.requires.guess)))))

pub node_obs-entails-requires-clause-store : goal.node_obs-entails-requires-clause-store
node_obs-entails-requires-clause-store t c =
    All-head (IsStore c.args.program.now) c.in-Some.first.now c.in-Some.later.now (subst (All (IsStore c.args.program.now)) c.in-Some.ensures.cases.0 c.requires.closed)

pub node_obs-entails-requires-clause-fits : goal.node_obs-entails-requires-clause-fits
node_obs-entails-requires-clause-fits t c =
    own_ask_fits c.args.program.now c.nodes.ensures.program c.args.node c.args.births.now c.requires.closure (nodes.Then c.in-Then.ask c.in-Then.body)
    (node_found c.args.program.now c.nodes.result.now c.args.node c.index-nodes-node.result c.nodes.ensures.all c.requires.closure.node c.index-nodes-node.is ∙ ap Some c.in-Then.is)

pub node_obs-returns-then-not-runs : goal.node_obs-returns-then-not-runs
node_obs-returns-then-not-runs t c =
    then-waits c.args.program.now c.nodes.ensures.program c.args.node c.args.births.now c.requires.closure c.args.start c.args.closed.now c.in-Some.first.now c.in-Some.later.now c.in-Some.ensures.cases.0 c.args.u.now c.args.v.now c.in-Then.ask c.in-Then.body
    (node_found c.args.program.now c.nodes.result.now c.args.node c.index-nodes-node.result c.nodes.ensures.all c.requires.closure.node c.index-nodes-node.is ∙ ap Some c.in-Then.is) (sym c.if-not-runs.true ∙ c.in_ok-runs-in-Then.ensures)

pub node_obs-node_obs-requires-in-Then : goal.node_obs-node_obs-requires-in-Then
node_obs-node_obs-requires-in-Then t c =
    let part =
    then_body c.args.program.now c.nodes.ensures.program c.args.node c.args.births.now c.requires.closure c.in-Then.ask c.in-Then.body
    (node_found c.args.program.now c.nodes.result.now c.args.node c.index-nodes-node.result c.nodes.ensures.all c.requires.closure.node c.index-nodes-node.is ∙ ap Some c.in-Then.is) in
    let above = part.above in
    let inside = part.inside in
    (omega arith, (part.is_closure, (c.requires.closed, (c.requires.instants, (c.requires.store, c.requires.guess)))))

pub node_obs-entails-requires-in-Else-clause-store : goal.node_obs-entails-requires-in-Else-clause-store
node_obs-entails-requires-in-Else-clause-store t c =
    All-head (IsStore c.args.program.now) c.in-Some.first.now c.in-Some.later.now (subst (All (IsStore c.args.program.now)) c.in-Some.ensures.cases.0 c.requires.closed)

pub node_obs-entails-requires-in-Else-clause-fits : goal.node_obs-entails-requires-in-Else-clause-fits
node_obs-entails-requires-in-Else-clause-fits t c =
    own_ask_fits c.args.program.now c.nodes.ensures.program c.args.node c.args.births.now c.requires.closure (nodes.Else c.in-Else.ask c.in-Else.body)
    (node_found c.args.program.now c.nodes.result.now c.args.node c.index-nodes-node.result c.nodes.ensures.all c.requires.closure.node c.index-nodes-node.is ∙ ap Some c.in-Else.is)

pub node_obs-returns-then-refuted : goal.node_obs-returns-then-refuted
node_obs-returns-then-refuted t c =
    else-refuted c.args.program.now c.nodes.ensures.program c.args.node c.args.births.now c.requires.closure c.args.start c.args.closed.now c.in-Some.first.now c.in-Some.later.now c.in-Some.ensures.cases.0 c.args.u.now c.args.v.now c.in-Else.ask c.in-Else.body
    (node_found c.args.program.now c.nodes.result.now c.args.node c.index-nodes-node.result c.nodes.ensures.all c.requires.closure.node c.index-nodes-node.is ∙ ap Some c.in-Else.is) (sym c.if-refuted.true ∙ c.in_ok-refuted-in-Else.ensures)

pub node_obs-node_obs-requires-in-Else : goal.node_obs-node_obs-requires-in-Else
node_obs-node_obs-requires-in-Else t c =
    let part =
    else_body c.args.program.now c.nodes.ensures.program c.args.node c.args.births.now c.requires.closure c.in-Else.ask c.in-Else.body
    (node_found c.args.program.now c.nodes.result.now c.args.node c.index-nodes-node.result c.nodes.ensures.all c.requires.closure.node c.index-nodes-node.is ∙ ap Some c.in-Else.is) in
    let above = part.above in
    let inside = part.inside in
    (omega arith, (part.is_closure, (c.requires.closed, (c.requires.instants, (c.requires.store, c.requires.guess)))))

pub node_obs-node_obs-requires-in-New : goal.node_obs-node_obs-requires-in-New
node_obs-node_obs-requires-in-New t c =
    let grown : c.list.result.now ≡ c.args.births.now ++ c.args.start ∷ [] = c.list.ensures ∙ c.in_ok-inner-in-New.ensures in
    let part =
    new_body c.args.program.now c.nodes.ensures.program c.args.node c.args.births.now c.requires.closure c.in-New.cell c.in-New.body c.args.start
    (node_found c.args.program.now c.nodes.result.now c.args.node c.index-nodes-node.result c.nodes.ensures.all c.requires.closure.node c.index-nodes-node.is ∙ ap Some c.in-New.is) in
    let above = part.above in
    let inside = part.inside in
    (omega arith, (subst (IsClosure c.args.program.now c.in-New.body) (sym grown) part.is_closure, (c.requires.closed, (c.requires.instants, (c.requires.store, c.requires.guess)))))

pub node_obs-hence_obs-requires : goal.node_obs-hence_obs-requires
node_obs-hence_obs-requires t c =
    let part = hence_body c.args.program.now c.nodes.ensures.program c.args.node c.args.births.now c.requires.closure c.in-Hence.body
    (node_found c.args.program.now c.nodes.result.now c.args.node c.index-nodes-node.result c.nodes.ensures.all c.requires.closure.node c.index-nodes-node.is ∙ ap Some c.in-Hence.is) in
    let above = part.above in
    let inside = part.inside in
    let few = c.requires.instants in
    let shorter = c.in-Some.ensures.cases.1 in
    let stores = All-rest (IsStore c.args.program.now) c.in-Some.first.now c.in-Some.later.now c.args.closed.now c.in-Some.ensures.cases.0 c.requires.closed in
    (omega arith, (part.is_closure, (stores, (omega arith, (c.requires.store, c.requires.guess)))))

pub node_obs-node_obs-requires-in-Next : goal.node_obs-node_obs-requires-in-Next
node_obs-node_obs-requires-in-Next t c =
    let part = next_body c.args.program.now c.nodes.ensures.program c.args.node c.args.births.now c.requires.closure c.in-Next.body
    (node_found c.args.program.now c.nodes.result.now c.args.node c.index-nodes-node.result c.nodes.ensures.all c.requires.closure.node c.index-nodes-node.is ∙ ap Some c.in-Next.is) in
    let above = part.above in
    let inside = part.inside in
    let few = c.requires.instants in
    let shorter = c.in-Some.ensures.cases.1 in
    let stores = All-rest (IsStore c.args.program.now) c.in-Some.first.now c.in-Some.later.now c.args.closed.now c.in-Some.ensures.cases.0 c.requires.closed in
    (omega arith, (part.is_closure, (stores, (omega arith, (c.requires.store, c.requires.guess)))))

pub node_obs-returns-else-not-left_rests : goal.node_obs-returns-else-not-left_rests
node_obs-returns-else-not-left_rests t c =
    same_answer c.node_obs-in-Par.result (obs c.args.program.now c.in-Par.right c.args.births.now c.args.start c.args.closed.now c.args.u.now c.args.v.now) (obs c.args.program.now c.args.node c.args.births.now c.args.start c.args.closed.now c.args.u.now c.args.v.now)
    (right-decides c.args.program.now c.nodes.ensures.program c.args.node c.args.births.now c.requires.closure c.args.start c.args.closed.now c.in-Some.first.now c.in-Some.later.now c.in-Some.ensures.cases.0 c.args.u.now c.args.v.now c.in-Par.left c.in-Par.right
    (node_found c.args.program.now c.nodes.result.now c.args.node c.index-nodes-node.result c.nodes.ensures.all c.requires.closure.node c.index-nodes-node.is ∙ ap Some c.in-Par.is) (sym c.if-not-left_rests.false ∙ c.in_ok-left_rests-in-Par.ensures))
    c.node_obs-in-Par.ensures

pub node_obs-returns-else-not-runs : goal.node_obs-returns-else-not-runs
node_obs-returns-else-not-runs t c =
    same_answer c.node_obs-in-Then.result (obs c.args.program.now c.in-Then.body c.args.births.now c.args.start c.args.closed.now c.args.u.now c.args.v.now) (obs c.args.program.now c.args.node c.args.births.now c.args.start c.args.closed.now c.args.u.now c.args.v.now)
    (then-decides c.args.program.now c.nodes.ensures.program c.args.node c.args.births.now c.requires.closure c.args.start c.args.closed.now c.in-Some.first.now c.in-Some.later.now c.in-Some.ensures.cases.0 c.args.u.now c.args.v.now c.in-Then.ask c.in-Then.body
    (node_found c.args.program.now c.nodes.result.now c.args.node c.index-nodes-node.result c.nodes.ensures.all c.requires.closure.node c.index-nodes-node.is ∙ ap Some c.in-Then.is) (sym c.if-not-runs.false ∙ c.in_ok-runs-in-Then.ensures))
    c.node_obs-in-Then.ensures

pub node_obs-returns-else-refuted : goal.node_obs-returns-else-refuted
node_obs-returns-else-refuted t c =
    same_answer c.node_obs-in-Else.result (obs c.args.program.now c.in-Else.body c.args.births.now c.args.start c.args.closed.now c.args.u.now c.args.v.now) (obs c.args.program.now c.args.node c.args.births.now c.args.start c.args.closed.now c.args.u.now c.args.v.now)
    (else-decides c.args.program.now c.nodes.ensures.program c.args.node c.args.births.now c.requires.closure c.args.start c.args.closed.now c.in-Some.first.now c.in-Some.later.now c.in-Some.ensures.cases.0 c.args.u.now c.args.v.now c.in-Else.ask c.in-Else.body
    (node_found c.args.program.now c.nodes.result.now c.args.node c.index-nodes-node.result c.nodes.ensures.all c.requires.closure.node c.index-nodes-node.is ∙ ap Some c.in-Else.is) (sym c.if-refuted.false ∙ c.in_ok-refuted-in-Else.ensures))
    c.node_obs-in-Else.ensures

pub node_obs-returns-in_ok-inner-in-New : goal.node_obs-returns-in_ok-inner-in-New
node_obs-returns-in_ok-inner-in-New t c =
    let grown : c.list.result.now ≡ c.args.births.now ++ c.args.start ∷ [] = c.list.ensures ∙ c.in_ok-inner-in-New.ensures in
    same_answer c.node_obs-in-New.result (obs c.args.program.now c.in-New.body c.list.result.now c.args.start c.args.closed.now c.args.u.now c.args.v.now) (obs c.args.program.now c.args.node c.args.births.now c.args.start c.args.closed.now c.args.u.now c.args.v.now)
    (
    ap (λ (b : List ℕ). obs c.args.program.now c.in-New.body b c.args.start c.args.closed.now c.args.u.now c.args.v.now) grown
    ∙ new-obs c.args.program.now c.nodes.ensures.program c.args.node c.args.births.now c.requires.closure c.args.start c.args.closed.now c.in-Some.first.now c.in-Some.later.now c.in-Some.ensures.cases.0 c.args.u.now c.args.v.now c.in-New.cell c.in-New.body
    (node_found c.args.program.now c.nodes.result.now c.args.node c.index-nodes-node.result c.nodes.ensures.all c.requires.closure.node c.index-nodes-node.is ∙ ap Some c.in-New.is)
    )
    c.node_obs-in-New.ensures

pub node_obs-returns-in-Hence : goal.node_obs-returns-in-Hence
node_obs-returns-in-Hence t c =
    same_answer c.hence_obs.result
    (list_all (λ z. obs c.args.program.now c.in-Hence.body c.args.births.now (c.args.start + 1 + length c.in-Some.later.now - length z) z c.args.u.now c.args.v.now) (suffixes c.in-Some.later.now))
    (obs c.args.program.now c.args.node c.args.births.now c.args.start c.args.closed.now c.args.u.now c.args.v.now)
    (hence-obs c.args.program.now c.nodes.ensures.program c.args.node c.args.births.now c.requires.closure c.args.start c.args.closed.now c.in-Some.first.now c.in-Some.later.now c.in-Some.ensures.cases.0 c.args.u.now c.args.v.now c.in-Hence.body
    (node_found c.args.program.now c.nodes.result.now c.args.node c.index-nodes-node.result c.nodes.ensures.all c.requires.closure.node c.index-nodes-node.is ∙ ap Some c.in-Hence.is))
    c.hence_obs.ensures

pub node_obs-returns-in-Next : goal.node_obs-returns-in-Next
node_obs-returns-in-Next t c =
    same_answer c.node_obs-in-Next.result (obs c.args.program.now c.in-Next.body c.args.births.now (c.args.start + 1) c.in-Some.later.now c.args.u.now c.args.v.now) (obs c.args.program.now c.args.node c.args.births.now c.args.start c.args.closed.now c.args.u.now c.args.v.now)
    (next-obs c.args.program.now c.nodes.ensures.program c.args.node c.args.births.now c.requires.closure c.args.start c.args.closed.now c.in-Some.first.now c.in-Some.later.now c.in-Some.ensures.cases.0 c.args.u.now c.args.v.now c.in-Next.body
    (node_found c.args.program.now c.nodes.result.now c.args.node c.index-nodes-node.result c.nodes.ensures.all c.requires.closure.node c.index-nodes-node.is ∙ ap Some c.in-Next.is))
    c.node_obs-in-Next.ensures

pub node_obs-returns-in-Skip : goal.node_obs-returns-in-Skip
node_obs-returns-in-Skip t c =
    always-obs c.args.program.now c.nodes.ensures.program c.args.node c.args.births.now c.requires.closure c.args.start c.args.closed.now c.in-Some.first.now c.in-Some.later.now c.in-Some.ensures.cases.0 c.args.u.now c.args.v.now c.index-nodes-node.result
    (node_found c.args.program.now c.nodes.result.now c.args.node c.index-nodes-node.result c.nodes.ensures.all c.requires.closure.node c.index-nodes-node.is) c.in-Skip.is

pub node_obs-returns-in-Skip-2 : goal.node_obs-returns-in-Skip-2
node_obs-returns-in-Skip-2 t c =
    always-obs c.args.program.now c.nodes.ensures.program c.args.node c.args.births.now c.requires.closure c.args.start c.args.closed.now c.in-Some.first.now c.in-Some.later.now c.in-Some.ensures.cases.0 c.args.u.now c.args.v.now c.index-nodes-node.result
    (node_found c.args.program.now c.nodes.result.now c.args.node c.index-nodes-node.result c.nodes.ensures.all c.requires.closure.node c.index-nodes-node.is) c.in-Skip.is
