use Rattle.std.proofs.Common.{◌≡◌, true, List, [], ◌∷◌, ◌++◌, ℕ, Some, sym, ap, ◌∙◌, subst, arith}
use Rattle.agent_core.specs.Names.{IsClosure}
use Rattle.agent_core.specs.declared.node.Node.TheVariants as nodes
use Rattle.agent_core.specs.Rests.{rests, entails}
use Rattle.agent_core.proofs.RestTests.{same_answer, node_found, own_ask_fits, left_of, right_of, then_body, else_body, new_body, always-rests, tell-rests, new-rests, left-not, right-decides, refuted-rests, else-decides, Now, now-not, now-runs, now-waits, then-not, then-waits, then-decides}
use Rattle.agent_core.proofs.resting.+node_rests.Goals as goal
use Rattle.agent_core.proofs.resting.+node_rests.Goals.{then-runs+in_ok-body_rests-in-Then+else-not-body_rests, else-runs}

pub entails-requires-clause-fits : goal.entails-requires-clause-fits
entails-requires-clause-fits t c =
    own_ask_fits c.args.program.now c.nodes.ensures.program c.args.node c.args.births.now c.requires.closure (nodes.Tell c.in-Tell.ask)
    (node_found c.args.program.now c.nodes.result.now c.args.node c.index-nodes-node.result c.nodes.ensures.all c.requires.closure.node c.index-nodes-node.is ∙ ap Some c.in-Tell.is)

pub entails-requires-in-Then-clause-fits : goal.entails-requires-in-Then-clause-fits
entails-requires-in-Then-clause-fits t c =
    own_ask_fits c.args.program.now c.nodes.ensures.program c.args.node c.args.births.now c.requires.closure (nodes.Then c.in-Then.ask c.in-Then.body)
    (node_found c.args.program.now c.nodes.result.now c.args.node c.index-nodes-node.result c.nodes.ensures.all c.requires.closure.node c.index-nodes-node.is ∙ ap Some c.in-Then.is)

pub entails-requires-in-Then-2-clause-fits : goal.entails-requires-in-Then-2-clause-fits
entails-requires-in-Then-2-clause-fits t c =
    own_ask_fits c.args.program.now c.nodes.ensures.program c.args.node c.args.births.now c.requires.closure (nodes.Then c.in-Then.ask c.in-Then.body)
    (node_found c.args.program.now c.nodes.result.now c.args.node c.index-nodes-node.result c.nodes.ensures.all c.requires.closure.node c.index-nodes-node.is ∙ ap Some c.in-Then.is)

pub entails-requires-in-Else-clause-fits : goal.entails-requires-in-Else-clause-fits
entails-requires-in-Else-clause-fits t c =
    own_ask_fits c.args.program.now c.nodes.ensures.program c.args.node c.args.births.now c.requires.closure (nodes.Else c.in-Else.ask c.in-Else.body)
    (node_found c.args.program.now c.nodes.result.now c.args.node c.index-nodes-node.result c.nodes.ensures.all c.requires.closure.node c.index-nodes-node.is ∙ ap Some c.in-Else.is)

pub node_rests-requires : goal.node_rests-requires
node_rests-requires t c =
    let part =
    left_of c.args.program.now c.nodes.ensures.program c.args.node c.args.births.now c.requires.closure c.in-Par.left c.in-Par.right
    (node_found c.args.program.now c.nodes.result.now c.args.node c.index-nodes-node.result c.nodes.ensures.all c.requires.closure.node c.index-nodes-node.is ∙ ap Some c.in-Par.is) in
    let above = part.above in
    let inside = part.inside in
    (omega arith, (part.is_closure, (c.requires.store, c.requires.guess)))

pub node_rests-requires-in-Par : goal.node_rests-requires-in-Par
node_rests-requires-in-Par t c =
    let part =
    right_of c.args.program.now c.nodes.ensures.program c.args.node c.args.births.now c.requires.closure c.in-Par.left c.in-Par.right
    (node_found c.args.program.now c.nodes.result.now c.args.node c.index-nodes-node.result c.nodes.ensures.all c.requires.closure.node c.index-nodes-node.is ∙ ap Some c.in-Par.is) in
    let above = part.above in
    let inside = part.inside in
    (omega arith, (part.is_closure, (c.requires.store, c.requires.guess)))

pub node_rests-requires-then-runs : goal.node_rests-requires-then-runs
node_rests-requires-then-runs t c =
    let part =
    then_body c.args.program.now c.nodes.ensures.program c.args.node c.args.births.now c.requires.closure c.in-Then.ask c.in-Then.body
    (node_found c.args.program.now c.nodes.result.now c.args.node c.index-nodes-node.result c.nodes.ensures.all c.requires.closure.node c.index-nodes-node.is ∙ ap Some c.in-Then.is) in
    let above = part.above in
    let inside = part.inside in
    (omega arith, (part.is_closure, (c.requires.store, c.requires.guess)))

pub node_rests-requires-in-Then : goal.node_rests-requires-in-Then
node_rests-requires-in-Then t c =
    let part =
    then_body c.args.program.now c.nodes.ensures.program c.args.node c.args.births.now c.requires.closure c.in-Then.ask c.in-Then.body
    (node_found c.args.program.now c.nodes.result.now c.args.node c.index-nodes-node.result c.nodes.ensures.all c.requires.closure.node c.index-nodes-node.is ∙ ap Some c.in-Then.is) in
    let above = part.above in
    let inside = part.inside in
    (omega arith, (part.is_closure, (c.requires.guess, c.requires.guess)))

pub node_rests-requires-in-Else : goal.node_rests-requires-in-Else
node_rests-requires-in-Else t c =
    let part =
    else_body c.args.program.now c.nodes.ensures.program c.args.node c.args.births.now c.requires.closure c.in-Else.ask c.in-Else.body
    (node_found c.args.program.now c.nodes.result.now c.args.node c.index-nodes-node.result c.nodes.ensures.all c.requires.closure.node c.index-nodes-node.is ∙ ap Some c.in-Else.is) in
    let above = part.above in
    let inside = part.inside in
    (omega arith, (part.is_closure, (c.requires.store, c.requires.guess)))

pub node_rests-requires-in-New : goal.node_rests-requires-in-New
node_rests-requires-in-New t c =
    let grown : c.list.result.now ≡ c.args.births.now ++ c.args.t ∷ [] = c.list.ensures ∙ c.in_ok-inner-in-New.ensures in
    let part =
    new_body c.args.program.now c.nodes.ensures.program c.args.node c.args.births.now c.requires.closure c.in-New.cell c.in-New.body c.args.t
    (node_found c.args.program.now c.nodes.result.now c.args.node c.index-nodes-node.result c.nodes.ensures.all c.requires.closure.node c.index-nodes-node.is ∙ ap Some c.in-New.is) in
    let above = part.above in
    let inside = part.inside in
    (omega arith, (subst (IsClosure c.args.program.now c.in-New.body) (sym grown) part.is_closure, (c.requires.store, c.requires.guess)))

pub returns-in_ok-inner-in-New : goal.returns-in_ok-inner-in-New
returns-in_ok-inner-in-New t c =
    let grown : c.list.result.now ≡ c.args.births.now ++ c.args.t ∷ [] = c.list.ensures ∙ c.in_ok-inner-in-New.ensures in
    same_answer c.node_rests-in-New.result (rests c.args.program.now c.in-New.body c.list.result.now c.args.t c.args.u.now c.args.v.now) (rests c.args.program.now c.args.node c.args.births.now c.args.t c.args.u.now c.args.v.now)
    (
    ap (λ (b : List ℕ). rests c.args.program.now c.in-New.body b c.args.t c.args.u.now c.args.v.now) grown
    ∙ new-rests c.args.program.now c.nodes.ensures.program c.args.node c.args.births.now c.requires.closure c.args.t c.args.u.now c.args.v.now c.in-New.cell c.in-New.body
    (node_found c.args.program.now c.nodes.result.now c.args.node c.index-nodes-node.result c.nodes.ensures.all c.requires.closure.node c.index-nodes-node.is ∙ ap Some c.in-New.is)
    )
    c.node_rests-in-New.ensures

pub returns-in-Skip : goal.returns-in-Skip
returns-in-Skip t c =
    always-rests c.args.program.now c.nodes.ensures.program c.args.node c.args.births.now c.requires.closure c.args.t c.args.u.now c.args.v.now c.index-nodes-node.result
    (node_found c.args.program.now c.nodes.result.now c.args.node c.index-nodes-node.result c.nodes.ensures.all c.requires.closure.node c.index-nodes-node.is) c.in-Skip.is

pub returns-in-Skip-2 : goal.returns-in-Skip-2
returns-in-Skip-2 t c =
    always-rests c.args.program.now c.nodes.ensures.program c.args.node c.args.births.now c.requires.closure c.args.t c.args.u.now c.args.v.now c.index-nodes-node.result
    (node_found c.args.program.now c.nodes.result.now c.args.node c.index-nodes-node.result c.nodes.ensures.all c.requires.closure.node c.index-nodes-node.is) c.in-Skip.is

pub returns-in-Skip-3 : goal.returns-in-Skip-3
returns-in-Skip-3 t c =
    always-rests c.args.program.now c.nodes.ensures.program c.args.node c.args.births.now c.requires.closure c.args.t c.args.u.now c.args.v.now c.index-nodes-node.result
    (node_found c.args.program.now c.nodes.result.now c.args.node c.index-nodes-node.result c.nodes.ensures.all c.requires.closure.node c.index-nodes-node.is) c.in-Skip.is

pub returns-in-Tell : goal.returns-in-Tell
returns-in-Tell t c =
    same_answer c.entails.result (entails c.args.program.now c.args.births.now c.args.u.now c.in-Tell.ask) (rests c.args.program.now c.args.node c.args.births.now c.args.t c.args.u.now c.args.v.now)
    (tell-rests c.args.program.now c.nodes.ensures.program c.args.node c.args.births.now c.requires.closure c.args.t c.args.u.now c.args.v.now c.in-Tell.ask
    (node_found c.args.program.now c.nodes.result.now c.args.node c.index-nodes-node.result c.nodes.ensures.all c.requires.closure.node c.index-nodes-node.is ∙ ap Some c.in-Tell.is))
    c.entails.ensures

pub returns-then-not-left_rests : goal.returns-then-not-left_rests
returns-then-not-left_rests t c =
    left-not c.args.program.now c.nodes.ensures.program c.args.node c.args.births.now c.requires.closure c.args.t c.args.u.now c.args.v.now c.in-Par.left c.in-Par.right
    (node_found c.args.program.now c.nodes.result.now c.args.node c.index-nodes-node.result c.nodes.ensures.all c.requires.closure.node c.index-nodes-node.is ∙ ap Some c.in-Par.is)
    (sym c.if-not-left_rests.true ∙ c.in_ok-left_rests-in-Par.ensures)

pub returns-else-not-left_rests : goal.returns-else-not-left_rests
returns-else-not-left_rests t c =
    same_answer c.node_rests-in-Par.result (rests c.args.program.now c.in-Par.right c.args.births.now c.args.t c.args.u.now c.args.v.now) (rests c.args.program.now c.args.node c.args.births.now c.args.t c.args.u.now c.args.v.now)
    (right-decides c.args.program.now c.nodes.ensures.program c.args.node c.args.births.now c.requires.closure c.args.t c.args.u.now c.args.v.now c.in-Par.left c.in-Par.right
    (node_found c.args.program.now c.nodes.result.now c.args.node c.index-nodes-node.result c.nodes.ensures.all c.requires.closure.node c.index-nodes-node.is ∙ ap Some c.in-Par.is)
    (sym c.if-not-left_rests.false ∙ c.in_ok-left_rests-in-Par.ensures))
    c.node_rests-in-Par.ensures

pub returns-then-not-body_rests : goal.returns-then-not-body_rests
returns-then-not-body_rests t c =
    let now = now-not c.args.program.now c.nodes.ensures.program c.args.node c.args.births.now c.requires.closure c.args.t c.args.u.now c.args.v.now c.in-Then.ask c.in-Then.body (sym c.if-runs.true ∙ c.in_ok-runs-in-Then.ensures) (sym c.if-not-body_rests.true ∙ c.in_ok-body_rests-in-Then.ensures) in
    then-not c.args.program.now c.nodes.ensures.program c.args.node c.args.births.now c.requires.closure c.args.t c.args.u.now c.args.v.now c.in-Then.ask c.in-Then.body
    (node_found c.args.program.now c.nodes.result.now c.args.node c.index-nodes-node.result c.nodes.ensures.all c.requires.closure.node c.index-nodes-node.is ∙ ap Some c.in-Then.is)
    now

pub returns-then-not-runs_at_last : goal.returns-then-not-runs_at_last
returns-then-not-runs_at_last t c =
    let now : true ≡ Now c.args.program.now c.nodes.ensures.program c.args.node c.args.births.now c.requires.closure c.args.t c.args.u.now c.args.v.now c.in-Then.ask c.in-Then.body = elim c.if-runs.branch [
      | then-runs+in_ok-body_rests-in-Then+else-not-body_rests w ↦ now-runs c.args.program.now c.nodes.ensures.program c.args.node c.args.births.now c.requires.closure c.args.t c.args.u.now c.args.v.now c.in-Then.ask c.in-Then.body (sym w.if-not-body_rests.false ∙ w.in_ok-body_rests-in-Then.ensures)
      | else-runs w ↦ now-waits c.args.program.now c.nodes.ensures.program c.args.node c.args.births.now c.requires.closure c.args.t c.args.u.now c.args.v.now c.in-Then.ask c.in-Then.body (sym w.if-runs.false ∙ c.in_ok-runs-in-Then.ensures)
    ] in
    then-waits c.args.program.now c.nodes.ensures.program c.args.node c.args.births.now c.requires.closure c.args.t c.args.u.now c.args.v.now c.in-Then.ask c.in-Then.body
    (node_found c.args.program.now c.nodes.result.now c.args.node c.index-nodes-node.result c.nodes.ensures.all c.requires.closure.node c.index-nodes-node.is ∙ ap Some c.in-Then.is)
    now (sym c.if-not-runs_at_last.true ∙ c.in_ok-runs_at_last-in-Then.ensures)

pub returns-else-not-runs_at_last : goal.returns-else-not-runs_at_last
returns-else-not-runs_at_last t c =
    let now : true ≡ Now c.args.program.now c.nodes.ensures.program c.args.node c.args.births.now c.requires.closure c.args.t c.args.u.now c.args.v.now c.in-Then.ask c.in-Then.body = elim c.if-runs.branch [
      | then-runs+in_ok-body_rests-in-Then+else-not-body_rests w ↦ now-runs c.args.program.now c.nodes.ensures.program c.args.node c.args.births.now c.requires.closure c.args.t c.args.u.now c.args.v.now c.in-Then.ask c.in-Then.body (sym w.if-not-body_rests.false ∙ w.in_ok-body_rests-in-Then.ensures)
      | else-runs w ↦ now-waits c.args.program.now c.nodes.ensures.program c.args.node c.args.births.now c.requires.closure c.args.t c.args.u.now c.args.v.now c.in-Then.ask c.in-Then.body (sym w.if-runs.false ∙ c.in_ok-runs-in-Then.ensures)
    ] in
    same_answer c.node_rests-in-Then.result (rests c.args.program.now c.in-Then.body c.args.births.now c.args.t c.args.v.now c.args.v.now) (rests c.args.program.now c.args.node c.args.births.now c.args.t c.args.u.now c.args.v.now)
    (then-decides c.args.program.now c.nodes.ensures.program c.args.node c.args.births.now c.requires.closure c.args.t c.args.u.now c.args.v.now c.in-Then.ask c.in-Then.body
    (node_found c.args.program.now c.nodes.result.now c.args.node c.index-nodes-node.result c.nodes.ensures.all c.requires.closure.node c.index-nodes-node.is ∙ ap Some c.in-Then.is)
    now (sym c.if-not-runs_at_last.false ∙ c.in_ok-runs_at_last-in-Then.ensures))
    c.node_rests-in-Then.ensures

pub returns-then-refuted : goal.returns-then-refuted
returns-then-refuted t c =
    refuted-rests c.args.program.now c.nodes.ensures.program c.args.node c.args.births.now c.requires.closure c.args.t c.args.u.now c.args.v.now c.in-Else.ask c.in-Else.body
    (node_found c.args.program.now c.nodes.result.now c.args.node c.index-nodes-node.result c.nodes.ensures.all c.requires.closure.node c.index-nodes-node.is ∙ ap Some c.in-Else.is)
    (sym c.if-refuted.true ∙ c.in_ok-refuted-in-Else.ensures)

pub returns-else-refuted : goal.returns-else-refuted
returns-else-refuted t c =
    same_answer c.node_rests-in-Else.result (rests c.args.program.now c.in-Else.body c.args.births.now c.args.t c.args.u.now c.args.v.now) (rests c.args.program.now c.args.node c.args.births.now c.args.t c.args.u.now c.args.v.now)
    (else-decides c.args.program.now c.nodes.ensures.program c.args.node c.args.births.now c.requires.closure c.args.t c.args.u.now c.args.v.now c.in-Else.ask c.in-Else.body
    (node_found c.args.program.now c.nodes.result.now c.args.node c.index-nodes-node.result c.nodes.ensures.all c.requires.closure.node c.index-nodes-node.is ∙ ap Some c.in-Else.is)
    (sym c.if-refuted.false ∙ c.in_ok-refuted-in-Else.ensures))
    c.node_rests-in-Else.ensures
