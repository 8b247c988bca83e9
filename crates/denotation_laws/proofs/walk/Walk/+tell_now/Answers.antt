use Rattle.std.proofs.Common.{◌≡◌, [], ◌∷◌, ◌++◌, Some, sym, ap, ◌∙◌, subst, arith}
use Rattle.agent_core.specs.Names.{IsClosure}
use Rattle.agent_core.specs.declared.node.Node.TheVariants as nodes
use Rattle.agent_core.proofs.RestTests.{node_found, own_ask_fits, left_of, right_of, then_body, else_body, new_body}
use Rattle.denotation_laws.proofs.NodeLeaves.{silent-now, tell-now, left-now, right-now, untold-store, then-refused, then-now, else-refused, else-now, new-now}
use Rattle.denotation_laws.proofs.walk.Walk.+tell_now.Goals as goal

pub tell_due-requires-clause-fits : goal.tell_due-requires-clause-fits
tell_due-requires-clause-fits t c =
    own_ask_fits c.args.self.now.program.now c.nodes.ensures.program c.args.node c.args.births.now c.requires.closure (nodes.Tell c.in-Tell.ask)
    (node_found c.args.self.now.program.now c.nodes.result.now c.args.node c.index-nodes-node.result c.nodes.ensures.all c.requires.closure.node c.index-nodes-node.is ∙ ap Some c.in-Tell.is)

pub entails-requires-clause-fits : goal.entails-requires-clause-fits
entails-requires-clause-fits t c =
    own_ask_fits c.args.self.now.program.now c.nodes.ensures.program c.args.node c.args.births.now c.requires.closure (nodes.Then c.in-Then.ask c.in-Then.body)
    (node_found c.args.self.now.program.now c.nodes.result.now c.args.node c.index-nodes-node.result c.nodes.ensures.all c.requires.closure.node c.index-nodes-node.is ∙ ap Some c.in-Then.is)

pub entails-requires-in-Else-clause-fits : goal.entails-requires-in-Else-clause-fits
entails-requires-in-Else-clause-fits t c =
    own_ask_fits c.args.self.now.program.now c.nodes.ensures.program c.args.node c.args.births.now c.requires.closure (nodes.Else c.in-Else.ask c.in-Else.body)
    (node_found c.args.self.now.program.now c.nodes.result.now c.args.node c.index-nodes-node.result c.nodes.ensures.all c.requires.closure.node c.index-nodes-node.is ∙ ap Some c.in-Else.is)

pub tell_now-requires : goal.tell_now-requires
tell_now-requires t c =
    let part =
    left_of c.args.self.now.program.now c.nodes.ensures.program c.args.node c.args.births.now c.requires.closure c.in-Par.left c.in-Par.right
    (node_found c.args.self.now.program.now c.nodes.result.now c.args.node c.index-nodes-node.result c.nodes.ensures.all c.requires.closure.node c.index-nodes-node.is ∙ ap Some c.in-Par.is) in
    let above = part.above in
    let inside = part.inside in
    (omega arith, (part.is_closure, c.requires.store))

pub tell_now-requires-in-Par : goal.tell_now-requires-in-Par
tell_now-requires-in-Par t c =
    let part =
    right_of c.args.self.now.program.now c.nodes.ensures.program c.args.node c.args.births.now c.requires.closure c.in-Par.left c.in-Par.right
    (node_found c.args.self.now.program.now c.nodes.result.now c.args.node c.index-nodes-node.result c.nodes.ensures.all c.requires.closure.node c.index-nodes-node.is ∙ ap Some c.in-Par.is) in
    let above = part.above in
    let inside = part.inside in
    (omega arith, (part.is_closure, untold-store c.args.self.now.program.now c.nodes.ensures.program c.args.node c.args.births.now c.requires.closure c.args.self.now.levels.now c.args.self.now.stratum c.args.self.now.instant c.args.store.now c.in-Par.left c.args.births.now c.in_ok-told-in-Par.told c.if-told.false c.tell_now.new.store c.in_ok-told-in-Par.ensures c.requires.store))

pub tell_now-requires-in-Then : goal.tell_now-requires-in-Then
tell_now-requires-in-Then t c =
    let part =
    then_body c.args.self.now.program.now c.nodes.ensures.program c.args.node c.args.births.now c.requires.closure c.in-Then.ask c.in-Then.body
    (node_found c.args.self.now.program.now c.nodes.result.now c.args.node c.index-nodes-node.result c.nodes.ensures.all c.requires.closure.node c.index-nodes-node.is ∙ ap Some c.in-Then.is) in
    let above = part.above in
    let inside = part.inside in
    (omega arith, (part.is_closure, c.requires.store))

pub tell_now-requires-in-Else : goal.tell_now-requires-in-Else
tell_now-requires-in-Else t c =
    let part =
    else_body c.args.self.now.program.now c.nodes.ensures.program c.args.node c.args.births.now c.requires.closure c.in-Else.ask c.in-Else.body
    (node_found c.args.self.now.program.now c.nodes.result.now c.args.node c.index-nodes-node.result c.nodes.ensures.all c.requires.closure.node c.index-nodes-node.is ∙ ap Some c.in-Else.is) in
    let above = part.above in
    let inside = part.inside in
    (omega arith, (part.is_closure, c.requires.store))

pub tell_now-requires-in-New : goal.tell_now-requires-in-New
tell_now-requires-in-New t c =
    let grown : c.list.result.now ≡ c.args.births.now ++ c.args.self.now.instant ∷ [] = c.list.ensures ∙ c.in_ok-inner-in-New.ensures in
    let part =
    new_body c.args.self.now.program.now c.nodes.ensures.program c.args.node c.args.births.now c.requires.closure c.in-New.cell c.in-New.body c.args.self.now.instant
    (node_found c.args.self.now.program.now c.nodes.result.now c.args.node c.index-nodes-node.result c.nodes.ensures.all c.requires.closure.node c.index-nodes-node.is ∙ ap Some c.in-New.is) in
    let above = part.above in
    let inside = part.inside in
    (omega arith, (subst (IsClosure c.args.self.now.program.now c.in-New.body) (sym grown) part.is_closure, c.requires.store))

pub returns-in-Skip : goal.returns-in-Skip
returns-in-Skip t c =
    silent-now c.args.self.now.program.now c.nodes.ensures.program c.args.node c.args.births.now c.requires.closure c.args.self.now.levels.now c.args.self.now.stratum c.args.self.now.instant c.args.store.now c.index-nodes-node.result
    (node_found c.args.self.now.program.now c.nodes.result.now c.args.node c.index-nodes-node.result c.nodes.ensures.all c.requires.closure.node c.index-nodes-node.is) c.in-Skip.is

pub returns-in-Skip-2 : goal.returns-in-Skip-2
returns-in-Skip-2 t c =
    silent-now c.args.self.now.program.now c.nodes.ensures.program c.args.node c.args.births.now c.requires.closure c.args.self.now.levels.now c.args.self.now.stratum c.args.self.now.instant c.args.store.now c.index-nodes-node.result
    (node_found c.args.self.now.program.now c.nodes.result.now c.args.node c.index-nodes-node.result c.nodes.ensures.all c.requires.closure.node c.index-nodes-node.is) c.in-Skip.is

pub returns-in-Skip-3 : goal.returns-in-Skip-3
returns-in-Skip-3 t c =
    silent-now c.args.self.now.program.now c.nodes.ensures.program c.args.node c.args.births.now c.requires.closure c.args.self.now.levels.now c.args.self.now.stratum c.args.self.now.instant c.args.store.now c.index-nodes-node.result
    (node_found c.args.self.now.program.now c.nodes.result.now c.args.node c.index-nodes-node.result c.nodes.ensures.all c.requires.closure.node c.index-nodes-node.is) c.in-Skip.is

pub returns-in-Tell : goal.returns-in-Tell
returns-in-Tell t c =
    tell-now c.args.self.now.program.now c.nodes.ensures.program c.args.node c.args.births.now c.requires.closure c.args.self.now.levels.now c.args.self.now.stratum c.args.self.now.instant c.args.store.now c.tell_due.result c.in-Tell.ask
    (node_found c.args.self.now.program.now c.nodes.result.now c.args.node c.index-nodes-node.result c.nodes.ensures.all c.requires.closure.node c.index-nodes-node.is ∙ ap Some c.in-Tell.is)
    c.tell_due.new.store c.tell_due.ensures

pub returns-then-told : goal.returns-then-told
returns-then-told t c =
    left-now c.args.self.now.program.now c.nodes.ensures.program c.args.node c.args.births.now c.requires.closure c.args.self.now.levels.now c.args.self.now.stratum c.args.self.now.instant c.args.store.now c.in-Par.left c.in-Par.right
    (node_found c.args.self.now.program.now c.nodes.result.now c.args.node c.index-nodes-node.result c.nodes.ensures.all c.requires.closure.node c.index-nodes-node.is ∙ ap Some c.in-Par.is)
    c.in_ok-told-in-Par.told c.if-told.true c.tell_now.new.store c.in_ok-told-in-Par.ensures

pub returns-else-told : goal.returns-else-told
returns-else-told t c =
    right-now c.args.self.now.program.now c.nodes.ensures.program c.args.node c.args.births.now c.requires.closure c.args.self.now.levels.now c.args.self.now.stratum c.args.self.now.instant c.args.store.now c.tell_now-in-Par.result c.in-Par.left c.in-Par.right
    (node_found c.args.self.now.program.now c.nodes.result.now c.args.node c.index-nodes-node.result c.nodes.ensures.all c.requires.closure.node c.index-nodes-node.is ∙ ap Some c.in-Par.is)
    c.in_ok-told-in-Par.told c.if-told.false c.tell_now.new.store c.tell_now-in-Par.new.store c.in_ok-told-in-Par.ensures c.tell_now-in-Par.ensures

pub returns-then-not-runs : goal.returns-then-not-runs
returns-then-not-runs t c =
    then-refused c.args.self.now.program.now c.nodes.ensures.program c.args.node c.args.births.now c.requires.closure c.args.self.now.levels.now c.args.self.now.stratum c.args.self.now.instant c.args.store.now c.in-Then.ask c.in-Then.body
    (node_found c.args.self.now.program.now c.nodes.result.now c.args.node c.index-nodes-node.result c.nodes.ensures.all c.requires.closure.node c.index-nodes-node.is ∙ ap Some c.in-Then.is)
    (sym c.in_ok-runs-in-Then.ensures ∙ c.if-not-runs.true)

pub returns-else-not-runs : goal.returns-else-not-runs
returns-else-not-runs t c =
    then-now c.args.self.now.program.now c.nodes.ensures.program c.args.node c.args.births.now c.requires.closure c.args.self.now.levels.now c.args.self.now.stratum c.args.self.now.instant c.args.store.now c.tell_now-in-Then.result c.in-Then.ask c.in-Then.body
    (node_found c.args.self.now.program.now c.nodes.result.now c.args.node c.index-nodes-node.result c.nodes.ensures.all c.requires.closure.node c.index-nodes-node.is ∙ ap Some c.in-Then.is)
    (sym c.in_ok-runs-in-Then.ensures ∙ c.if-not-runs.false) c.tell_now-in-Then.new.store c.tell_now-in-Then.ensures

pub returns-then-refuted : goal.returns-then-refuted
returns-then-refuted t c =
    else-refused c.args.self.now.program.now c.nodes.ensures.program c.args.node c.args.births.now c.requires.closure c.args.self.now.levels.now c.args.self.now.stratum c.args.self.now.instant c.args.store.now c.in-Else.ask c.in-Else.body
    (node_found c.args.self.now.program.now c.nodes.result.now c.args.node c.index-nodes-node.result c.nodes.ensures.all c.requires.closure.node c.index-nodes-node.is ∙ ap Some c.in-Else.is)
    (sym c.in_ok-refuted-in-Else.ensures ∙ c.if-refuted.true)

pub returns-else-refuted : goal.returns-else-refuted
returns-else-refuted t c =
    else-now c.args.self.now.program.now c.nodes.ensures.program c.args.node c.args.births.now c.requires.closure c.args.self.now.levels.now c.args.self.now.stratum c.args.self.now.instant c.args.store.now c.tell_now-in-Else.result c.in-Else.ask c.in-Else.body
    (node_found c.args.self.now.program.now c.nodes.result.now c.args.node c.index-nodes-node.result c.nodes.ensures.all c.requires.closure.node c.index-nodes-node.is ∙ ap Some c.in-Else.is)
    (sym c.in_ok-refuted-in-Else.ensures ∙ c.if-refuted.false) c.tell_now-in-Else.new.store c.tell_now-in-Else.ensures

pub returns-in_ok-inner-in-New : goal.returns-in_ok-inner-in-New
returns-in_ok-inner-in-New t c =
    let grown : c.list.result.now ≡ c.args.births.now ++ c.args.self.now.instant ∷ [] = c.list.ensures ∙ c.in_ok-inner-in-New.ensures in
    new-now c.args.self.now.program.now c.nodes.ensures.program c.args.node c.args.births.now c.requires.closure c.args.self.now.levels.now c.args.self.now.stratum c.args.self.now.instant c.args.store.now c.tell_now-in-New.result c.in-New.cell c.in-New.body
    (node_found c.args.self.now.program.now c.nodes.result.now c.args.node c.index-nodes-node.result c.nodes.ensures.all c.requires.closure.node c.index-nodes-node.is ∙ ap Some c.in-New.is)
    c.list.result.now grown c.tell_now-in-New.new.store c.tell_now-in-New.ensures
