use Rattle.std.proofs.Common.{◌≡◌, [], ◌∷◌, ◌++◌, Some, sym, ap, ◌∙◌, subst, arith}
use Rattle.agent_core.specs.declared.node.Node.TheVariants as nodes
use Rattle.agent_core.specs.Names.{IsClosure}
use Rattle.agent_core.proofs.RestTests.{node_found, own_ask_fits, left_of, right_of, new_body}
use Rattle.instant_net.specs.Collecting.{AddsAsked, AddsSpoken}
use Rattle.instant_net.specs.Covering.{CoversAsk, CoversNode}
use Rattle.instant_net.proofs.Covering.{covers-none, covers-tell, covers-body, covers-par, covers-new}
use Rattle.instant_net.proofs.Atoms.{if_ok}
use Rattle.instant_net.proofs.SpokenNames.{spoken-none, spoken-tell, spoken-body, spoken-new, spoken-par}
use Rattle.instant_net.proofs.NodeParts.{body_of, body-asked}
use Rattle.instant_net.proofs.collecting.Collector.+add_node.Goals as goal

pub add_ask-requires : goal.add_ask-requires
add_ask-requires t c = record { locals = c.requires.locals; fits = own_ask_fits c.args.self.now.program.now c.nodes.ensures.program c.args.node c.args.births.now c.requires.closure (nodes.Tell c.in-Tell.told) (node_found c.args.self.now.program.now c.nodes.result.now c.args.node c.index-nodes-node.result c.nodes.ensures.all c.requires.closure.node c.index-nodes-node.is ∙ ap Some c.in-Tell.is) }

pub add_ask-requires-in-Then : goal.add_ask-requires-in-Then
add_ask-requires-in-Then t c = record { locals = c.requires.locals; fits = body-asked c.args.self.now.program.now c.nodes.ensures.program c.args.node c.args.births.now c.requires.closure c.index-nodes-node.result c.in-Then.ask c.in-Then.body c.in-Then.is (node_found c.args.self.now.program.now c.nodes.result.now c.args.node c.index-nodes-node.result c.nodes.ensures.all c.requires.closure.node c.index-nodes-node.is) }

pub add_node-requires : goal.add_node-requires
add_node-requires t c =
    let part = left_of c.args.self.now.program.now c.nodes.ensures.program c.args.node c.args.births.now c.requires.closure c.in-Par.left c.in-Par.right (node_found c.args.self.now.program.now c.nodes.result.now c.args.node c.index-nodes-node.result c.nodes.ensures.all c.requires.closure.node c.index-nodes-node.is ∙ ap Some c.in-Par.is) in
    let above = part.above in
    let inside = part.inside in
    (omega arith, (c.requires.locals, part.is_closure))

pub add_node-requires-in-Par : goal.add_node-requires-in-Par
add_node-requires-in-Par t c =
    let part = right_of c.args.self.now.program.now c.nodes.ensures.program c.args.node c.args.births.now c.requires.closure c.in-Par.left c.in-Par.right (node_found c.args.self.now.program.now c.nodes.result.now c.args.node c.index-nodes-node.result c.nodes.ensures.all c.requires.closure.node c.index-nodes-node.is ∙ ap Some c.in-Par.is) in
    let above = part.above in
    let inside = part.inside in
    (omega arith, (c.requires.locals, part.is_closure))

pub add_node-requires-in-New : goal.add_node-requires-in-New
add_node-requires-in-New t c =
    let grown : c.list.result.now ≡ c.args.births.now ++ c.args.self.now.t ∷ [] = c.list.ensures ∙ c.in_ok-inner-in-New.ensures in
    let part = new_body c.args.self.now.program.now c.nodes.ensures.program c.args.node c.args.births.now c.requires.closure c.in-New.cell c.in-New.body c.args.self.now.t (node_found c.args.self.now.program.now c.nodes.result.now c.args.node c.index-nodes-node.result c.nodes.ensures.all c.requires.closure.node c.index-nodes-node.is ∙ ap Some c.in-New.is) in
    let above = part.above in
    let inside = part.inside in
    (omega arith, (c.requires.locals, subst (IsClosure c.args.self.now.program.now c.in-New.body) (sym grown) part.is_closure))

pub add_node-requires-in-Then : goal.add_node-requires-in-Then
add_node-requires-in-Then t c =
    let part = body_of c.args.self.now.program.now c.nodes.ensures.program c.args.node c.args.births.now c.requires.closure c.index-nodes-node.result c.in-Then.ask c.in-Then.body c.in-Then.is (node_found c.args.self.now.program.now c.nodes.result.now c.args.node c.index-nodes-node.result c.nodes.ensures.all c.requires.closure.node c.index-nodes-node.is) in
    let above = part.above in
    let inside = part.inside in
    (omega arith, (c.requires.locals, part.is_closure))

pub returns-in-Tell-clause-spoken : goal.returns-in-Tell-clause-spoken
returns-in-Tell-clause-spoken t c =
    if_ok (λ _. AddsAsked c.args.self.now.program.now c.args.births.now c.in-Tell.told c.args.names.now.keys c.add_ask.new.names.keys) (λ _. AddsSpoken c.args.self.now.program.now c.args.self.now.t c.args.node c.args.births.now c.args.names.now.keys c.add_ask.new.names.keys)
    c.add_ask.result (λ _ h. spoken-tell c.args.self.now.program.now c.nodes.ensures.program c.args.self.now.t c.args.node c.args.births.now c.in-Tell.told (node_found c.args.self.now.program.now c.nodes.result.now c.args.node c.index-nodes-node.result c.nodes.ensures.all c.requires.closure.node c.index-nodes-node.is ∙ ap Some c.in-Tell.is) c.args.names.now.keys c.add_ask.new.names.keys h) c.add_ask.ensures.spoken

pub returns-in_ok-add_node-in-Par-clause-spoken : goal.returns-in_ok-add_node-in-Par-clause-spoken
returns-in_ok-add_node-in-Par-clause-spoken t c =
    if_ok (λ _. AddsSpoken c.args.self.now.program.now c.args.self.now.t c.in-Par.right c.args.births.now c.add_node.new.names.keys c.add_node-in-Par.new.names.keys) (λ _. AddsSpoken c.args.self.now.program.now c.args.self.now.t c.args.node c.args.births.now c.args.names.now.keys c.add_node-in-Par.new.names.keys)
    c.add_node-in-Par.result (λ _ h. spoken-par c.args.self.now.program.now c.nodes.ensures.program c.args.self.now.t c.args.node c.args.births.now c.in-Par.left c.in-Par.right (node_found c.args.self.now.program.now c.nodes.result.now c.args.node c.index-nodes-node.result c.nodes.ensures.all c.requires.closure.node c.index-nodes-node.is ∙ ap Some c.in-Par.is) c.args.names.now.keys c.add_node.new.names.keys c.add_node-in-Par.new.names.keys c.in_ok-add_node-in-Par.ensures.spoken h) c.add_node-in-Par.ensures.spoken

pub returns-in_ok-inner-in-New-clause-spoken : goal.returns-in_ok-inner-in-New-clause-spoken
returns-in_ok-inner-in-New-clause-spoken t c =
    let grown : c.list.result.now ≡ c.args.births.now ++ c.args.self.now.t ∷ [] = c.list.ensures ∙ c.in_ok-inner-in-New.ensures in
    if_ok (λ _. AddsSpoken c.args.self.now.program.now c.args.self.now.t c.in-New.body c.list.result.now c.args.names.now.keys c.add_node-in-New.new.names.keys) (λ _. AddsSpoken c.args.self.now.program.now c.args.self.now.t c.args.node c.args.births.now c.args.names.now.keys c.add_node-in-New.new.names.keys)
    c.add_node-in-New.result (λ _ h. spoken-new c.args.self.now.program.now c.nodes.ensures.program c.args.self.now.t c.args.node c.args.births.now c.in-New.cell c.in-New.body c.list.result.now (node_found c.args.self.now.program.now c.nodes.result.now c.args.node c.index-nodes-node.result c.nodes.ensures.all c.requires.closure.node c.index-nodes-node.is ∙ ap Some c.in-New.is) grown c.args.names.now.keys c.add_node-in-New.new.names.keys h) c.add_node-in-New.ensures.spoken

pub returns-in_ok-add_ask-in-Then-clause-spoken : goal.returns-in_ok-add_ask-in-Then-clause-spoken
returns-in_ok-add_ask-in-Then-clause-spoken t c =
    if_ok (λ _. AddsSpoken c.args.self.now.program.now c.args.self.now.t c.in-Then.body c.args.births.now c.add_ask-in-Then.new.names.keys c.add_node-in-Then.new.names.keys) (λ _. AddsSpoken c.args.self.now.program.now c.args.self.now.t c.args.node c.args.births.now c.args.names.now.keys c.add_node-in-Then.new.names.keys)
    c.add_node-in-Then.result
    (λ _ h. spoken-body c.args.self.now.program.now c.nodes.ensures.program c.args.self.now.t c.args.node c.args.births.now c.index-nodes-node.result c.in-Then.ask c.in-Then.body c.in-Then.is (node_found c.args.self.now.program.now c.nodes.result.now c.args.node c.index-nodes-node.result c.nodes.ensures.all c.requires.closure.node c.index-nodes-node.is) c.args.names.now.keys c.add_ask-in-Then.new.names.keys c.add_node-in-Then.new.names.keys c.in_ok-add_ask-in-Then.ensures.spoken h)
    c.add_node-in-Then.ensures.spoken

pub returns-in-Skip-clause-spoken : goal.returns-in-Skip-clause-spoken
returns-in-Skip-clause-spoken t c = spoken-none c.args.self.now.program.now c.nodes.ensures.program c.args.self.now.t c.args.node c.args.births.now c.args.names.now.keys

pub returns-in-Skip-2-clause-spoken : goal.returns-in-Skip-2-clause-spoken
returns-in-Skip-2-clause-spoken t c = spoken-none c.args.self.now.program.now c.nodes.ensures.program c.args.self.now.t c.args.node c.args.births.now c.args.names.now.keys

pub returns-in-Skip-3-clause-spoken : goal.returns-in-Skip-3-clause-spoken
returns-in-Skip-3-clause-spoken t c = spoken-none c.args.self.now.program.now c.nodes.ensures.program c.args.self.now.t c.args.node c.args.births.now c.args.names.now.keys

pub returns-in-Tell-clause-covered : goal.returns-in-Tell-clause-covered
returns-in-Tell-clause-covered t c =
    if_ok (λ _. CoversAsk c.args.self.now.program.now c.args.births.now c.in-Tell.told c.args.names.now.keys c.add_ask.new.names.keys) (λ _. CoversNode c.args.self.now.program.now c.args.self.now.t c.args.node c.args.births.now c.args.names.now.keys c.add_ask.new.names.keys)
    c.add_ask.result (λ _ h. covers-tell c.args.self.now.program.now c.args.self.now.t c.nodes.ensures.program c.args.node c.args.births.now c.in-Tell.told (node_found c.args.self.now.program.now c.nodes.result.now c.args.node c.index-nodes-node.result c.nodes.ensures.all c.requires.closure.node c.index-nodes-node.is ∙ ap Some c.in-Tell.is) c.args.names.now.keys c.add_ask.new.names.keys h) c.add_ask.ensures.covered

pub returns-in_ok-add_node-in-Par-clause-covered : goal.returns-in_ok-add_node-in-Par-clause-covered
returns-in_ok-add_node-in-Par-clause-covered t c =
    if_ok (λ _. CoversNode c.args.self.now.program.now c.args.self.now.t c.in-Par.right c.args.births.now c.add_node.new.names.keys c.add_node-in-Par.new.names.keys) (λ _. CoversNode c.args.self.now.program.now c.args.self.now.t c.args.node c.args.births.now c.args.names.now.keys c.add_node-in-Par.new.names.keys)
    c.add_node-in-Par.result (λ _ h. covers-par c.args.self.now.program.now c.args.self.now.t c.nodes.ensures.program c.args.node c.args.births.now c.in-Par.left c.in-Par.right (node_found c.args.self.now.program.now c.nodes.result.now c.args.node c.index-nodes-node.result c.nodes.ensures.all c.requires.closure.node c.index-nodes-node.is ∙ ap Some c.in-Par.is) c.args.names.now.keys c.add_node.new.names.keys c.add_node-in-Par.new.names.keys c.in_ok-add_node-in-Par.ensures.covered h) c.add_node-in-Par.ensures.covered

pub returns-in_ok-inner-in-New-clause-covered : goal.returns-in_ok-inner-in-New-clause-covered
returns-in_ok-inner-in-New-clause-covered t c =
    let grown : c.list.result.now ≡ c.args.births.now ++ c.args.self.now.t ∷ [] = c.list.ensures ∙ c.in_ok-inner-in-New.ensures in
    if_ok (λ _. CoversNode c.args.self.now.program.now c.args.self.now.t c.in-New.body c.list.result.now c.args.names.now.keys c.add_node-in-New.new.names.keys) (λ _. CoversNode c.args.self.now.program.now c.args.self.now.t c.args.node c.args.births.now c.args.names.now.keys c.add_node-in-New.new.names.keys)
    c.add_node-in-New.result (λ _ h. covers-new c.args.self.now.program.now c.args.self.now.t c.nodes.ensures.program c.args.node c.args.births.now c.in-New.cell c.in-New.body c.list.result.now (node_found c.args.self.now.program.now c.nodes.result.now c.args.node c.index-nodes-node.result c.nodes.ensures.all c.requires.closure.node c.index-nodes-node.is ∙ ap Some c.in-New.is) grown c.args.names.now.keys c.add_node-in-New.new.names.keys h) c.add_node-in-New.ensures.covered

pub returns-in_ok-add_ask-in-Then-clause-covered : goal.returns-in_ok-add_ask-in-Then-clause-covered
returns-in_ok-add_ask-in-Then-clause-covered t c =
    if_ok (λ _. CoversNode c.args.self.now.program.now c.args.self.now.t c.in-Then.body c.args.births.now c.add_ask-in-Then.new.names.keys c.add_node-in-Then.new.names.keys) (λ _. CoversNode c.args.self.now.program.now c.args.self.now.t c.args.node c.args.births.now c.args.names.now.keys c.add_node-in-Then.new.names.keys)
    c.add_node-in-Then.result
    (λ _ h. covers-body c.args.self.now.program.now c.args.self.now.t c.nodes.ensures.program c.args.node c.args.births.now c.index-nodes-node.result c.in-Then.ask c.in-Then.body c.in-Then.is (node_found c.args.self.now.program.now c.nodes.result.now c.args.node c.index-nodes-node.result c.nodes.ensures.all c.requires.closure.node c.index-nodes-node.is) c.args.names.now.keys c.add_ask-in-Then.new.names.keys c.add_node-in-Then.new.names.keys c.in_ok-add_ask-in-Then.ensures.covered h)
    c.add_node-in-Then.ensures.covered

pub returns-in-Skip-clause-covered : goal.returns-in-Skip-clause-covered
returns-in-Skip-clause-covered t c = covers-none c.args.self.now.program.now c.args.self.now.t c.nodes.ensures.program c.args.node c.args.births.now c.index-nodes-node.result c.in-Skip.is (node_found c.args.self.now.program.now c.nodes.result.now c.args.node c.index-nodes-node.result c.nodes.ensures.all c.requires.closure.node c.index-nodes-node.is) c.args.names.now.keys

pub returns-in-Skip-2-clause-covered : goal.returns-in-Skip-2-clause-covered
returns-in-Skip-2-clause-covered t c = covers-none c.args.self.now.program.now c.args.self.now.t c.nodes.ensures.program c.args.node c.args.births.now c.index-nodes-node.result c.in-Skip.is (node_found c.args.self.now.program.now c.nodes.result.now c.args.node c.index-nodes-node.result c.nodes.ensures.all c.requires.closure.node c.index-nodes-node.is) c.args.names.now.keys

pub returns-in-Skip-3-clause-covered : goal.returns-in-Skip-3-clause-covered
returns-in-Skip-3-clause-covered t c = covers-none c.args.self.now.program.now c.args.self.now.t c.nodes.ensures.program c.args.node c.args.births.now c.index-nodes-node.result c.in-Skip.is (node_found c.args.self.now.program.now c.nodes.result.now c.args.node c.index-nodes-node.result c.nodes.ensures.all c.requires.closure.node c.index-nodes-node.is) c.args.names.now.keys
