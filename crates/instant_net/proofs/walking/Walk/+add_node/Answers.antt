use Rattle.std.proofs.Common.{◌≡◌, [], ◌∷◌, ◌++◌, length, Some, sym, ap, ◌∙◌, subst, arith}
use Rattle.agent_core.specs.declared.node.Node.TheVariants as nodes
use Rattle.agent_core.specs.Agents.{agent_at}
use Rattle.agent_core.specs.Names.{IsClosure}
use Rattle.agent_core.proofs.RestTests.{node_found, own_ask_fits, left_of, right_of, then_body, else_body, new_body}
use Rattle.instant_net.specs.declared.parts.LeafKind.TheVariants as kinds
use Rattle.instant_net.specs.Collecting.{cell_names}
use Rattle.instant_net.specs.Covering.{AgentCovered}
use Rattle.instant_net.specs.Walks.{IsEnded, Adds}
use Rattle.instant_net.proofs.Atoms.{if_ok, if_both}
use Rattle.instant_net.proofs.Covering.{parts-covered}
use Rattle.instant_net.proofs.Adding.{adds-skip, adds-tell, adds-hence, adds-next, adds-new, adds-par, adds-then, adds-else}
use Rattle.instant_net.proofs.Rooms.{room-then, room-else, room-left, room-right, room-new, room-filled}
use Rattle.instant_net.proofs.walking.Walk.+add_node.Goals as goal

pub atoms-requires-clause-fits : goal.atoms-requires-clause-fits
atoms-requires-clause-fits t c = own_ask_fits c.args.self.now.program.now c.nodes.ensures.program c.args.node c.args.births.now c.requires.closure (nodes.Tell c.in-Tell.told) (node_found c.args.self.now.program.now c.nodes.result.now c.args.node c.index-nodes-node.result c.nodes.ensures.all c.requires.closure.node c.index-nodes-node.is ∙ ap Some c.in-Tell.is)

pub atoms-requires-in-Then-clause-fits : goal.atoms-requires-in-Then-clause-fits
atoms-requires-in-Then-clause-fits t c = own_ask_fits c.args.self.now.program.now c.nodes.ensures.program c.args.node c.args.births.now c.requires.closure (nodes.Then c.in-Then.ask c.in-Then.body) (node_found c.args.self.now.program.now c.nodes.result.now c.args.node c.index-nodes-node.result c.nodes.ensures.all c.requires.closure.node c.index-nodes-node.is ∙ ap Some c.in-Then.is)

pub atoms-requires-in-Else-clause-fits : goal.atoms-requires-in-Else-clause-fits
atoms-requires-in-Else-clause-fits t c = own_ask_fits c.args.self.now.program.now c.nodes.ensures.program c.args.node c.args.births.now c.requires.closure (nodes.Else c.in-Else.ask c.in-Else.body) (node_found c.args.self.now.program.now c.nodes.result.now c.args.node c.index-nodes-node.result c.nodes.ensures.all c.requires.closure.node c.index-nodes-node.is ∙ ap Some c.in-Else.is)

pub atoms-requires-clause-covered : goal.atoms-requires-clause-covered
atoms-requires-clause-covered t c = parts-covered c.args.self.now.program.now c.args.self.now.t c.nodes.ensures.program c.args.node c.args.births.now (nodes.Tell c.in-Tell.told) (node_found c.args.self.now.program.now c.nodes.result.now c.args.node c.index-nodes-node.result c.nodes.ensures.all c.requires.closure.node c.index-nodes-node.is ∙ ap Some c.in-Tell.is) (cell_names c.args.self.now.cells.now) c.requires.covered

pub atoms-requires-in-Then-clause-covered : goal.atoms-requires-in-Then-clause-covered
atoms-requires-in-Then-clause-covered t c = (parts-covered c.args.self.now.program.now c.args.self.now.t c.nodes.ensures.program c.args.node c.args.births.now (nodes.Then c.in-Then.ask c.in-Then.body) (node_found c.args.self.now.program.now c.nodes.result.now c.args.node c.index-nodes-node.result c.nodes.ensures.all c.requires.closure.node c.index-nodes-node.is ∙ ap Some c.in-Then.is) (cell_names c.args.self.now.cells.now) c.requires.covered).0

pub atoms-requires-in-Else-clause-covered : goal.atoms-requires-in-Else-clause-covered
atoms-requires-in-Else-clause-covered t c = (parts-covered c.args.self.now.program.now c.args.self.now.t c.nodes.ensures.program c.args.node c.args.births.now (nodes.Else c.in-Else.ask c.in-Else.body) (node_found c.args.self.now.program.now c.nodes.result.now c.args.node c.index-nodes-node.result c.nodes.ensures.all c.requires.closure.node c.index-nodes-node.is ∙ ap Some c.in-Else.is) (cell_names c.args.self.now.cells.now) c.requires.covered).0

pub add_node-requires : goal.add_node-requires
add_node-requires t c =
    let part = then_body c.args.self.now.program.now c.nodes.ensures.program c.args.node c.args.births.now c.requires.closure c.in-Then.ask c.in-Then.body (node_found c.args.self.now.program.now c.nodes.result.now c.args.node c.index-nodes-node.result c.nodes.ensures.all c.requires.closure.node c.index-nodes-node.is ∙ ap Some c.in-Then.is) in
    let above = part.above in
    let inside = part.inside in
    (omega arith, (c.requires.named, (part.is_closure, ((parts-covered c.args.self.now.program.now c.args.self.now.t c.nodes.ensures.program c.args.node c.args.births.now (nodes.Then c.in-Then.ask c.in-Then.body) (node_found c.args.self.now.program.now c.nodes.result.now c.args.node c.index-nodes-node.result c.nodes.ensures.all c.requires.closure.node c.index-nodes-node.is ∙ ap Some c.in-Then.is) (cell_names c.args.self.now.cells.now) c.requires.covered).1, (let begun = c.in_ok-guard-in-Then.ensures.guards in room-then c.args.self.now.program.now c.nodes.ensures.program c.args.node c.args.parts.now.guards.items c.args.parts.now.leaves.items c.requires.room c.in-Then.ask c.in-Then.body (node_found c.args.self.now.program.now c.nodes.result.now c.args.node c.index-nodes-node.result c.nodes.ensures.all c.requires.closure.node c.index-nodes-node.is ∙ ap Some c.in-Then.is) c.begin_guard.new.self.guards.items c.begin_guard.new.self.leaves.items begun.0 begun.1 c.in_ok-guard-in-Then.ensures.leaves)))))

pub add_node-requires-in-Else : goal.add_node-requires-in-Else
add_node-requires-in-Else t c =
    let part = else_body c.args.self.now.program.now c.nodes.ensures.program c.args.node c.args.births.now c.requires.closure c.in-Else.ask c.in-Else.body (node_found c.args.self.now.program.now c.nodes.result.now c.args.node c.index-nodes-node.result c.nodes.ensures.all c.requires.closure.node c.index-nodes-node.is ∙ ap Some c.in-Else.is) in
    let above = part.above in
    let inside = part.inside in
    (omega arith, (c.requires.named, (part.is_closure, ((parts-covered c.args.self.now.program.now c.args.self.now.t c.nodes.ensures.program c.args.node c.args.births.now (nodes.Else c.in-Else.ask c.in-Else.body) (node_found c.args.self.now.program.now c.nodes.result.now c.args.node c.index-nodes-node.result c.nodes.ensures.all c.requires.closure.node c.index-nodes-node.is ∙ ap Some c.in-Else.is) (cell_names c.args.self.now.cells.now) c.requires.covered).1, (let begun = c.in_ok-guard-in-Else.ensures.guards in room-else c.args.self.now.program.now c.nodes.ensures.program c.args.node c.args.parts.now.guards.items c.args.parts.now.leaves.items c.requires.room c.in-Else.ask c.in-Else.body (node_found c.args.self.now.program.now c.nodes.result.now c.args.node c.index-nodes-node.result c.nodes.ensures.all c.requires.closure.node c.index-nodes-node.is ∙ ap Some c.in-Else.is) c.begin_guard-in-Else.new.self.guards.items c.begin_guard-in-Else.new.self.leaves.items begun.0 begun.1 c.in_ok-guard-in-Else.ensures.leaves)))))

pub add_node-requires-in-Par : goal.add_node-requires-in-Par
add_node-requires-in-Par t c =
    let part = left_of c.args.self.now.program.now c.nodes.ensures.program c.args.node c.args.births.now c.requires.closure c.in-Par.left c.in-Par.right (node_found c.args.self.now.program.now c.nodes.result.now c.args.node c.index-nodes-node.result c.nodes.ensures.all c.requires.closure.node c.index-nodes-node.is ∙ ap Some c.in-Par.is) in
    let above = part.above in
    let inside = part.inside in
    (omega arith, (c.requires.named, (part.is_closure, ((parts-covered c.args.self.now.program.now c.args.self.now.t c.nodes.ensures.program c.args.node c.args.births.now (nodes.Par c.in-Par.left c.in-Par.right) (node_found c.args.self.now.program.now c.nodes.result.now c.args.node c.index-nodes-node.result c.nodes.ensures.all c.requires.closure.node c.index-nodes-node.is ∙ ap Some c.in-Par.is) (cell_names c.args.self.now.cells.now) c.requires.covered).0, (room-left c.args.self.now.program.now c.nodes.ensures.program c.args.node c.args.parts.now.guards.items c.args.parts.now.leaves.items c.requires.room c.in-Par.left c.in-Par.right (node_found c.args.self.now.program.now c.nodes.result.now c.args.node c.index-nodes-node.result c.nodes.ensures.all c.requires.closure.node c.index-nodes-node.is ∙ ap Some c.in-Par.is))))))

pub add_node-requires-in-Par-2 : goal.add_node-requires-in-Par-2
add_node-requires-in-Par-2 t c =
    let part = right_of c.args.self.now.program.now c.nodes.ensures.program c.args.node c.args.births.now c.requires.closure c.in-Par.left c.in-Par.right (node_found c.args.self.now.program.now c.nodes.result.now c.args.node c.index-nodes-node.result c.nodes.ensures.all c.requires.closure.node c.index-nodes-node.is ∙ ap Some c.in-Par.is) in
    let above = part.above in
    let inside = part.inside in
    (omega arith, (c.requires.named, (part.is_closure, ((parts-covered c.args.self.now.program.now c.args.self.now.t c.nodes.ensures.program c.args.node c.args.births.now (nodes.Par c.in-Par.left c.in-Par.right) (node_found c.args.self.now.program.now c.nodes.result.now c.args.node c.index-nodes-node.result c.nodes.ensures.all c.requires.closure.node c.index-nodes-node.is ∙ ap Some c.in-Par.is) (cell_names c.args.self.now.cells.now) c.requires.covered).1, (room-right c.args.self.now.program.now c.nodes.ensures.program c.args.node c.args.parts.now.guards.items c.args.parts.now.leaves.items c.requires.room c.in-Par.left c.in-Par.right (node_found c.args.self.now.program.now c.nodes.result.now c.args.node c.index-nodes-node.result c.nodes.ensures.all c.requires.closure.node c.index-nodes-node.is ∙ ap Some c.in-Par.is) c.args.self.now.cells.now c.args.self.now.t c.args.births.now c.args.last c.add_node-in-Par.new.parts.guards.items c.add_node-in-Par.new.parts.leaves.items c.in_ok-add_node-in-Par.ensures)))))

pub add_node-requires-in-New : goal.add_node-requires-in-New
add_node-requires-in-New t c =
    let grown : c.list.result.now ≡ c.args.births.now ++ c.args.self.now.t ∷ [] = c.list.ensures ∙ c.in_ok-inner-in-New.ensures in
    let part = new_body c.args.self.now.program.now c.nodes.ensures.program c.args.node c.args.births.now c.requires.closure c.in-New.cell c.in-New.body c.args.self.now.t (node_found c.args.self.now.program.now c.nodes.result.now c.args.node c.index-nodes-node.result c.nodes.ensures.all c.requires.closure.node c.index-nodes-node.is ∙ ap Some c.in-New.is) in
    let above = part.above in
    let inside = part.inside in
    (omega arith, (c.requires.named, (subst (IsClosure c.args.self.now.program.now c.in-New.body) (sym grown) part.is_closure, (subst (AgentCovered c.args.self.now.program.now c.args.self.now.t (cell_names c.args.self.now.cells.now) (agent_at c.args.self.now.program.now.nodes c.in-New.body)) (sym grown) (parts-covered c.args.self.now.program.now c.args.self.now.t c.nodes.ensures.program c.args.node c.args.births.now (nodes.New c.in-New.cell c.in-New.body) (node_found c.args.self.now.program.now c.nodes.result.now c.args.node c.index-nodes-node.result c.nodes.ensures.all c.requires.closure.node c.index-nodes-node.is ∙ ap Some c.in-New.is) (cell_names c.args.self.now.cells.now) c.requires.covered), (room-new c.args.self.now.program.now c.nodes.ensures.program c.args.node c.args.parts.now.guards.items c.args.parts.now.leaves.items c.requires.room c.in-New.cell c.in-New.body (node_found c.args.self.now.program.now c.nodes.result.now c.args.node c.index-nodes-node.result c.nodes.ensures.all c.requires.closure.node c.index-nodes-node.is ∙ ap Some c.in-New.is))))))

pub returns-in-Skip : goal.returns-in-Skip
returns-in-Skip t c =
    if_both (λ _. c.add_leaf.new.self.guards.items ≡ c.args.parts.now.guards.items) (λ _. c.add_leaf.new.self.leaves.items ≡ c.args.parts.now.leaves.items ++ record { kind = kinds.Idle; last = c.args.last } ∷ [])
    (λ _. Adds c.args.self.now.program.now c.args.self.now.cells.now c.args.self.now.t c.args.node c.args.births.now c.args.last c.args.parts.now.guards.items c.add_leaf.new.self.guards.items c.args.parts.now.leaves.items c.add_leaf.new.self.leaves.items)
    c.add_leaf.result (λ _ g l. adds-skip c.args.self.now.program.now c.nodes.ensures.program c.args.self.now.cells.now c.args.self.now.t c.args.node c.args.births.now c.args.last (node_found c.args.self.now.program.now c.nodes.result.now c.args.node c.index-nodes-node.result c.nodes.ensures.all c.requires.closure.node c.index-nodes-node.is ∙ ap Some c.in-Skip.is) c.args.parts.now.guards.items c.add_leaf.new.self.guards.items c.args.parts.now.leaves.items c.add_leaf.new.self.leaves.items g l) c.add_leaf.ensures.guards c.add_leaf.ensures.leaves

pub returns-in_ok-told-in-Tell : goal.returns-in_ok-told-in-Tell
returns-in_ok-told-in-Tell t c =
    if_both (λ _. c.add_leaf-in-Tell.new.self.guards.items ≡ c.args.parts.now.guards.items) (λ _. c.add_leaf-in-Tell.new.self.leaves.items ≡ c.args.parts.now.leaves.items ++ record { kind = kinds.Tells c.in_ok-told-in-Tell.told; last = c.args.last } ∷ [])
    (λ _. Adds c.args.self.now.program.now c.args.self.now.cells.now c.args.self.now.t c.args.node c.args.births.now c.args.last c.args.parts.now.guards.items c.add_leaf-in-Tell.new.self.guards.items c.args.parts.now.leaves.items c.add_leaf-in-Tell.new.self.leaves.items)
    c.add_leaf-in-Tell.result (λ _ g l. adds-tell c.args.self.now.program.now c.nodes.ensures.program c.args.self.now.cells.now c.args.self.now.t c.args.node c.args.births.now c.args.last c.in-Tell.told c.in_ok-told-in-Tell.told (node_found c.args.self.now.program.now c.nodes.result.now c.args.node c.index-nodes-node.result c.nodes.ensures.all c.requires.closure.node c.index-nodes-node.is ∙ ap Some c.in-Tell.is) c.in_ok-told-in-Tell.ensures c.args.parts.now.guards.items c.add_leaf-in-Tell.new.self.guards.items c.args.parts.now.leaves.items c.add_leaf-in-Tell.new.self.leaves.items g l) c.add_leaf-in-Tell.ensures.guards c.add_leaf-in-Tell.ensures.leaves

pub returns-in_ok-always-in-Hence : goal.returns-in_ok-always-in-Hence
returns-in_ok-always-in-Hence t c =
    if_both (λ _. c.add_leaf-in-Hence.new.self.guards.items ≡ c.args.parts.now.guards.items) (λ _. c.add_leaf-in-Hence.new.self.leaves.items ≡ c.args.parts.now.leaves.items ++ record { kind = kinds.StartsHence c.in_ok-always-in-Hence.always; last = c.args.last } ∷ [])
    (λ _. Adds c.args.self.now.program.now c.args.self.now.cells.now c.args.self.now.t c.args.node c.args.births.now c.args.last c.args.parts.now.guards.items c.add_leaf-in-Hence.new.self.guards.items c.args.parts.now.leaves.items c.add_leaf-in-Hence.new.self.leaves.items)
    c.add_leaf-in-Hence.result (λ _ g l. adds-hence c.args.self.now.program.now c.nodes.ensures.program c.args.self.now.cells.now c.args.self.now.t c.args.node c.args.births.now c.args.last c.in-Hence.body c.in_ok-always-in-Hence.always (node_found c.args.self.now.program.now c.nodes.result.now c.args.node c.index-nodes-node.result c.nodes.ensures.all c.requires.closure.node c.index-nodes-node.is ∙ ap Some c.in-Hence.is) c.in_ok-always-in-Hence.ensures.0 c.in_ok-always-in-Hence.ensures.1 c.args.parts.now.guards.items c.add_leaf-in-Hence.new.self.guards.items c.args.parts.now.leaves.items c.add_leaf-in-Hence.new.self.leaves.items g l) c.add_leaf-in-Hence.ensures.guards c.add_leaf-in-Hence.ensures.leaves

pub returns-in_ok-once-in-Next : goal.returns-in_ok-once-in-Next
returns-in_ok-once-in-Next t c =
    if_both (λ _. c.add_leaf-in-Next.new.self.guards.items ≡ c.args.parts.now.guards.items) (λ _. c.add_leaf-in-Next.new.self.leaves.items ≡ c.args.parts.now.leaves.items ++ record { kind = kinds.StartsNext c.in_ok-once-in-Next.once; last = c.args.last } ∷ [])
    (λ _. Adds c.args.self.now.program.now c.args.self.now.cells.now c.args.self.now.t c.args.node c.args.births.now c.args.last c.args.parts.now.guards.items c.add_leaf-in-Next.new.self.guards.items c.args.parts.now.leaves.items c.add_leaf-in-Next.new.self.leaves.items)
    c.add_leaf-in-Next.result (λ _ g l. adds-next c.args.self.now.program.now c.nodes.ensures.program c.args.self.now.cells.now c.args.self.now.t c.args.node c.args.births.now c.args.last c.in-Next.body c.in_ok-once-in-Next.once (node_found c.args.self.now.program.now c.nodes.result.now c.args.node c.index-nodes-node.result c.nodes.ensures.all c.requires.closure.node c.index-nodes-node.is ∙ ap Some c.in-Next.is) c.in_ok-once-in-Next.ensures.0 c.in_ok-once-in-Next.ensures.1 c.args.parts.now.guards.items c.add_leaf-in-Next.new.self.guards.items c.args.parts.now.leaves.items c.add_leaf-in-Next.new.self.leaves.items g l) c.add_leaf-in-Next.ensures.guards c.add_leaf-in-Next.ensures.leaves

pub returns-in_ok-add_node-in-Then : goal.returns-in_ok-add_node-in-Then
returns-in_ok-add_node-in-Then t c =
    let begun = c.in_ok-guard-in-Then.ensures.guards in
    adds-then c.args.self.now.program.now c.nodes.ensures.program c.args.self.now.cells.now c.args.self.now.t c.args.node c.args.births.now c.args.last c.in-Then.ask c.in-Then.body (node_found c.args.self.now.program.now c.nodes.result.now c.args.node c.index-nodes-node.result c.nodes.ensures.all c.requires.closure.node c.index-nodes-node.is ∙ ap Some c.in-Then.is) c.in_ok-ask-in-Then.ask c.in_ok-ask-in-Then.ensures c.in_ok-guard-in-Then.guard
    c.args.parts.now.guards.items c.begin_guard.new.self.guards.items c.add_node.new.parts.guards.items c.end_guard.new.self.guards.items c.args.parts.now.leaves.items c.begin_guard.new.self.leaves.items c.add_node.new.parts.leaves.items c.end_guard.new.self.leaves.items
    begun.0 c.in_ok-guard-in-Then.ensures.number begun.1 begun.2 c.in_ok-guard-in-Then.ensures.leaves c.in_ok-add_node-in-Then.ensures c.end_guard.ensures.guards c.end_guard.ensures.leaves

pub returns-in_ok-add_node-in-Else : goal.returns-in_ok-add_node-in-Else
returns-in_ok-add_node-in-Else t c =
    let begun = c.in_ok-guard-in-Else.ensures.guards in
    adds-else c.args.self.now.program.now c.nodes.ensures.program c.args.self.now.cells.now c.args.self.now.t c.args.node c.args.births.now c.args.last c.in-Else.ask c.in-Else.body (node_found c.args.self.now.program.now c.nodes.result.now c.args.node c.index-nodes-node.result c.nodes.ensures.all c.requires.closure.node c.index-nodes-node.is ∙ ap Some c.in-Else.is) c.in_ok-ask-in-Else.ask c.in_ok-ask-in-Else.ensures c.in_ok-guard-in-Else.guard
    c.args.parts.now.guards.items c.begin_guard-in-Else.new.self.guards.items c.add_node-in-Else.new.parts.guards.items c.end_guard-in-Else.new.self.guards.items c.args.parts.now.leaves.items c.begin_guard-in-Else.new.self.leaves.items c.add_node-in-Else.new.parts.leaves.items c.end_guard-in-Else.new.self.leaves.items
    begun.0 c.in_ok-guard-in-Else.ensures.number begun.1 begun.2 c.in_ok-guard-in-Else.ensures.leaves c.in_ok-add_node-in-Else.ensures c.end_guard-in-Else.ensures.guards c.end_guard-in-Else.ensures.leaves

pub returns-in_ok-add_node-in-Par : goal.returns-in_ok-add_node-in-Par
returns-in_ok-add_node-in-Par t c =
    if_ok (λ _. Adds c.args.self.now.program.now c.args.self.now.cells.now c.args.self.now.t c.in-Par.right c.args.births.now c.args.last c.add_node-in-Par.new.parts.guards.items c.add_node-in-Par-2.new.parts.guards.items c.add_node-in-Par.new.parts.leaves.items c.add_node-in-Par-2.new.parts.leaves.items)
    (λ _. Adds c.args.self.now.program.now c.args.self.now.cells.now c.args.self.now.t c.args.node c.args.births.now c.args.last c.args.parts.now.guards.items c.add_node-in-Par-2.new.parts.guards.items c.args.parts.now.leaves.items c.add_node-in-Par-2.new.parts.leaves.items)
    c.add_node-in-Par-2.result
    (λ _ h. adds-par c.args.self.now.program.now c.nodes.ensures.program c.args.self.now.cells.now c.args.self.now.t c.args.node c.args.births.now c.args.last c.in-Par.left c.in-Par.right (node_found c.args.self.now.program.now c.nodes.result.now c.args.node c.index-nodes-node.result c.nodes.ensures.all c.requires.closure.node c.index-nodes-node.is ∙ ap Some c.in-Par.is)
    c.args.parts.now.guards.items c.add_node-in-Par.new.parts.guards.items c.add_node-in-Par-2.new.parts.guards.items c.args.parts.now.leaves.items c.add_node-in-Par.new.parts.leaves.items c.add_node-in-Par-2.new.parts.leaves.items c.in_ok-add_node-in-Par.ensures h)
    c.add_node-in-Par-2.ensures

pub returns-in_ok-inner-in-New : goal.returns-in_ok-inner-in-New
returns-in_ok-inner-in-New t c =
    let grown : c.list.result.now ≡ c.args.births.now ++ c.args.self.now.t ∷ [] = c.list.ensures ∙ c.in_ok-inner-in-New.ensures in
    if_ok (λ _. Adds c.args.self.now.program.now c.args.self.now.cells.now c.args.self.now.t c.in-New.body c.list.result.now c.args.last c.args.parts.now.guards.items c.add_node-in-New.new.parts.guards.items c.args.parts.now.leaves.items c.add_node-in-New.new.parts.leaves.items)
    (λ _. Adds c.args.self.now.program.now c.args.self.now.cells.now c.args.self.now.t c.args.node c.args.births.now c.args.last c.args.parts.now.guards.items c.add_node-in-New.new.parts.guards.items c.args.parts.now.leaves.items c.add_node-in-New.new.parts.leaves.items)
    c.add_node-in-New.result
    (λ _ h. adds-new c.args.self.now.program.now c.nodes.ensures.program c.args.self.now.cells.now c.args.self.now.t c.args.node c.args.births.now c.args.last c.in-New.cell c.in-New.body c.list.result.now (node_found c.args.self.now.program.now c.nodes.result.now c.args.node c.index-nodes-node.result c.nodes.ensures.all c.requires.closure.node c.index-nodes-node.is ∙ ap Some c.in-New.is) grown c.args.parts.now.guards.items c.add_node-in-New.new.parts.guards.items c.args.parts.now.leaves.items c.add_node-in-New.new.parts.leaves.items h)
    c.add_node-in-New.ensures

pub end_guard-requires-clause-few_leaves : goal.end_guard-requires-clause-few_leaves
end_guard-requires-clause-few_leaves t c =
    let begun = c.in_ok-guard-in-Then.ensures.guards in
    room-filled c.args.self.now.program.now c.nodes.ensures.program c.in-Then.body c.begin_guard.new.self.guards.items c.begin_guard.new.self.leaves.items
    (room-then c.args.self.now.program.now c.nodes.ensures.program c.args.node c.args.parts.now.guards.items c.args.parts.now.leaves.items c.requires.room c.in-Then.ask c.in-Then.body (node_found c.args.self.now.program.now c.nodes.result.now c.args.node c.index-nodes-node.result c.nodes.ensures.all c.requires.closure.node c.index-nodes-node.is ∙ ap Some c.in-Then.is) c.begin_guard.new.self.guards.items c.begin_guard.new.self.leaves.items begun.0 begun.1 c.in_ok-guard-in-Then.ensures.leaves)
    c.args.self.now.cells.now c.args.self.now.t c.args.births.now (Some c.in_ok-guard-in-Then.guard) c.add_node.new.parts.guards.items c.add_node.new.parts.leaves.items c.in_ok-add_node-in-Then.ensures

pub end_guard-requires-in-Else-clause-few_leaves : goal.end_guard-requires-in-Else-clause-few_leaves
end_guard-requires-in-Else-clause-few_leaves t c =
    let begun = c.in_ok-guard-in-Else.ensures.guards in
    room-filled c.args.self.now.program.now c.nodes.ensures.program c.in-Else.body c.begin_guard-in-Else.new.self.guards.items c.begin_guard-in-Else.new.self.leaves.items
    (room-else c.args.self.now.program.now c.nodes.ensures.program c.args.node c.args.parts.now.guards.items c.args.parts.now.leaves.items c.requires.room c.in-Else.ask c.in-Else.body (node_found c.args.self.now.program.now c.nodes.result.now c.args.node c.index-nodes-node.result c.nodes.ensures.all c.requires.closure.node c.index-nodes-node.is ∙ ap Some c.in-Else.is) c.begin_guard-in-Else.new.self.guards.items c.begin_guard-in-Else.new.self.leaves.items begun.0 begun.1 c.in_ok-guard-in-Else.ensures.leaves)
    c.args.self.now.cells.now c.args.self.now.t c.args.births.now (Some c.in_ok-guard-in-Else.guard) c.add_node-in-Else.new.parts.guards.items c.add_node-in-Else.new.parts.leaves.items c.in_ok-add_node-in-Else.ensures
