use Rattle.std.proofs.Common.{◌<◌, length, sym, subst}
use Rattle.std.proofs.lemmas.List.Elements.{All-get_or}
use Rattle.agent_core.specs.declared.node.Closure.{Closure}
use Rattle.agent_core.specs.Names.{IsClosure}
use Rattle.instant_net.specs.Collecting.{cell_names}
use Rattle.instant_net.proofs.Rooms.{room-root}
use Rattle.instant_net.proofs.Covering.{root-covered}
use Rattle.instant_net.proofs.Adding.{roots-none, roots-next}
use Rattle.instant_net.proofs.walking.net_parts.Goals as goal

pub loop-root-init : goal.loop-root-init
loop-root-init c = roots-none c.args.program.now c.args.cells.now c.args.t c.args.roots.now c.new.result.items c.new-2.result.items c.new.ensures.items c.new-2.ensures.items

pub add_node-requires-clause-covered : goal.add_node-requires-clause-covered
add_node-requires-clause-covered c =
    root-covered c.args.program.now c.args.t c.args.roots.now c.loop-root.root-index c.root-item.result c.list.result.now (cell_names c.args.cells.now) c.loop-root-test.true c.root-item.is c.list.ensures c.requires.covered

pub loop-root-preserved : goal.loop-root-preserved
loop-root-preserved c =
    roots-next c.args.program.now c.args.cells.now c.args.t c.args.roots.now c.loop-root.root-index c.root-item.result c.list.result.now c.loop-root.parts.guards.items c.add_node.new.parts.guards.items
    c.loop-root.parts.leaves.items c.add_node.new.parts.leaves.items c.loop-root-test.true c.root-item.is c.list.ensures c.loop-root.invariant c.in_ok-add_node.ensures

pub add_node-requires-clause-room : goal.add_node-requires-clause-room
add_node-requires-clause-room c =
    let lt = c.loop-root-test.true in
    room-root c.args.program.now c.requires.program c.args.roots.now c.loop-root.root-index c.root-item.result.node c.loop-root.parts.guards.items c.loop-root.parts.leaves.items c.requires.closures c.requires.few lt
    (subst (λ (r : Closure). r.node < length c.args.program.now.nodes) (sym c.root-item.is) (All-get_or (λ r. IsClosure c.args.program.now r.node r.births) c.args.roots.now c.loop-root.root-index c.root-item.result lt c.requires.closures).node)
    c.loop-root.invariant.linked
