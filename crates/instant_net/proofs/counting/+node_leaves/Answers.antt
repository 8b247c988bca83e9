use Rattle.std.proofs.Common.{Some, ap, ◌∙◌, arith}
use Rattle.instant_net.proofs.Counts.{part-then, part-left, part-right, one-leaf, few_leaves, count-body, count-par, node-found}
use Rattle.instant_net.proofs.counting.+node_leaves.Goals as goal

pub node_leaves-requires : goal.node_leaves-requires
node_leaves-requires t c =
    let found = node-found c.args.program.now c.nodes.result.now c.args.node c.index-nodes-node.result c.nodes.ensures.all c.requires c.index-nodes-node.is in
    let part = part-left c.args.program.now c.nodes.ensures.program c.args.node c.in-Par.left c.in-Par.right (found ∙ ap Some c.in-Par.is) in
    let above = part.above in
    let inside = part.inside in
    (omega arith, part.inside)

pub node_leaves-requires-in-Par : goal.node_leaves-requires-in-Par
node_leaves-requires-in-Par t c =
    let found = node-found c.args.program.now c.nodes.result.now c.args.node c.index-nodes-node.result c.nodes.ensures.all c.requires c.index-nodes-node.is in
    let part = part-right c.args.program.now c.nodes.ensures.program c.args.node c.in-Par.left c.in-Par.right (found ∙ ap Some c.in-Par.is) in
    let above = part.above in
    let inside = part.inside in
    (omega arith, part.inside)

pub node_leaves-requires-in-Then : goal.node_leaves-requires-in-Then
node_leaves-requires-in-Then t c =
    let found = node-found c.args.program.now c.nodes.result.now c.args.node c.index-nodes-node.result c.nodes.ensures.all c.requires c.index-nodes-node.is in
    let part = part-then c.args.program.now c.nodes.ensures.program c.args.node c.index-nodes-node.result c.in-Then.body found c.in-Then.is in
    let above = part.above in
    let inside = part.inside in
    (omega arith, part.inside)

pub returns-in-Par-clause-count : goal.returns-in-Par-clause-count
returns-in-Par-clause-count t c =
    let found = node-found c.args.program.now c.nodes.result.now c.args.node c.index-nodes-node.result c.nodes.ensures.all c.requires c.index-nodes-node.is in
    let whole = count-par c.args.program.now c.nodes.ensures.program c.args.node c.in-Par.left c.in-Par.right (found ∙ ap Some c.in-Par.is) in
    let l = c.node_leaves.ensures.count in
    let r = c.node_leaves-in-Par.ensures.count in
    omega arith

pub returns-in-Par-clause-bounded : goal.returns-in-Par-clause-bounded
returns-in-Par-clause-bounded t c =
    let found = node-found c.args.program.now c.nodes.result.now c.args.node c.index-nodes-node.result c.nodes.ensures.all c.requires c.index-nodes-node.is in
    let whole = count-par c.args.program.now c.nodes.ensures.program c.args.node c.in-Par.left c.in-Par.right (found ∙ ap Some c.in-Par.is) in
    let few = few_leaves c.args.program.now c.nodes.ensures.program c.args.node c.requires in
    let l = c.node_leaves.ensures.count in
    let r = c.node_leaves-in-Par.ensures.count in
    omega arith

pub returns-in-Skip-clause-count : goal.returns-in-Skip-clause-count
returns-in-Skip-clause-count t c =
    one-leaf c.args.program.now c.nodes.ensures.program c.args.node c.index-nodes-node.result (node-found c.args.program.now c.nodes.result.now c.args.node c.index-nodes-node.result c.nodes.ensures.all c.requires c.index-nodes-node.is) c.in-Skip.is

pub returns-in-Skip-2-clause-count : goal.returns-in-Skip-2-clause-count
returns-in-Skip-2-clause-count t c =
    one-leaf c.args.program.now c.nodes.ensures.program c.args.node c.index-nodes-node.result (node-found c.args.program.now c.nodes.result.now c.args.node c.index-nodes-node.result c.nodes.ensures.all c.requires c.index-nodes-node.is) c.in-Skip.is

pub returns-in-Skip-3-clause-count : goal.returns-in-Skip-3-clause-count
returns-in-Skip-3-clause-count t c =
    one-leaf c.args.program.now c.nodes.ensures.program c.args.node c.index-nodes-node.result (node-found c.args.program.now c.nodes.result.now c.args.node c.index-nodes-node.result c.nodes.ensures.all c.requires c.index-nodes-node.is) c.in-Skip.is

pub returns-in-Skip-4-clause-count : goal.returns-in-Skip-4-clause-count
returns-in-Skip-4-clause-count t c =
    one-leaf c.args.program.now c.nodes.ensures.program c.args.node c.index-nodes-node.result (node-found c.args.program.now c.nodes.result.now c.args.node c.index-nodes-node.result c.nodes.ensures.all c.requires c.index-nodes-node.is) c.in-Skip.is

pub returns-in-Then-clause-count : goal.returns-in-Then-clause-count
returns-in-Then-clause-count t c =
    let found = node-found c.args.program.now c.nodes.result.now c.args.node c.index-nodes-node.result c.nodes.ensures.all c.requires c.index-nodes-node.is in
    c.node_leaves-in-Then.ensures.count ∙ count-body c.args.program.now c.nodes.ensures.program c.args.node c.index-nodes-node.result c.in-Then.body found c.in-Then.is
