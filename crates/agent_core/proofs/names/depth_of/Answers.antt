use Rattle.std.proofs.Common.{arith}
use Rattle.std.proofs.Math.Facts.{Fits-le}
use Rattle.agent_core.proofs.Depths.{from_root, not_leaf, to_body, to_new_body, to_left, to_right}
use Rattle.agent_core.proofs.names.depth_of.Goals as goal

pub loop-at-init : goal.loop-at-init
loop-at-init c = from_root c.args.nodes.now c.requires.tree c.args.wanted c.requires.inside

pub overflow_add-depth : goal.overflow_add-depth
overflow_add-depth c =
    let above = c.loop-at.invariant.above in
    let shallow = c.loop-at.invariant.shallow in
    Fits-le (omega (arith, c.loop-at-test.true)) c.ranges.wanted

pub unreachable-requires : goal.unreachable-requires
unreachable-requires c = not_leaf c.args.nodes.now c.requires.tree c.args.wanted c.loop-at.at c.loop-at.depth c.requires.inside c.loop-at.invariant c.loop-at-test.true c.index-nodes-at.result c.index-nodes-at.is c.in-Skip.is

pub loop-at-preserved-then-wanted-right : goal.loop-at-preserved-then-wanted-right
loop-at-preserved-then-wanted-right c =
    (to_left c.args.nodes.now c.requires.tree c.args.wanted c.loop-at.at c.loop-at.depth c.requires.inside c.loop-at.invariant c.loop-at-test.true c.index-nodes-at.result c.index-nodes-at.is c.in-Par.left c.in-Par.right c.in-Par.is c.if-wanted-right.true).towards

pub loop-at-smaller-then-wanted-right : goal.loop-at-smaller-then-wanted-right
loop-at-smaller-then-wanted-right c =
    (to_left c.args.nodes.now c.requires.tree c.args.wanted c.loop-at.at c.loop-at.depth c.requires.inside c.loop-at.invariant c.loop-at-test.true c.index-nodes-at.result c.index-nodes-at.is c.in-Par.left c.in-Par.right c.in-Par.is c.if-wanted-right.true).nearer

pub loop-at-preserved-else-wanted-right : goal.loop-at-preserved-else-wanted-right
loop-at-preserved-else-wanted-right c =
    (to_right c.args.nodes.now c.requires.tree c.args.wanted c.loop-at.at c.loop-at.depth c.requires.inside c.loop-at.invariant c.loop-at-test.true c.index-nodes-at.result c.index-nodes-at.is c.in-Par.left c.in-Par.right c.in-Par.is c.if-wanted-right.false).towards

pub loop-at-smaller-else-wanted-right : goal.loop-at-smaller-else-wanted-right
loop-at-smaller-else-wanted-right c =
    (to_right c.args.nodes.now c.requires.tree c.args.wanted c.loop-at.at c.loop-at.depth c.requires.inside c.loop-at.invariant c.loop-at-test.true c.index-nodes-at.result c.index-nodes-at.is c.in-Par.left c.in-Par.right c.in-Par.is c.if-wanted-right.false).nearer

pub loop-at-preserved-in-New-1 : goal.loop-at-preserved-in-New-1
loop-at-preserved-in-New-1 c =
    (to_new_body c.args.nodes.now c.requires.tree c.args.wanted c.loop-at.at c.loop-at.depth c.requires.inside c.loop-at.invariant c.loop-at-test.true c.index-nodes-at.result c.index-nodes-at.is c.in-New.cell c.in-New.body c.in-New.is).towards

pub loop-at-smaller-in-New-1 : goal.loop-at-smaller-in-New-1
loop-at-smaller-in-New-1 c =
    (to_new_body c.args.nodes.now c.requires.tree c.args.wanted c.loop-at.at c.loop-at.depth c.requires.inside c.loop-at.invariant c.loop-at-test.true c.index-nodes-at.result c.index-nodes-at.is c.in-New.cell c.in-New.body c.in-New.is).nearer

pub loop-at-preserved : goal.loop-at-preserved
loop-at-preserved c =
    (to_body c.args.nodes.now c.requires.tree c.args.wanted c.loop-at.at c.loop-at.depth c.requires.inside c.loop-at.invariant c.loop-at-test.true c.index-nodes-at.result c.index-nodes-at.is c.in-Then.body c.in-Then.is).towards

pub loop-at-smaller : goal.loop-at-smaller
loop-at-smaller c =
    (to_body c.args.nodes.now c.requires.tree c.args.wanted c.loop-at.at c.loop-at.depth c.requires.inside c.loop-at.invariant c.loop-at-test.true c.index-nodes-at.result c.index-nodes-at.is c.in-Then.body c.in-Then.is).nearer
