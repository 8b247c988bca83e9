use Rattle.instant_net.proofs.Counts.{AreCounted-next}
use Rattle.instant_net.proofs.counting.count_leaves.Goals as goal

pub loop-root-preserved : goal.loop-root-preserved
loop-root-preserved c =
    AreCounted-next c.args.program.now c.args.roots.now c.loop-root.root-index c.loop-root.leaves c.node_leaves-leaves.result c.root-item.result c.loop-root.invariant c.loop-root-test.true c.root-item.is
    c.node_leaves-leaves.ensures.count c.node_leaves-leaves.ensures.bounded
