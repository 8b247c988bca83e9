use Rattle.std.proofs.Common.{◌-◌, length}
use Rattle.instant_net.proofs.counting.+node_leaves.Given as goal

abbrev pub decreases-node_leaves : goal.decreases-node_leaves
decreases-node_leaves l = length l.program.now.nodes - l.node
