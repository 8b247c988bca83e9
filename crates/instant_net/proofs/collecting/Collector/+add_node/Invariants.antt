use Rattle.std.proofs.Common.{◌-◌, length}
use Rattle.instant_net.proofs.collecting.Collector.+add_node.Given as goal

abbrev pub decreases-add_node : goal.decreases-add_node
decreases-add_node l = length l.self.now.program.now.nodes - l.node
