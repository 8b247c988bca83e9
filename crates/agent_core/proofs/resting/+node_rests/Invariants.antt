use Rattle.std.proofs.Common.{◌-◌, length}
use Rattle.agent_core.proofs.resting.+node_rests.Given as goal

abbrev pub decreases-node_rests : goal.decreases-node_rests
decreases-node_rests l = length l.program.now.nodes - l.node
