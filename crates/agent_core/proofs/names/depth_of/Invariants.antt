use Rattle.std.proofs.Common.{◌-◌}
use Rattle.agent_core.proofs.Depths.{IsTowards}
use Rattle.agent_core.proofs.names.depth_of.Given as goal

abbrev pub invariant-loop-at : goal.invariant-loop-at
invariant-loop-at l = IsTowards l.nodes l.wanted l.at l.depth

abbrev pub decreases-loop-at : goal.decreases-loop-at
decreases-loop-at l = l.wanted - l.at
