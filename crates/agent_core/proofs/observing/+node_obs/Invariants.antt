use Rattle.std.proofs.Common.{◌+◌, ◌-◌, ◌*◌, length}
use Rattle.agent_core.proofs.ObservedTests.{AreLeft}
use Rattle.agent_core.proofs.observing.+node_obs.Given as goal

-- a hence's loop comes between the hence and its body
abbrev pub decreases-hence_obs : goal.decreases-hence_obs
decreases-hence_obs l = 2 * (length l.program.now.nodes - l.node) + 1

abbrev pub decreases-node_obs : goal.decreases-node_obs
decreases-node_obs l = 2 * (length l.program.now.nodes - l.node)

abbrev pub invariant-hence_obs-loop-k : goal.invariant-hence_obs-loop-k
invariant-hence_obs-loop-k l = AreLeft l.program l.node l.births l.start l.closed l.u l.v l.k
