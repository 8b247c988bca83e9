use Rattle.std.proofs.Common.{◌-◌, length}
use Rattle.agent_core.proofs.candidate.Candidate.+is_scoped.Given as goal

abbrev pub decreases-is_scoped : goal.decreases-is_scoped
decreases-is_scoped l = length l.self.nodes.now - l.n
