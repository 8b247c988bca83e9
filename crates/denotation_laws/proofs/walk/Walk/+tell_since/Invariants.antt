use Rattle.std.proofs.Common.{◌+◌, ◌-◌, ◌*◌, length}
use Rattle.denotation_laws.proofs.HistoryLeaves.{AreLeft}
use Rattle.denotation_laws.proofs.walk.Walk.+tell_since.Given as goal

-- a hence's loop comes between the hence and its body
abbrev pub decreases-tell_hence : goal.decreases-tell_hence
decreases-tell_hence l = 2 * (length l.self.now.program.now.nodes - l.node) + 1

abbrev pub decreases-tell_since : goal.decreases-tell_since
decreases-tell_since l = 2 * (length l.self.now.program.now.nodes - l.node)

abbrev pub invariant-tell_hence-loop-k : goal.invariant-tell_hence-loop-k
invariant-tell_hence-loop-k l = AreLeft l.self.program.now l.self.levels.now l.self.stratum l.self.instant l.node l.births l.closed l.fn.store l.k l.store
