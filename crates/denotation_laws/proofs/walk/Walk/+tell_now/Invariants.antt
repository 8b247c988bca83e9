use Rattle.std.proofs.Common.{◌-◌, length}
use Rattle.denotation_laws.proofs.walk.Walk.+tell_now.Given as goal

abbrev pub decreases-tell_now : goal.decreases-tell_now
decreases-tell_now l = length l.self.now.program.now.nodes - l.node
