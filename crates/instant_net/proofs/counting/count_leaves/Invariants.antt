use Rattle.instant_net.proofs.Counts.{AreCounted}
use Rattle.instant_net.proofs.counting.count_leaves.Given as goal

abbrev pub invariant-loop-root : goal.invariant-loop-root
invariant-loop-root l = AreCounted l.program l.roots l.root-index l.leaves
