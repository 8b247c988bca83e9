use Rattle.parked_asks.proofs.Listings.{LeavesUpto}
use Rattle.parked_asks.proofs.watch.leaves_by_level.Given as goal

abbrev pub invariant-loop-leaf : goal.invariant-loop-leaf
invariant-loop-leaf l = LeavesUpto l.net l.leaf l.index
