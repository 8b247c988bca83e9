use Rattle.instant_net.specs.Words.{store_in}
use Rattle.residuals.proofs.StartedLists.{AreBegun}
use Rattle.residuals.proofs.next.next_roots.Given as goal

abbrev pub invariant-loop-leaf : goal.invariant-loop-leaf
invariant-loop-leaf l = AreBegun l.net (store_in l.net.cells l.words) l.roots.stay l.once.items l.stay.items l.leaf
