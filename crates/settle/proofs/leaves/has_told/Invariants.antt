use Rattle.instant_net.specs.Words.{store_in}
use Rattle.instant_net.proofs.AskWalks.{IsLeft}
use Rattle.settle.proofs.leaves.has_told.Given as goal

abbrev pub invariant-loop-atom : goal.invariant-loop-atom
invariant-loop-atom l = IsLeft l.net.cells (store_in l.net.cells l.words) l.atom-items l.atom-index
