use Rattle.instant_net.specs.Words.{AreWords}
use Rattle.instant_net.proofs.tests.fronts.told.Given as goal

abbrev pub invariant-loop-leaf : goal.invariant-loop-leaf
invariant-loop-leaf l = AreWords l.net.cells l.words
