use Rattle.instant_net.specs.Words.{AreWords}
use Rattle.run_report.proofs.tests.tell_each.Given as goal

abbrev pub invariant-loop-leaf : goal.invariant-loop-leaf
invariant-loop-leaf l = AreWords l.net.cells l.words
