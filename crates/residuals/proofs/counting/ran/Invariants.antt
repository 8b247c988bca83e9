use Rattle.instant_net.specs.NamedLeaves.{runs_named}
use Rattle.instant_net.specs.Nets.{named_leaf}
use Rattle.instant_net.specs.Words.{store_in}
use Rattle.residuals.proofs.Passing.{IsPassed}
use Rattle.residuals.proofs.counting.ran.Given as goal

abbrev pub invariant-loop-leaf : goal.invariant-loop-leaf
invariant-loop-leaf l = IsPassed (λ x. runs_named (store_in l.net.cells l.words) (named_leaf l.net x)) l.net.leaves l.leaf l.ran
