use Rattle.instant_net.specs.Words.{AreWords}
use Rattle.settle.specs.Ways.{Advances}
use Rattle.settle.proofs.passes.settle.Given as goal

abbrev pub invariant-loop-stratum : goal.invariant-loop-stratum
invariant-loop-stratum l = record {
  words : AreWords l.net.cells l.words;
  way : Advances l.net l.from l.stratum l.fn.words l.words;
}
