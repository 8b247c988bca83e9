use Rattle.std.proofs.Common.{◌+◌}
use Rattle.instant_net.specs.Words.{AreWords}
use Rattle.parked_asks.specs.Watches.{IsWatchOf}
use Rattle.settle.specs.Asking.{AreNoted, work_left}
use Rattle.settle.specs.Evaluations.{Evaluates}
use Rattle.settle.specs.Looking.{AreSeenTo}
use Rattle.settle.specs.Ways.{Advances}
use Rattle.settle.proofs.watching.look_below_due.Given as goal

abbrev pub invariant-loop-guard : goal.invariant-loop-guard
invariant-loop-guard g l = record {
  words : AreWords l.net.cells l.words;
  watch : IsWatchOf l.net l.watch;
  noted : AreNoted l.net l.words l.watch.asks;
  way : Advances l.net l.stratum l.stratum l.fn.words l.words;
  seen : AreSeenTo l.net (l.level + 1) l.words l.watch.asks.due;
  steps : Evaluates l.net l.stratum l.fn.words l.words l.fn.steps l.steps;
}

abbrev pub decreases-loop-guard : goal.decreases-loop-guard
decreases-loop-guard g l = work_left l.watch.asks
