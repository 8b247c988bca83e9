use Rattle.std.proofs.Common.{◌≡◌, ◌+◌, max, [], length}
use Rattle.instant_net.specs.Words.{AreWords}
use Rattle.parked_asks.specs.Watches.{IsWatchOf}
use Rattle.settle.specs.Asking.{AreNoted}
use Rattle.settle.specs.Evaluations.{Evaluates}
use Rattle.settle.specs.Looking.{AreSeenTo}
use Rattle.settle.specs.Ways.{Advances}
use Rattle.settle.proofs.watching.settle_watched.Given as goal

abbrev pub invariant-loop-level : goal.invariant-loop-level
invariant-loop-level g l = record {
  words : AreWords l.net.cells l.words;
  watch : IsWatchOf l.net l.watch;
  noted : AreNoted l.net l.words l.watch.asks;
  due : l.watch.asks.due ≡ [];
  way : Advances l.net l.from (max l.level l.from) l.fn.words l.words;
  seen : AreSeenTo l.net l.level l.words [];
  steps : Evaluates l.net l.from l.fn.words l.words (l.fn.steps + length l.net.guards) l.steps;
}
