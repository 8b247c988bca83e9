use Rattle.std.proofs.Common.{◌<◌, ℕ, get_or}
use Rattle.parked_asks.specs.Numbers.{numbers_of}
use Rattle.parked_asks.specs.Watches.{has_level, IsWatchOf}
use Rattle.settle.specs.Evaluations.{Evaluates}
use Rattle.settle.specs.Looking.{IsSeenTo, Looks}
use Rattle.settle.proofs.looking.look_at_level.Given as goal

abbrev pub invariant-loop-place : goal.invariant-loop-place
invariant-loop-place g l = record {
  watch : IsWatchOf l.net l.watch;
  looks : Looks l.net l.stratum l.fn.words l.words l.fn.watch.asks l.watch.asks;
  seen : (i : ℕ) → i < l.place → IsSeenTo l.net l.stratum l.words l.watch.asks.due (get_or (numbers_of (has_level l.net.cells l.level) l.net.leaves) i 0);
  steps : Evaluates l.net l.stratum l.fn.words l.words l.fn.steps l.steps;
}
