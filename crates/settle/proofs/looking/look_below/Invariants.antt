use Rattle.std.proofs.Common.{◌≤◌, ◌<◌, ℕ}
use Rattle.std.specs.Prelude.{slice_get}
use Rattle.instant_net.specs.Readers.{first_of_guard}
use Rattle.parked_asks.specs.Watches.{IsWatchOf}
use Rattle.settle.specs.Evaluations.{Evaluates}
use Rattle.settle.specs.Looking.{IsSeenTo, Looks}
use Rattle.settle.proofs.looking.look_below.Given as goal

abbrev pub invariant-loop-leaf : goal.invariant-loop-leaf
invariant-loop-leaf g l = record {
  watch : IsWatchOf l.net l.watch;
  looks : Looks l.net l.stratum l.fn.words l.words l.fn.watch.asks l.watch.asks;
  seen : (n : ℕ) → first_of_guard (slice_get l.net.guards l.guard) ≤ n → n < l.leaf → IsSeenTo l.net l.stratum l.words l.watch.asks.due n;
  steps : Evaluates l.net l.stratum l.fn.words l.words l.fn.steps l.steps;
}
