use Rattle.std.proofs.Common.{◌≡◌, ◌+◌, ◌≤◌, ◌<◌, ℕ, [], length}
use Rattle.parked_asks.specs.Held.{is_noted}
use Rattle.settle.specs.Asking.{is_held}
use Rattle.settle.proofs.asking.note_asks.Given as goal

abbrev pub invariant-loop-guard : goal.invariant-loop-guard
invariant-loop-guard g l = record {
  long : length l.asks.held ≡ length l.net.guards;
  none : l.asks.due ≡ [];
  noted : (k : ℕ) → k < l.guard → is_noted l.asks.held k ≡ is_held l.net l.words k;
  count : l.steps ≤ l.fn.steps + l.guard;
}
