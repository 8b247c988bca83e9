use Rattle.std.proofs.Common.{◌+◌, ◌≤◌}
use Rattle.parked_asks.specs.Watches.{watchers, IsWatchOf}
use Rattle.settle.specs.Asking.{NotesMore}
use Rattle.settle.proofs.Noting.{AreHeldNoted}
use Rattle.settle.proofs.asking.ask_watchers.Given as goal

abbrev pub invariant-loop-place : goal.invariant-loop-place
invariant-loop-place g l = record {
  watch : IsWatchOf l.net l.watch;
  notes : NotesMore l.net l.words l.fn.watch.asks l.watch.asks;
  held : AreHeldNoted l.net l.words (watchers l.net l.cell) l.place l.watch.asks;
  count : l.steps ≤ l.fn.steps + l.place;
}
