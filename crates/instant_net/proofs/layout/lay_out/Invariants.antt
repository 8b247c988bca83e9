use Rattle.std.proofs.Common.{◌≡◌, ◌+◌, ◌++◌, ◌*◌, take, drop, length}
use Rattle.instant_net.specs.Words.{signals}
use Rattle.instant_net.proofs.Layouts.{placed_from}
use Rattle.instant_net.proofs.layout.lay_out.Given as goal

abbrev pub invariant-loop-place : goal.invariant-loop-place
invariant-loop-place l = record {
  laid : take l.place l.cells.items ++ placed_from l.signals l.signal (l.signals + l.others) (drop l.place l.cells.items) ≡ placed_from l.signals 0 l.signals l.fn.cells.items;
  left : l.signal + signals (drop l.place l.cells.items) ≡ l.signals;
  room : l.others + 2 * l.signal ≡ 2 * l.place;
  long : length l.cells.items ≡ length l.fn.cells.items;
}
