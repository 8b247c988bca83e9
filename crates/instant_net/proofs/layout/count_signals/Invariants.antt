use Rattle.std.proofs.Common.{◌≡◌, ◌+◌, ◌≤◌, drop}
use Rattle.instant_net.specs.Words.{signals}
use Rattle.instant_net.proofs.layout.count_signals.Given as goal

abbrev pub invariant-loop-cell : goal.invariant-loop-cell
invariant-loop-cell l = record {
  counted : l.count + signals (drop l.cell-index l.cells) ≡ signals l.cells;
  few : l.count ≤ l.cell-index;
}
