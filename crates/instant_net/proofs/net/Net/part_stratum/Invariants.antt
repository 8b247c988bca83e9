use Rattle.std.proofs.Common.{◌≡◌, ℕ, ◌+◌, ◌<◌, ◌≤◌, Some}
use Rattle.std.specs.Prelude.{slice_get}
use Rattle.instant_net.specs.declared.parts.NetCell.{NetCell}
use Rattle.instant_net.proofs.WordPlaces.{width}
use Rattle.instant_net.proofs.net.Net.part_stratum.Given as goal

abbrev pub invariant-loop-cell : goal.invariant-loop-cell
invariant-loop-cell l = (k : ℕ) (c : NetCell) → k < l.cell-index → slice_get l.cell-items k ≡ Some c → c.first ≤ l.part → l.part < c.first + width c → ⊥
