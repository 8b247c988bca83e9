use Rattle.std.proofs.Common.{◌≡◌, false, take}
use Rattle.parked_asks.specs.Watches.{asks_for}
use Rattle.parked_asks.proofs.watch.is_asked_for.Given as goal

abbrev pub invariant-loop-atom : goal.invariant-loop-atom
invariant-loop-atom l = asks_for l.cell (take l.atom-index l.ask) ≡ false
