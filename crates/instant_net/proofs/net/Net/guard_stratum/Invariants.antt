use Rattle.std.proofs.Common.{◌≡◌, take}
use Rattle.instant_net.specs.Readers.{greatest_stratum}
use Rattle.instant_net.proofs.net.Net.guard_stratum.Given as goal

abbrev pub invariant-loop-atom : goal.invariant-loop-atom
invariant-loop-atom l = l.greatest ≡ greatest_stratum l.self.cells (take l.atom-index l.atom-items)
