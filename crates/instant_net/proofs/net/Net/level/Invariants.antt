use Rattle.std.proofs.Common.{◌≡◌, take}
use Rattle.instant_net.specs.Readers.{least_stratum}
use Rattle.instant_net.proofs.net.Net.level.Given as goal

abbrev pub invariant-loop-atom : goal.invariant-loop-atom
invariant-loop-atom l = l.least ≡ least_stratum l.self.cells (take l.atom-index l.atom-items)
