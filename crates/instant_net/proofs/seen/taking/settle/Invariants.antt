use Rattle.std.specs.Prelude.{nat_lt}
use Rattle.instant_net.specs.PartLists.{part_stratum}
use Rattle.instant_net.proofs.SeenFlags.{AreSetBetween}
use Rattle.instant_net.proofs.seen.taking.settle.Given as goal

abbrev pub invariant-loop-part : goal.invariant-loop-part
invariant-loop-part l = AreSetBetween (λ q. nat_lt (part_stratum l.net.cells q) l.phase) l.first l.part l.fn.settled.items l.settled.items
