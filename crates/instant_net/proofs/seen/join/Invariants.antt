use Rattle.instant_net.specs.Seen.{is_set}
use Rattle.instant_net.proofs.SeenFlags.{AreSetBetween}
use Rattle.instant_net.proofs.seen.join.Given as goal

abbrev pub invariant-loop-place : goal.invariant-loop-place
invariant-loop-place l = AreSetBetween (λ q. is_set l.others q) 0 l.place l.fn.flags.items l.flags.items
