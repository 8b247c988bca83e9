use Rattle.residuals.proofs.Neighbours.{AreRising}
use Rattle.residuals.proofs.closures.is_in_order.Given as goal

abbrev pub invariant-loop-place : goal.invariant-loop-place
invariant-loop-place l = AreRising l.closures l.place
