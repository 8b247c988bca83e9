use Rattle.residuals.proofs.Neighbours.{rising-sorted}
use Rattle.residuals.proofs.closures.is_in_order.Goals as goal

pub returns : goal.returns
returns c _ = rising-sorted c.args.closures.now c.loop-place.place c.loop-place-test.false c.loop-place.invariant
