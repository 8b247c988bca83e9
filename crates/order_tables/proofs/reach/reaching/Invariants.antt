-- The rows so far.
use Rattle.order_tables.specs.Reaching.{AreReaching}
use Rattle.order_tables.proofs.reach.reaching.Given as goal

abbrev pub invariant-loop-item : goal.invariant-loop-item
invariant-loop-item l = AreReaching l.bounds l.size l.item l.rows.items
