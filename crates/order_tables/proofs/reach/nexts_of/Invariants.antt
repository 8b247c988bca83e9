-- The items to which the bounds so far lead.
use Rattle.std.proofs.Common.{take}
use Rattle.order_tables.specs.Reaching.{AreNexts}
use Rattle.order_tables.proofs.reach.nexts_of.Given as goal

abbrev pub invariant-loop-bound : goal.invariant-loop-bound
invariant-loop-bound l = AreNexts l.size (take l.bound-index l.bounds) l.nexts.items
