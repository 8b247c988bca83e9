-- Each call that marks leaves fewer items that are not marked.
use Rattle.std.proofs.Common.{◌≡◌}
use Rattle.order_tables.specs.Reaching.{list_at}
use Rattle.order_tables.proofs.Marks.{unmarked, Walked}
use Rattle.order_tables.proofs.reach.+mark.Given as goal

abbrev pub decreases-mark : goal.decreases-mark
decreases-mark l = unmarked l.marks.now

abbrev pub invariant-loop-next : goal.invariant-loop-next
invariant-loop-next l = (l.next-items ≡ list_at l.nexts l.item) × Walked l.nexts l.item l.fn.marks l.marks l.next-index
