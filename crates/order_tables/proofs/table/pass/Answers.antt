-- One bound more.
use Rattle.std.proofs.Common.{◌≡◌, ◌+◌, List, ℕ, length, sym, subst}
use Rattle.std.specs.Prelude.{All}
use Rattle.order_tables.specs.declared.bound.Bound.{Bound}
use Rattle.order_tables.specs.Bounds.{Within}
use Rattle.order_tables.proofs.Lists.{stands}
use Rattle.order_tables.proofs.Steps.{Kept, kept-same, kept-more, needs-below, nil}
use Rattle.order_tables.proofs.table.pass.Goals.{then-raise, else-raise}
use Rattle.order_tables.proofs.table.pass.Goals as goal

within_now : (bounds : List Bound) (a b : List ℕ) → length a ≡ length b → All (Within (length b)) bounds → All (Within (length a)) bounds
within_now bounds a b e h = subst (λ (n : ℕ). All (Within n) bounds) (sym e) h

pub raise-requires-clause-room : goal.raise-requires-clause-room
raise-requires-clause-room c =
    needs-below c.args.bounds.now c.loop-bound.table _ (stands c.args.bounds.now c.loop-bound.bound-index nil c.loop-bound-test.true)
    (within_now c.args.bounds.now c.loop-bound.table c.args.table.now c.loop-bound.auto.table c.requires.within) c.requires.some c.loop-bound.invariant.least

pub loop-bound-preserved : goal.loop-bound-preserved
loop-bound-preserved c = elim c.if-raise.branch [
  | then-raise w ↦
      subst (Kept c.args.bounds.now c.args.table.now c.raise.new.table (c.loop-bound.bound-index + 1)) (sym w.changed-is)
      (kept-more c.args.bounds.now c.args.table.now c.loop-bound.table c.loop-bound.bound-index nil c.loop-bound.changed c.loop-bound-test.true c.loop-bound.invariant c.raise.new.table
      (within_now c.args.bounds.now c.loop-bound.table c.args.table.now c.loop-bound.auto.table c.requires.within) (rw w.if-raise.true at c.raise.ensures))
  | else-raise w ↦
      subst (Kept c.args.bounds.now c.args.table.now c.raise.new.table (c.loop-bound.bound-index + 1)) (sym w.changed-is)
      (kept-same c.args.bounds.now c.args.table.now c.loop-bound.table c.loop-bound.bound-index nil c.loop-bound.changed c.loop-bound-test.true c.loop-bound.invariant c.raise.new.table
      (rw w.if-raise.false at c.raise.ensures))
]
