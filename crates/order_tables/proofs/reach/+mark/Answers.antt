-- One more of the items next to this one.
use Rattle.std.proofs.Common.{ℕ, List, length, sym, ap, ◌∙◌, subst, arith, slice_index_or}
use Rattle.order_tables.specs.Reaching.{IsMarked}
use Rattle.order_tables.proofs.Marks.{walk-start, walk-on, walk-end}
use Rattle.order_tables.proofs.Nexts.{list_at-read}
use Rattle.order_tables.proofs.reach.+mark.Goals as goal

pub loop-next-init : goal.loop-next-init
loop-next-init t c =
    let lt = c.requires.item in
    let long = c.requires.long in (
      c.deref-next-items.ensures.value ∙ sym (list_at-read c.args.nexts.now c.args.item c.index-nexts-item.result (omega arith) c.index-nexts-item.is),
      walk-start c.args.nexts.now c.args.item c.args.marks.now lt c.if-marks-item.false,
    )

pub loop-next-preserved : goal.loop-next-preserved
loop-next-preserved t c =
    let same = c.loop-next.invariant.0 in
    let lt = c.loop-next-test.true in
    let long = ap length same in (
      same,
      walk-on c.args.nexts.now c.args.item c.args.marks.now c.loop-next.marks c.loop-next.next-index c.loop-next.invariant.1 c.mark.new.marks (omega arith) c.mark.auto.marks
          (subst (λ (xs : List ℕ). IsMarked c.args.nexts.now (slice_index_or xs c.loop-next.next-index 0) c.loop-next.marks c.mark.new.marks) same c.mark.ensures),
    )

pub returns : goal.returns
returns t c =
    let same = ap length c.loop-next.invariant.0 in
    walk-end c.args.nexts.now c.args.item c.args.marks.now c.loop-next.marks c.loop-next.next-index c.loop-next.invariant.1 (omega arith)
