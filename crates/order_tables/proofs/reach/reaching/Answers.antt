-- One row more.
use Rattle.std.proofs.Common.{◌+◌, ℕ, Bool, List, Vec, length, sym, ◌∙◌, subst}
use Rattle.std.specs.declared.alloc.Global.{Global}
use Rattle.order_tables.specs.Reaching.{AreItems, AreNexts, AreReaching}
use Rattle.order_tables.proofs.Nexts.{nexts-items, leads-reaches, reaches-leads, rows-more}
use Rattle.order_tables.proofs.reach.reaching.Goals as goal

pub reached-requires-clause-items : goal.reached-requires-clause-items
reached-requires-clause-items c =
    subst (λ (ns : List (Vec ℕ Global)). AreItems ns (length ns)) (sym c.deref.ensures.value) (nexts-items c.args.size c.args.bounds.now c.in_ok-nexts.nexts.items c.requires.within c.in_ok-nexts.ensures)

pub loop-item-preserved : goal.loop-item-preserved
loop-item-preserved c =
    let are : AreNexts c.args.size c.args.bounds.now c.deref.result.now = subst (AreNexts c.args.size c.args.bounds.now) (sym c.deref.ensures.value) c.in_ok-nexts.ensures in
    let each = c.in_ok-reached.ensures.each in
    subst (AreReaching c.args.bounds.now c.args.size (c.loop-item.item + 1)) (sym {A = List (Vec Bool Global)} c.in_ok-push.ensures.items)
    (rows-more c.args.bounds.now c.args.size c.loop-item.item c.loop-item.rows.items c.in_ok-reached.field-0 c.loop-item.invariant (c.in_ok-reached.ensures.long ∙ are.long) (λ b. (
      λ h. leads-reaches c.args.size c.args.bounds.now c.deref.result.now c.requires.within are c.loop-item.item b ((each b).0 h),
      λ r. (each b).1 (reaches-leads c.args.size c.args.bounds.now c.deref.result.now c.requires.within are r.0 c.loop-item.item b r.1),
    )))
