-- The next bound.
use Rattle.std.proofs.Common.{◌++◌, ◌∷◌, [], ℕ, List, sym, ap, ◌∙◌, arith, slice_index_or}
use Rattle.order_tables.proofs.Steps.{nil}
use Rattle.order_tables.proofs.Nexts.{nexts-more, list_at-read}
use Rattle.order_tables.proofs.reach.nexts_of.Goals as goal

pub loop-bound-preserved : goal.loop-bound-preserved
loop-bound-preserved c =
    let w = c.requires c.loop-bound.bound-index nil c.loop-bound-test.true in
    let long = c.loop-bound.invariant.long in
    nexts-more c.args.size c.loop-bound.bound-index c.args.bounds.now nil c.loop-bound.nexts.items c.loop-bound-test.true c.loop-bound.invariant c.push.new.self w.0
    (c.in_ok-push.ensures.items ∙ ap (λ (ys : List ℕ). ys ++ (slice_index_or c.args.bounds.now c.loop-bound.bound-index nil).high ∷ []) (sym (list_at-read c.loop-bound.nexts.items _ c.index_mut.result.now (let l = w.0 in omega arith) c.index_mut.ensures.value)))
