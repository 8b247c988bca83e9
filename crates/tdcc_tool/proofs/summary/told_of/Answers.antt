use Rattle.std.proofs.Common.{◌≡◌, ◌+◌, ℕ, Bool, cond, sym, ap, ◌∙◌, arith}
use Rattle.std.specs.Prelude.{is_some}
use Rattle.tdcc_tool.specs.RunTexts.{is_told}
use Rattle.tdcc_tool.proofs.Counting.{filtered-more, filtered-few}
use Rattle.tdcc_tool.proofs.summary.told_of.Goals as goal
use Rattle.tdcc_tool.proofs.summary.told_of.Goals.{then-is_some, else-is_some}

pub overflow_add-told : goal.overflow_add-told
overflow_add-told c = let few = filtered-few (is_told c.args.store.now) c.loop-cell.cell in let so = c.loop-cell.invariant in omega arith

pub loop-cell-preserved : goal.loop-cell-preserved
loop-cell-preserved c =
    let told : c.if-is_some.told ≡ c.loop-cell.told + cond c.is_some.result 1 0 =
    elim c.if-is_some.branch [
      | then-is_some v ↦ v.told-is ∙ ap (λ (b : Bool). c.loop-cell.told + cond b 1 0) (sym v.if-is_some.true)
      | else-is_some v ↦ v.told-is ∙ (let same : c.loop-cell.told ≡ c.loop-cell.told + 0 = omega arith in same) ∙ ap (λ (b : Bool). c.loop-cell.told + cond b 1 0) (sym v.if-is_some.false)
    ] in
    let is : c.is_some.result ≡ is_told c.args.store.now c.loop-cell.cell = c.is_some.ensures ∙ ap is_some c.get.ensures.kept in
    told ∙ ap (λ (b : Bool). c.loop-cell.told + cond b 1 0) is ∙ ap (λ (k : ℕ). k + cond (is_told c.args.store.now c.loop-cell.cell) 1 0) c.loop-cell.invariant
    ∙ sym (filtered-more (is_told c.args.store.now) c.loop-cell.cell)

pub returns-clause-bounded : goal.returns-clause-bounded
returns-clause-bounded c = let few = filtered-few (is_told c.args.store.now) c.loop-cell.cell in let so = c.loop-cell.invariant in omega arith
