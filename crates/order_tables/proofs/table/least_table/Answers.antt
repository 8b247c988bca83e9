-- A pass that raises a number leaves less to raise.
use Rattle.std.proofs.Common.{◌≡◌, ◌<◌, ◌-◌, ◌*◌, ℕ, List, length, sym, ap, ◌∙◌, subst}
use Rattle.std.specs.Prelude.{All, sum}
use Rattle.std.proofs.lemmas.List.{with_items_is}
use Rattle.order_tables.specs.Bounds.{Within}
use Rattle.order_tables.proofs.Steps.{smaller}
use Rattle.order_tables.proofs.Tables.{least-below}
use Rattle.order_tables.proofs.table.least_table.Goals as goal

pub loop-smaller : goal.loop-smaller
loop-smaller c =
    let passed = rw c.loop-test.true at c.pass.ensures in
    let long : length c.deref_mut.result.now ≡ c.args.size = ap length c.deref_mut.ensures.value ∙ c.loop.invariant.long in
    let whole : length c.pass.new.table ≡ c.args.size = c.pass.auto.table ∙ long in
    let same : length c.pass.new.table ≡ c.loop.table.len = c.pass.auto.table ∙ ap length c.deref_mut.ensures.value ∙ sym c.loop.table.ok.0 in
    let within : All (Within (length c.pass.new.table)) c.args.bounds.now = subst (λ (n : ℕ). All (Within n) c.args.bounds.now) (sym whole) c.requires.within in
    let less = smaller c.args.size c.loop.table.items c.pass.new.table whole (least-below c.args.bounds.now c.pass.new.table within c.requires.some passed.0)
    (subst (λ (t : List ℕ). sum t < sum c.pass.new.table) c.deref_mut.ensures.value passed.1) in
    subst (λ (t : List ℕ). c.args.size * c.args.size - sum t < c.args.size * c.args.size - sum c.loop.table.items) (sym (with_items_is c.loop.table c.pass.new.table same)) less
