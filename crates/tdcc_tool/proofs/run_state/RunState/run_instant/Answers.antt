use Rattle.std.proofs.Common.{◌<◌, ◌+◌, ℕ, Err, refl, sym, ap, ◌∙◌, subst, arith}
use Rattle.token_system.specs.Stores.{StoreMap}
use Rattle.instant_net.specs.Words.{store_in}
use Rattle.residuals.specs.RootLists.{listed_roots}
use Rattle.tdcc_tool.proofs.StateSteps.{over-net, over-fuel, goes-on}
use Rattle.tdcc_tool.proofs.run_state.RunState.run_instant.Goals as goal

pub returns-in-Err-NetFull : goal.returns-in-Err-NetFull
returns-in-Err-NetFull c =
    let x = c.in-Err-NetFull in
    let full = ap Err x.field-0-is in
    over-net c.args.self.now c.args.input c.requires.room _ (x.leaves-is ∙ x.ensures.counted x.leaves full) (subst (λ (n : ℕ). c.args.self.now.limits.net < n) (sym x.leaves-is) (x.ensures.full x.leaves full))

pub overflow_add-spent : goal.overflow_add-spent
overflow_add-spent c = let within = c.args.self.now.within in let fuel = within.0 in let fits = within.1 in let few = c.ran.ensures.bounded in omega arith

pub returns-then-spent-from : goal.returns-then-spent-from
returns-then-spent-from c =
    let b = c.args.self.now.book in
    let v : StoreMap = store_in c.in-Ok.found.0.cells c.in-Ok.found.1 in
    let counted = ap (λ (k : ℕ). c.args.self.now.spent + k) (c.ran.ensures.counts b.program b.levels (listed_roots b.roots) _ c.in-Ok.ensures.net) in
    let fuel = c.from.ensures in
    let over = c.if-spent-from.true in
    over-fuel c.args.self.now c.args.input c.requires.room v c.in-Ok.ensures.small _ counted c.in-Ok.ensures.run (omega arith)

pub returns : goal.returns
returns c =
    let b = c.args.self.now.book in
    let v : StoreMap = store_in c.in-Ok.found.0.cells c.in-Ok.found.1 in
    let counted = ap (λ (k : ℕ). c.args.self.now.spent + k) (c.ran.ensures.counts b.program b.levels (listed_roots b.roots) _ c.in-Ok.ensures.net) in
    let fuel = c.from.ensures in
    let within = c.if-spent-from.false in
    goes-on c.args.self.now c.args.input c.requires.room v c.in-Ok.ensures.small _ counted _ c.in-Ok.found.0 refl refl refl (omega arith) c.in_ok-close.ensures.closed c.in_ok-close.ensures.keeps c.in-Ok.ensures.net
    c.in_ok-write_line.ensures
