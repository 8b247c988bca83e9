use Rattle.std.proofs.Common.{◌∙◌, ℕ, [], replicate, length, ap, arith}
use Rattle.parked_asks.proofs.Listings.{guards-next, guards-all, lists-none}
use Rattle.parked_asks.specs.Watches.{names_cell}
use Rattle.parked_asks.proofs.watch.guards_by_cell.Goals as goal

pub loop-guard-init : goal.loop-guard-init
loop-guard-init c = lists-none names_cell (length c.args.net.now.cells) c.args.net.now.guards c.in_ok-index.index (c.in_ok-index.ensures ∙ ap (λ (n : ℕ). replicate n []) c.cells.ensures.count)

pub loop-guard-preserved : goal.loop-guard-preserved
loop-guard-preserved c =
    let n = c.guards-guard-end.ensures in
    let lt = c.loop-guard-test.true in
    guards-next c.args.net.now c.loop-guard.guard c.loop-guard.index c.add_guard.new.index (omega arith) c.in_ok-add_guard.ensures c.loop-guard.invariant

pub returns : goal.returns
returns c =
    let n = c.guards-guard-end.ensures in
    let le = c.loop-guard-test.false in
    guards-all c.args.net.now c.loop-guard.guard c.loop-guard.index (omega arith) c.loop-guard.invariant
