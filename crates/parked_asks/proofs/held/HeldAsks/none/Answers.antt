use Rattle.std.proofs.Common.{◌≡◌, length, arith}
use Rattle.parked_asks.proofs.HeldLists.{room-none}
use Rattle.parked_asks.proofs.held.HeldAsks.none.Goals as goal

pub invariant_of-result : goal.invariant_of-result
invariant_of-result c =
    let ok = c.in_ok-held.held.ok in
    let len = c.in_ok-held.ensures.len in
    let long : length c.in_ok-held.held.items ≡ c.args.guards = omega arith in
    room-none c.in_ok-held.held.items c.in_ok-due.due.items c.args.guards _ long c.in_ok-due.ensures.items c.in_ok-due.ensures.exact
