use Rattle.std.proofs.Common.{◌≡◌, ◌<◌, Bool, List, false, length, sym, ap, subst, arith}
use Rattle.parked_asks.specs.Held.{Held, is_noted}
use Rattle.parked_asks.proofs.HeldLists.{has-room, room-woken}
use Rattle.parked_asks.proofs.held.HeldAsks.wake.Goals as goal

pub unreachable-requires : goal.unreachable-requires
unreachable-requires c =
    let full = c.in-Err.ensures.full in
    let ok = c.self.inside.due.ok in
    let same = sym (ap (λ (h : Held). h.held) c.self.view_is) in
    has-room c.self.inside.held.items c.self.inside.due.items c.args.guard _
    (subst (λ (xs : List Bool). c.args.guard < length xs) same c.requires.there) (subst (λ (xs : List Bool). is_noted xs c.args.guard ≡ false) same c.requires.parked) c.self.invariant (omega arith)

pub invariant_of-self : goal.invariant_of-self
invariant_of-self c =
    let same = sym (ap (λ (h : Held). h.held) c.self.view_is) in
    room-woken c.self.inside.held.items c.self.inside.due.items c.args.guard _
    (subst (λ (xs : List Bool). c.args.guard < length xs) same c.requires.there) (subst (λ (xs : List Bool). is_noted xs c.args.guard ≡ false) same c.requires.parked) c.self.invariant
    c.push.new.self.items _ c.in-Ok.ensures.items c.in-Ok.ensures.capacity
