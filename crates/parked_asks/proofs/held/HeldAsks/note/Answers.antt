use Rattle.std.proofs.Common.{ap, ◌∙◌}
use Rattle.parked_asks.specs.Held.{Held}
use Rattle.parked_asks.proofs.HeldLists.{room-noted}
use Rattle.parked_asks.proofs.held.HeldAsks.note.Goals as goal

pub invariant_of-self : goal.invariant_of-self
invariant_of-self c =
    room-noted c.self.inside.held.items c.self.inside.due.items c.args.guard c.args.holds _ (ap (λ (h : Held). h.due) c.self.view_is ∙ c.requires.none_due) c.self.invariant.1
