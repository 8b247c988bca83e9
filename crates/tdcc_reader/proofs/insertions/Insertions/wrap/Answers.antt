use Rattle.std.proofs.Common.{reverse}
use Rattle.tdcc_reader.proofs.Arranging.{last_open, wrap_keeps}
use Rattle.tdcc_reader.proofs.insertions.Insertions.wrap.Goals as goal

pub invariant_of-self : goal.invariant_of-self
invariant_of-self c =
    wrap_keeps c.self.inside.came.items c.push.new.self.items _ (reverse c.pop.new.self.items)
    (last_open c.self.inside.came.items c.self.inside.starts.items c.pop.new.self.items c.in-Some.place c.self.invariant c.in-Some.ensures.items)
    c.in_ok-push.ensures.items
