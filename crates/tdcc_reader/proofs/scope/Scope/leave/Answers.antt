use Rattle.tdcc_reader.proofs.Indexed.{is_named, left}
use Rattle.tdcc_reader.proofs.scope.Scope.leave.Goals as goal

pub restore-requires : goal.restore-requires
restore-requires g c = is_named c.self.inside.named.items c.pop.new.self.items c.self.inside.newest c.in-Some.last c.self.invariant c.in-Some.ensures.items

pub invariant_of-self : goal.invariant_of-self
invariant_of-self g c = left c.self.inside.named.items c.pop.new.self.items c.self.inside.newest c.restore.new.newest c.in-Some.last c.self.invariant c.in-Some.ensures.items c.restore.ensures
