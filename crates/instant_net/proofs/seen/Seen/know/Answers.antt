use Rattle.std.proofs.Common.{sym, subst}
use Rattle.instant_net.specs.Seen.{IsSeenOf}
use Rattle.instant_net.proofs.seen.Seen.know.Goals as goal

pub returns-clause-seen : goal.returns-clause-seen
returns-clause-seen c = λ net is. let inside = subst (IsSeenOf net) (sym c.self.view_is) is in record { words = inside.words; settled = inside.settled }
