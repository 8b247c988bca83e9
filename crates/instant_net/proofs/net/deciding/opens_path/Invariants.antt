use Rattle.std.proofs.Common.{◌≡◌, length}
use Rattle.instant_net.specs.Nets.{IsLinkBelow}
use Rattle.instant_net.specs.Deciding.{is_open}
use Rattle.instant_net.proofs.PathWalks.{place}
use Rattle.instant_net.proofs.net.deciding.opens_path.Given as goal

abbrev pub invariant-loop-next : goal.invariant-loop-next
invariant-loop-next l = record {
  opens : is_open l.net l.seen l.next ≡ is_open l.net l.seen l.fn.last;
  there : IsLinkBelow (length l.net.guards) l.next;
}

abbrev pub decreases-loop-next : goal.decreases-loop-next
decreases-loop-next l = place l.next
