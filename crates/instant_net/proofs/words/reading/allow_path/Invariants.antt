use Rattle.std.proofs.Common.{◌≡◌, length}
use Rattle.instant_net.specs.Nets.{IsLinkBelow}
use Rattle.instant_net.specs.Words.{store_in}
use Rattle.instant_net.proofs.PathWalks.{is_free_of, place}
use Rattle.instant_net.proofs.words.reading.allow_path.Given as goal

abbrev pub invariant-loop-next : goal.invariant-loop-next
invariant-loop-next l = record {
  free : is_free_of l.net (store_in l.net.cells l.words) l.next ≡ is_free_of l.net (store_in l.net.cells l.words) l.fn.last;
  there : IsLinkBelow (length l.net.guards) l.next;
}

abbrev pub decreases-loop-next : goal.decreases-loop-next
decreases-loop-next l = place l.next
