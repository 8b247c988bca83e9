use Rattle.std.proofs.Common.{◌≡◌, ℕ, List, length}
use Rattle.std.specs.Prelude.{slice_get}
use Rattle.instant_net.specs.Nets.{IsLinkBelow}
use Rattle.instant_net.specs.Readers.{last_of}
use Rattle.instant_net.specs.Words.{store_in}
use Rattle.instant_net.proofs.PathWalks.{is_free_of, place}
use Rattle.settle.specs.Asking.{AreNoted}
use Rattle.settle.proofs.looking.is_free.Given as goal

abbrev pub invariant-loop-next : goal.invariant-loop-next
invariant-loop-next l = record {
  free : (words : List ℕ) → AreNoted l.net words l.asks → is_free_of l.net (store_in l.net.cells words) l.next ≡ is_free_of l.net (store_in l.net.cells words) (last_of (slice_get l.net.leaves l.leaf));
  there : IsLinkBelow (length l.net.guards) l.next;
}

abbrev pub decreases-loop-next : goal.decreases-loop-next
decreases-loop-next l = place l.next
