-- The invariant holds at the opening, and each kind of step keeps it.
use Rattle.std.specs.Prelude.{◌≡◌, ◌≢◌, ℕ, ◌+◌, ◌-◌, ◌<◌, ◌≤◌, max, bit_or, ◌^◌, ◌%◌, true, List, [], ◌∷◌, ◌++◌, length, set, slice_index, Some}
use mathlib.Core.Option.{some}
use lib.ListN.{get_elem?}
use Rattle.instant_net.specs.Nets.{Flat}
use Rattle.instant_net.specs.Opened.{IsNet}
use Rattle.instant_net.specs.Words.{AreWords, lub}
use Rattle.instant_net.specs.Outputs.{IsStratified}
use Rattle.instant_core.specs.Net.{how_of, word_and_bits, width, tells_count}
use Rattle.instant_core.specs.Layout.{counter_at, phase_at, claim_word, claim_bit, count_of, flying_of, phase_of}
use Rattle.instant_core.specs.Lists.{StandsIn}
use Rattle.instant_core.specs.Notes.{Notes}
use Rattle.instant_core.specs.Views.{Knows}
use Rattle.instant_core.specs.Effects.{loaded, sought, announced, claimed, finished, counted, raised, posted, phase_seen, handing, newcomer, no_view, joined}
use Rattle.instant_core.specs.Invariant.{Instant}
use Rattle.instant_core.specs.Licences.{IsFreeNumber, MayAnnounce, Covers}
use Rattle.instant_core.specs.Opening.{OpensOn, first_view}
use Rattle.instant_core.specs.declared.hand.Hand.TheVariants.{Empty, Announced, Claimed}

abbrev pub OpeningHolds : Type 0
OpeningHolds = (net : Flat) (input words : List ℕ) → OpensOn net input words → Instant net input words (first_view net ∷ [])

-- the live view v stands at the seat of an instant
pub record IsSeated (net : Flat) (input words : List ℕ) (views : List Knows) (seat : ℕ) (v : Knows) : Type 0 where
  pub net_is : IsNet net
  pub strat : IsStratified net
  pub input_are : AreWords net.cells input
  pub instant : Instant net input words views
  pub at : get_elem? views seat ≡ some v
  pub live : v.live ≡ true

-- each kind of step keeps the invariant
pub record Keeps (net : Flat) (input words : List ℕ) (views : List Knows) (seat : ℕ) (v : Knows) : Type 0 where
  pub load : (i : ℕ) → i < width net → Instant net input words (set views seat (loaded net i (slice_index words i) v))
  pub seek : (leaf : ℕ) → Instant net input words (set views seat (sought leaf (claim_bit net words leaf) v))
  pub phase : Instant net input words (set views seat (phase_seen (phase_of net words) v))
  pub count : Instant net input words (set views seat (counted net (count_of net words) (flying_of net words) v))
  pub announce : (leaf : ℕ) → MayAnnounce net v leaf → Instant net input (set words (counter_at net) (slice_index words (counter_at net) + 4294967297)) (set views seat (announced leaf v))
  pub claim : (leaf : ℕ) → v.hand ≡ Announced leaf
      → Instant net input (set words (claim_word net leaf) (bit_or (slice_index words (claim_word net leaf)) (2 ^ (leaf % 64)))) (set views seat (claimed net leaf (claim_bit net words leaf) v))
  pub post : (leaf n : ℕ) → v.hand ≡ Claimed leaf n → n < tells_count net leaf
      → Instant net input (set words (word_and_bits net leaf n).0 (lub (how_of net (word_and_bits net leaf n).0) (slice_index words (word_and_bits net leaf n).0) (word_and_bits net leaf n).1)) (set views seat (posted net leaf n (slice_index words (word_and_bits net leaf n).0) v))
  pub finish : (leaf : ℕ) → v.hand ≡ Claimed leaf (tells_count net leaf) → Instant net input (set words (counter_at net) (slice_index words (counter_at net) - 1)) (set views seat (finished v))
  pub raise : (p : ℕ) (m : Notes) → p ≤ net.strata → v.mark ≡ Some m → Covers net p m → Instant net input (set words (phase_at net) (max (slice_index words (phase_at net)) p)) (set views seat (raised p v))
  pub split : (n : ℕ) → StandsIn n v.spare → Instant net input words (set views seat (handing n v) ++ newcomer n v ∷ [])
  pub add : (n : ℕ) → IsFreeNumber views n → Instant net input words (views ++ newcomer n v ∷ [])
  pub join : (other : ℕ) (w : Knows) → w.live ≡ true → v.hand ≡ Empty → w.hand ≡ Empty → other ≢ seat → get_elem? (set views seat (joined net v w)) other ≡ some w → Instant net input words (set (set views seat (joined net v w)) other no_view)

abbrev pub StepsKeep : Type 0
StepsKeep = (net : Flat) (input words : List ℕ) (views : List Knows) (seat : ℕ) (v : Knows) → IsSeated net input words views seat v → Keeps net input words views seat v
