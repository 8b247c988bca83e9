-- The invariant of an instant: what holds of its words and of what its workers know, after every list of lawful steps. This project's own.
use Rattle.std.specs.Prelude.{◌≡◌, ℕ, ◌+◌, ◌/◌, ◌<◌, ◌≤◌, ◌⊎◌, true, false, List, length, slice_get, slice_index, Option, None, Some, IsTrue}
use mathlib.Core.Option.{some}
use lib.ListN.{get_elem?}
use Rattle.instant_net.specs.Nets.{Flat}
use Rattle.instant_net.specs.PartLists.{parts, part_stratum}
use Rattle.instant_net.specs.Readers.{is_tell_of}
use Rattle.instant_net.specs.Seen.{SeenView, IsSeenOf, is_set}
use Rattle.instant_net.specs.Words.{Lies}
use Rattle.net_laws.specs.FinalWords.{AreFinal}
use Rattle.net_laws.specs.Laws.{IsFinalUpto}
use Rattle.instant_core.specs.Net.{how_of, part_in, word_and_bits, tells_count, width, Entails, IsWordsBelow, Runs, IsLow}
use Rattle.instant_core.specs.declared.hand.Hand.{Hand}
use Rattle.instant_core.specs.declared.hand.Hand.TheVariants.{Empty, Announced, Claimed}
use Rattle.instant_core.specs.Lists.{total, StandsIn, pair_times, of_leaf}
use Rattle.instant_core.specs.Notes.{Notes, HasNote, NotesWord, NotesLeaf}
use Rattle.instant_core.specs.Views.{Knows}
use Rattle.instant_core.specs.Layout.{claim_bit, count_of, flying_of, phase_of}

abbrev pub wins : ℕ → Knows → ℕ
wins leaf v = total (of_leaf leaf) v.won

abbrev pub said : ℕ × ℕ → Knows → ℕ
said p v = pair_times p v.announced

abbrev pub how_many : Knows → ℕ
how_many v = length v.announced

abbrev pub in_hand : Hand → ℕ
in_hand Empty = 0
in_hand (Announced _) = 1
in_hand (Claimed _ _) = 1

abbrev pub leaf_in : Hand → Option ℕ
leaf_in Empty = None
leaf_in (Announced leaf) = Some leaf
leaf_in (Claimed leaf from) = Some leaf

abbrev pub holding : Knows → ℕ
holding v = in_hand v.hand

pub record MarkFits (net : Flat) (input words : List ℕ) (m : Notes) : Type 0 where
  pub old : m.count ≤ count_of net words
  -- where nothing was announced since, nothing is in flight, and the notes are as it stands now
  pub rest : m.count ≡ count_of net words → flying_of net words ≡ 0
  pub word_now : m.count ≡ count_of net words → (word x : ℕ) → NotesWord m word x → x ≡ slice_index words word
  pub leaf_now : m.count ≡ count_of net words → (leaf bit : ℕ) → NotesLeaf m leaf bit → bit ≡ claim_bit net words leaf
  pub word_below : (word x : ℕ) → NotesWord m word x → Lies (how_of net word) x (slice_index words word)
  pub leaf_set : (leaf : ℕ) → NotesLeaf m leaf 1 → claim_bit net words leaf ≡ 1
  -- of the confirmed notes
  pub within : (word x : ℕ) → NotesWord m word x → word < width net
  pub above : (word x : ℕ) → HasNote m.words word x → Lies (how_of net word) (slice_index input word) x
  pub posted : (leaf j : ℕ) → HasNote m.leaves leaf 1 → j < tells_count net leaf → Entails net words (word_and_bits net leaf j)
  pub told : (leaf j x : ℕ) → HasNote m.leaves leaf 1 → j < tells_count net leaf → HasNote m.words (word_and_bits net leaf j).0 x → Lies (how_of net (word_and_bits net leaf j).0) (word_and_bits net leaf j).1 x

pub record ViewFits (net : Flat) (input words : List ℕ) (v : Knows) : Type 0 where
  pub numbered : v.number < 64
  pub seen : IsSeenOf net v.seen
  pub below : IsWordsBelow net v.seen.words words
  pub known : v.seen.known ≤ phase_of net words
  -- whatever is in hand was announced
  pub held : (leaf : ℕ) → leaf_in v.hand ≡ Some leaf → StandsIn (v.number, leaf) v.announced
  pub announced : (leaf : ℕ) → v.hand ≡ Announced leaf → leaf < length net.leaves
  pub claimed : (leaf k : ℕ) → v.hand ≡ Claimed leaf k → (claim_bit net words leaf ≡ 1) × (k ≤ tells_count net leaf)
  pub mark : (m : Notes) → v.mark ≡ Some m → MarkFits net input words m

abbrev pub Pending : List Knows → ℕ → ℕ → Type 0
Pending views leaf k = (seat : ℕ) × (v : Knows) × (from : ℕ) × (get_elem? views seat ≡ some v) × (v.hand ≡ Claimed leaf from) × (from ≤ k)

-- the pair has a worker's number, and a leaf that tells
abbrev pub IsPair : Flat → ℕ × ℕ → Type 0
IsPair net p = (p.0 < 64) × (p.1 < length net.leaves) × IsTrue (is_tell_of (slice_get net.leaves p.1))

-- what holds whatever the output is
pub record Kept (net : Flat) (input words : List ℕ) (views : List Knows) : Type 0 where
  pub wide : width net + 2 + length net.leaves / 64 < length words
  pub phase : phase_of net words ≤ net.strata
  pub above : IsWordsBelow net input words
  pub fits : (seat : ℕ) (v : Knows) → get_elem? views seat ≡ some v → v.live ≡ true → ViewFits net input words v
  pub won_once : (leaf : ℕ) → total (wins leaf) views ≡ claim_bit net words leaf
  pub posted : (leaf k : ℕ) → claim_bit net words leaf ≡ 1 → k < tells_count net leaf → Entails net words (word_and_bits net leaf k) ⊎ Pending views leaf k
  -- at most one view has tokens left of a leaf
  pub one_left : (i j leaf from to : ℕ) (v u : Knows) → get_elem? views i ≡ some v → get_elem? views j ≡ some u → v.hand ≡ Claimed leaf from → u.hand ≡ Claimed leaf to → from < tells_count net leaf → to < tells_count net leaf → i ≡ j
  pub count : total how_many views ≡ count_of net words
  pub flying : total holding views ≡ flying_of net words
  -- no pair is announced twice, and each is in range
  pub said_once : (p : ℕ × ℕ) → total (said p) views ≤ 1
  pub range : (seat : ℕ) (v : Knows) → get_elem? views seat ≡ some v → (p : ℕ × ℕ) → StandsIn p v.announced → IsPair net p
  -- what is won was announced
  pub won : (seat : ℕ) (v : Knows) → get_elem? views seat ≡ some v → (p : ℕ × ℕ) → StandsIn p v.won → StandsIn p v.announced
  -- whoever has a leaf in hand is live, and has announced one
  pub idle : (seat : ℕ) (v : Knows) → get_elem? views seat ≡ some v → v.live ≡ false → v.hand ≡ Empty
  pub busy : (seat : ℕ) (v : Knows) → get_elem? views seat ≡ some v → holding v ≤ how_many v
  -- no two live views have one number, and the pairs of a live number stand in its view
  pub apart : (i j : ℕ) (v u : Knows) → get_elem? views i ≡ some v → get_elem? views j ≡ some u → v.live ≡ true → u.live ≡ true → v.number ≡ u.number → i ≡ j
  pub own : (i j : ℕ) (v u : Knows) → get_elem? views i ≡ some v → v.live ≡ true → get_elem? views j ≡ some u → ¬ (j ≡ i) → (leaf : ℕ) → said (v.number, leaf) u ≡ 0
  -- a number to hand on is below 64, stands with one view, is no live view's own and has announced nothing
  pub spare_range : (i n : ℕ) (v : Knows) → get_elem? views i ≡ some v → StandsIn n v.spare → n < 64
  pub spare_once : (i j n : ℕ) (v u : Knows) → get_elem? views i ≡ some v → get_elem? views j ≡ some u → StandsIn n v.spare → StandsIn n u.spare → i ≡ j
  pub spare_free : (i j n : ℕ) (v u : Knows) → get_elem? views i ≡ some v → get_elem? views j ≡ some u → StandsIn n v.spare → u.live ≡ true → ¬ (u.number ≡ n)
  pub spare_new : (i j n : ℕ) (v u : Knows) → get_elem? views i ≡ some v → get_elem? views j ≡ some u → StandsIn n v.spare → (leaf : ℕ) → said (n, leaf) u ≡ 0

-- each part that is settled for a view has a stratum that is known to be at rest, and its final content is seen
abbrev pub AreSettled : Flat → List ℕ → SeenView → Type 0
AreSettled net out s = (q : ℕ) → IsTrue (is_set s.settled q) → (q < parts net.cells) × (part_stratum net.cells q < s.known) × (part_in net s.words q ≡ part_in net out q)

-- what ties it to the output
pub record Right (net : Flat) (out words : List ℕ) (views : List Knows) : Type 0 where
  pub below : IsWordsBelow net words out
  pub runs : (leaf : ℕ) → claim_bit net words leaf ≡ 1 → Runs net out leaf
  pub hands : (seat leaf : ℕ) (v : Knows) → get_elem? views seat ≡ some v → v.live ≡ true → v.hand ≡ Announced leaf → Runs net out leaf
  pub final : IsFinalUpto net out (phase_of net words) words
  pub done : (leaf j : ℕ) → Runs net out leaf → IsLow net (phase_of net words) leaf → j < tells_count net leaf → (claim_bit net words leaf ≡ 1) × Entails net words (word_and_bits net leaf j)
  pub settled : (seat : ℕ) (v : Knows) → get_elem? views seat ≡ some v → v.live ≡ true → AreSettled net out v.seen

pub record Instant (net : Flat) (input words : List ℕ) (views : List Knows) : Type 0 where
  pub kept : Kept net input words views
  pub right : (out : List ℕ) → AreFinal net input out → Right net out words views
