-- What one worker knows of the words of an instant: all that it saw of each word, which parts are settled, and how many strata are at rest. This project's own.
use Rattle.std.specs.Prelude.{◌≡◌, ℕ, max, Bool, false, ◌&&◌, ◌||◌, nat_lt, nat_eq, List, length, map, set, replicate, Option, None, Some, slice_get, slice_index, slice_index_or, slice_range, if◌then◌else◌, ◌+◌}
use Rattle.std.specs.List.{list_all, range_with_len}
use Rattle.instant_net.specs.declared.parts.Atom.{Atom}
use Rattle.instant_net.specs.declared.parts.NetCell.{NetCell}
use Rattle.instant_net.specs.declared.words.How.{How}
use Rattle.instant_net.specs.declared.words.How.TheVariants.{Or}
use Rattle.instant_net.specs.Nets.{Flat}
use Rattle.instant_net.specs.WordParts.{word_of}
use Rattle.instant_net.specs.Words.{empty_words, hows, kind_hows, lub, signals, tell_word, told_to, AreWords}
use Rattle.instant_net.specs.PartLists.{parts, part_stratum}

-- the join of all that was seen of each word, a flag for each part that says whether it is settled, and how many strata are known to be at rest
pub record SeenView : Type 0 where
  pub words : List ℕ
  pub settled : List Bool
  pub known : ℕ

-- it is a view of the net's words
pub record IsSeenOf (net : Flat) (s : SeenView) : Type 0 where
  pub words : AreWords net.cells s.words
  pub settled : length s.settled ≡ parts net.cells

-- nothing is told, settled or known
abbrev pub opened : Flat → SeenView
opened net = record { words = empty_words net.cells; settled = replicate (parts net.cells) false; known = 0 }

-- SETTLED PARTS

abbrev pub is_set : List Bool → ℕ → Bool
is_set flags q = slice_index_or flags q false

-- part q stands in the word
abbrev pub is_in_word : List NetCell → ℕ → ℕ → Bool
is_in_word cells word q = nat_eq (word_of (signals cells) q) word

-- part q stands in the word, and its stratum is below this phase
abbrev pub rests_in_word : List NetCell → ℕ → ℕ → ℕ → Bool
rests_in_word cells phase word q = is_in_word cells word q && nat_lt (part_stratum cells q) phase

-- the flags, with that of each part of the word set whose stratum is below the phase
abbrev pub settle : List NetCell → ℕ → ℕ → List Bool → List Bool
settle cells phase word flags = map (λ q. is_set flags q || rests_in_word cells phase word q) (range_with_len 0 (length flags))

-- each part of the cell is settled
abbrev pub is_settled_cell : SeenView → NetCell → Bool
is_settled_cell s c = list_all (λ flag. flag) (slice_range s.settled c.first (c.first + length (kind_hows c.cell.kind)))

abbrev pub is_settled_there : SeenView → Option NetCell → Bool
is_settled_there s None = false
is_settled_there s (Some c) = is_settled_cell s c

-- the atom's cell is settled
abbrev pub is_settled : List NetCell → SeenView → Atom → Bool
is_settled cells s a = is_settled_there s (slice_get cells a.cell)

-- LEARNING

-- this content of the word was seen; where it was loaded, each part of the word is settled whose stratum is known to be at rest
abbrev pub taken : Flat → ℕ → ℕ → Bool → SeenView → SeenView
taken net word content loaded s = record s {
  words = tell_word s.words (told_to word (slice_index_or (hows net.cells) word Or) content);
  settled = if loaded then settle net.cells s.known word s.settled else s.settled;
}

-- so many strata are at rest
abbrev pub knowing : ℕ → SeenView → SeenView
knowing phase s = record s { known = max s.known phase }

-- word by word the join of both, where the words are told in these ways
abbrev pub join_words : List How → List ℕ → List ℕ → List ℕ
join_words ways u w = map (λ k. lub (slice_index_or ways k Or) (slice_index u k) (slice_index w k)) (range_with_len 0 (length u))

-- the flags that are set in one of both
abbrev pub join_flags : List Bool → List Bool → List Bool
join_flags f g = map (λ q. is_set f q || is_set g q) (range_with_len 0 (length f))

-- all that both know
abbrev pub merged : Flat → SeenView → SeenView → SeenView
merged net s o = record {
  words = join_words (hows net.cells) s.words o.words;
  settled = join_flags s.settled o.settled;
  known = max s.known o.known;
}
