-- The parts of words. A part is what one cell has of a word: two bits of a word of signals, or a whole word. The signals of a net have the first parts, in the order of the cells, 32 to a word; then each word of the other cells is a part, in that order. This project's own.
use Rattle.std.specs.Prelude.{ℕ, ◌+◌, ◌-◌, ◌*◌, ◌/◌, ◌%◌, ◌^◌, nat_lt, List, slice_index, if◌then◌else◌}

-- SIGNALS

-- so many words hold so many signals
abbrev pub signal_words : ℕ → ℕ
signal_words s = (s + 31) / 32

-- the lower of the two bits of signal q in its word
abbrev pub place_in : ℕ → ℕ
place_in q = 2 * (q % 32)

-- the two bits that signal q has of a word with this content
abbrev pub pair_of : ℕ → ℕ → ℕ
pair_of q content = content / 2 ^ place_in q % 4

-- two bits, where signal q has them in its word
abbrev pub pair_at : ℕ → ℕ → ℕ
pair_at q bits = bits * 2 ^ place_in q

-- PARTS, of which the first s are signals'

-- the word of part q
abbrev pub word_of : ℕ → ℕ → ℕ
word_of s q = if nat_lt q s then q / 32 else signal_words s + (q - s)

-- what part q has of its word, where this is the word's content
abbrev pub part_of : ℕ → ℕ → ℕ → ℕ
part_of s q content = if nat_lt q s then pair_of q content else content

-- bits of part q, where it has them in its word
abbrev pub bits_of : ℕ → ℕ → ℕ → ℕ
bits_of s q bits = if nat_lt q s then pair_at q bits else bits

-- the content of part q
abbrev pub part_at : ℕ → List ℕ → ℕ → ℕ
part_at s words q = part_of s q (slice_index words (word_of s q))
