-- The words in which a net keeps what is told of its cells: two bits for a signal, and two words for a number, its greatest lower bound and its least upper one. What is told to a word only makes it rise in the order of that word. This project's own.
use Rattle.std.specs.Prelude.{◌≡◌, ℕ, zero, suc, ◌+◌, ◌<◌, max, min, bit_or, nat_lt, ℤ, pos, ◌+ℤ◌, ◌-ℤ◌, nat_abs, true, false, List, [], ◌∷◌, ◌++◌, length, set, replicate, flat_map, slice_get, slice_index, slice_index_or, if◌then◌else◌, Option, None, Some}
use Rattle.std.specs.FinMap.{empty}
use Rattle.token_system.specs.declared.cell.Cell.{Cell}
use Rattle.token_system.specs.declared.cell.Kind.{Kind}
use Rattle.token_system.specs.declared.cell.Kind.TheVariants.{Signal, Number}
use Rattle.token_system.specs.declared.cell.Token.{Token}
use Rattle.token_system.specs.declared.cell.Token.TheVariants as token
use Rattle.token_system.specs.declared.cell.Value.{Value}
use Rattle.token_system.specs.declared.cell.Value.TheVariants as value
use Rattle.token_system.specs.Tokens.{is_signal}
use Rattle.token_system.specs.Values.{value_tokens}
use Rattle.token_system.specs.Stores.{StoreMap, value_at, stored}
use Rattle.instant_net.specs.declared.parts.Atom.{Atom}
use Rattle.instant_net.specs.declared.parts.NetCell.{NetCell}
use Rattle.instant_net.specs.declared.words.How.{How}
use Rattle.instant_net.specs.declared.words.How.TheVariants.{Or, Max, Min}
use Rattle.instant_net.specs.declared.words.Told.{Told}
use Rattle.instant_net.specs.WordParts.{signal_words, pair_of, pair_at, word_of, bits_of}

-- ORDER OF A WORD

-- what a word becomes where bits are told to it
abbrev pub lub : How → ℕ → ℕ → ℕ
lub Or word bits = bit_or word bits
lub Max word bits = max word bits
lub Min word bits = min word bits

-- a lies at or below b
abbrev pub Lies : How → ℕ → ℕ → Type 0
Lies how a b = lub how a b ≡ b

-- LAYOUT: the words of signals first, 32 to a word, and then those of the other cells, each in the order of the cells

abbrev pub offset : ℕ
offset = 2147483648

-- a bound as the content of a word
abbrev pub shifted : ℤ → ℕ
shifted k = nat_abs (k +ℤ pos offset)

-- how each part of a cell is told
abbrev pub kind_hows : Kind → List How
kind_hows Signal = Or ∷ []
kind_hows Number = Max ∷ Min ∷ []

-- how each word is told that a cell has for itself
abbrev pub own_hows : Kind → List How
own_hows Signal = []
own_hows Number = Max ∷ Min ∷ []

-- so many of the cells are signals
abbrev pub signals : List NetCell → ℕ
signals [] = 0
signals (c ∷ cells) = (if is_signal c.cell.kind then suc (signals cells) else signals cells)

-- how each word of these cells is told
abbrev pub hows : List NetCell → List How
hows cells = replicate (signal_words (signals cells)) Or ++ flat_map (λ c. own_hows c.cell.kind) cells

abbrev pub own_unknown : Kind → ℤ → ℤ → List ℕ
own_unknown Signal lo hi = []
own_unknown Number lo hi = shifted lo ∷ shifted hi ∷ []

-- the words of these cells where nothing is told
abbrev pub empty_words : List NetCell → List ℕ
empty_words cells = replicate (signal_words (signals cells)) 0 ++ flat_map (λ c. own_unknown c.cell.kind c.cell.lo c.cell.hi) cells

-- these are words of the cells: each lies at or above its word of which nothing is told
pub record AreWords (cells : List NetCell) (words : List ℕ) : Type 0 where
  pub long : length words ≡ length (empty_words cells)
  pub above : (k : ℕ) → k < length words → Lies (slice_index_or (hows cells) k Or) (slice_index (empty_words cells) k) (slice_index words k)

-- each cell names its first part and the word of this part, where s cells are signals, and of these cells the first signal has part q and the first other one part r
abbrev pub AreLaidOutFrom : ℕ → ℕ → ℕ → List NetCell → Type 0
AreLaidOutFrom s q r [] = Unit {0}
AreLaidOutFrom s q r (c ∷ cells) =
    (c.first ≡ (if is_signal c.cell.kind then q else r)) × (c.word ≡ word_of s c.first)
    × AreLaidOutFrom s (if is_signal c.cell.kind then suc q else q) (r + length (own_hows c.cell.kind)) cells

-- the parts of these cells stand in their order, those of signals before all others
abbrev pub AreLaidOut : List NetCell → Type 0
AreLaidOut cells = AreLaidOutFrom (signals cells) 0 (signals cells) cells

-- VALUES

-- bit 0 says on, and bit 1 off
abbrev pub bits_value : ℕ → Value
bits_value zero = value.Signal false false
bits_value (suc zero) = value.Signal true false
bits_value (suc (suc zero)) = value.Signal false true
bits_value (suc (suc (suc bits))) = value.Clash

-- a number is a clash where its lower bound is above its upper one
abbrev pub number_value : ℕ → ℕ → Value
number_value lo hi = if nat_lt hi lo then value.Clash else value.Number (pos lo -ℤ pos offset) (pos hi -ℤ pos offset)

abbrev pub kind_value : Kind → (ℕ → ℕ) → ℕ → Value
kind_value Signal at first = bits_value (at first)
kind_value Number at first = number_value (at first) (at (first + 1))

-- the value of a cell whose first part this is, where each part has this content
abbrev pub cell_value : Cell → (ℕ → ℕ) → ℕ → Value
cell_value c at first = kind_value c.kind at first

-- the value of the cell, where each part of the net has this content
abbrev pub value_by : (ℕ → ℕ) → NetCell → Value
value_by at c = cell_value c.cell at c.first

-- what a cell of this kind has of one of its words, where its first part is q
abbrev pub kind_part : Kind → ℕ → ℕ → ℕ
kind_part Signal q content = pair_of q content
kind_part Number q content = content

-- the content of the cell's part i, counted from its first
abbrev pub own_part : List ℕ → NetCell → ℕ → ℕ
own_part words c i = kind_part c.cell.kind c.first (slice_index words (c.word + i))

-- the value that the words have for the cell
abbrev pub value_in : List ℕ → NetCell → Value
value_in words c = cell_value c.cell (own_part words c) 0

-- the store that the words of the cells are
abbrev pub store_in : List NetCell → List ℕ → StoreMap
store_in [] words = empty
store_in (c ∷ cells) words = stored (store_in cells words) c.name c.cell (value_in words c)

-- TELLING

abbrev pub told_to : ℕ → How → ℕ → Told
told_to word how bits = record { word = word; how = how; bits = bits }

-- where and how a token is told of a cell of this kind, whose first part and word these are; one of another kind is told as nothing
abbrev pub told_by_kind : Kind → ℕ → ℕ → Token → Told
told_by_kind Signal first word token.On = told_to word Or (pair_at first 1)
told_by_kind Signal first word token.Off = told_to word Or (pair_at first 2)
told_by_kind Signal first word token.Clash = told_to word Or (pair_at first 3)
told_by_kind Number first word (token.AtLeast k) = told_to word Max (shifted k)
told_by_kind Number first word (token.AtMost k) = told_to (word + 1) Min (shifted k)
told_by_kind Number first word token.Clash = told_to word Max 4294967296
told_by_kind _ first word t = told_to word Or 0

-- where and how a token is told of the cell
abbrev pub told_as : NetCell → Token → Told
told_as c t = told_by_kind c.cell.kind c.first c.word t

abbrev pub atom_told : Option NetCell → Token → Told
atom_told None t = told_to 0 Or 0
atom_told (Some c) t = told_as c t

abbrev pub told_of : List NetCell → Atom → Told
told_of cells a = atom_told (slice_get cells a.cell) a.token

abbrev pub tell_word : List ℕ → Told → List ℕ
tell_word words t = set words t.word (lub t.how (slice_index words t.word) t.bits)

-- the words after each of the atoms is told
abbrev pub tell_atoms : List NetCell → List Atom → List ℕ → List ℕ
tell_atoms cells [] words = words
tell_atoms cells (a ∷ atoms) words = tell_atoms cells atoms (tell_word words (told_of cells a))

-- PARTS, of which the first s are signals'

-- in this way part q can be told: that of a signal by setting bits
abbrev pub JoinsParts : ℕ → ℕ → How → Type 0
JoinsParts s q how = q < s → how ≡ Or

-- and these bits in this way: two to a signal
abbrev pub FitsPart : ℕ → ℕ → How → ℕ → Type 0
FitsPart s q how bits = q < s → (how ≡ Or) × (bits < 4)

-- the words after bits are told to part q
abbrev pub tell_part : ℕ → How → List ℕ → ℕ → ℕ → List ℕ
tell_part s how words q bits = tell_word words (told_to (word_of s q) how (bits_of s q bits))

-- STORES

-- the words after these tokens of the cell are told
abbrev pub tell_tokens : NetCell → List Token → List ℕ → List ℕ
tell_tokens c [] words = words
tell_tokens c (t ∷ ts) words = tell_tokens c ts (tell_word words (told_as c t))

-- the words after the store's value of each of the cells is told
abbrev pub tell_store : StoreMap → List NetCell → List ℕ → List ℕ
tell_store s [] words = words
tell_store s (c ∷ cells) words = tell_store s cells (tell_tokens c (value_tokens (value_at s c.name c.cell)) words)

-- the words of which the store is told, and nothing else
abbrev pub store_words : List NetCell → StoreMap → List ℕ
store_words cells s = tell_store s cells (empty_words cells)
