-- A net by the numbers of its words and leaves: what each leaf tells, and what words run it. This project's own.
use Rattle.std.specs.Prelude.{ℕ, ◌<◌, List, length, slice_get, slice_index, slice_index_or}
use Rattle.token_system.specs.declared.cell.Token.TheVariants.{Clash}
use Rattle.instant_net.specs.declared.parts.Atom.{Atom}
use Rattle.instant_net.specs.declared.parts.NetLeaf.{NetLeaf}
use Rattle.instant_net.specs.declared.words.How.{How}
use Rattle.instant_net.specs.declared.words.Told.{Told}
use Rattle.instant_net.specs.Nets.{Flat}
use Rattle.instant_net.specs.Opened.{IsNet}
use Rattle.instant_net.specs.Readers as readers
use Rattle.instant_net.specs.Words.{Lies, hows, signals, store_in, told_of}
use Rattle.instant_net.specs.WordParts.{part_at}
use Rattle.net_laws.specs.WordsBelow.{WordsBelow, how_at}
use Rattle.net_laws.specs.FinalWords.{RunsLeaf}

-- how many store words there are
abbrev pub width : Flat → ℕ
width net = length (hows net.cells)

abbrev pub how_of : Flat → ℕ → How
how_of net word = how_at net.cells word

abbrev pub IsWordsBelow : Flat → List ℕ → List ℕ → Type 0
IsWordsBelow net xs ys = WordsBelow net.cells xs ys

-- what the words have in part q
abbrev pub part_in : Flat → List ℕ → ℕ → ℕ
part_in net words q = part_at (signals net.cells) words q

-- what a leaf tells
abbrev pub tells_at : Flat → ℕ → List Atom
tells_at net leaf = readers.leaf_tells_of (slice_get net.leaves leaf)

-- how much it tells
abbrev pub tells_count : Flat → ℕ → ℕ
tells_count net leaf = length (tells_at net leaf)

abbrev pub atom_at : Flat → ℕ → ℕ → Atom
atom_at net leaf k = slice_index_or (tells_at net leaf) k (record { cell = 0; token = Clash })

abbrev pub told_at : Flat → ℕ → ℕ → Told
told_at net leaf k = told_of net.cells (atom_at net leaf k)

-- the word of a leaf's token, and the bits that are told to it
abbrev pub word_and_bits : Flat → ℕ → ℕ → ℕ × ℕ
word_and_bits net leaf k = ((told_at net leaf k).word, (told_at net leaf k).bits)

-- the stratum of a leaf's token: that of its cell
abbrev pub told_stratum : Flat → ℕ → ℕ → ℕ
told_stratum net leaf k = readers.stratum_of (slice_get net.cells (atom_at net leaf k).cell)

-- the leaf tells something of a stratum below p
abbrev pub IsLow : Flat → ℕ → ℕ → Type 0
IsLow net p leaf = (j : ℕ) × (j < tells_count net leaf) × (told_stratum net leaf j < p)

-- the bits lie in the words
abbrev pub Entails : Flat → List ℕ → ℕ × ℕ → Type 0
Entails net words a = Lies (how_of net a.0) a.1 (slice_index words a.0)

-- the words, as final ones, run the leaf
pub record Runs (net : Flat) (words : List ℕ) (leaf : ℕ) : Type 0 where
  pub leaf_is : NetLeaf
  pub is : RunsLeaf net (store_in net.cells words) leaf leaf_is

-- the net is some program's, so each token of each leaf names a store word
pub record TellsWords (net : Flat) : Type 0 where
  pub net_is : IsNet net
  pub tells : (leaf k : ℕ) → k < length (tells_at net leaf) → (word_and_bits net leaf k).0 < width net
