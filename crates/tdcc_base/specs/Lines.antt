-- Lines of bytes. A line ends with a line feed, or with the bytes. This project's own.
use Rattle.std.specs.Prelude.{◌≡◌, ◌≢◌, ◌⊎◌, ℕ, ◌<◌, ◌≤◌, ◌==◌, if◌then◌else◌, List, [], ◌∷◌, ◌++◌, All, length, Option, Some, None, Result, Ok, Err}
use Rattle.std.specs.Io.KnownBytes.{Consumes}
use Rattle.tdcc_base.specs.declared.stops.LineEnd.{LineEnd}
use Rattle.tdcc_base.specs.declared.stops.LineEnd.TheVariants as ends
use Rattle.tdcc_base.specs.declared.stops.ReadStop.{ReadStop}
use Rattle.tdcc_base.specs.declared.stops.ReadStop.TheVariants as stops

-- no line feed stands in the bytes
abbrev pub HasNoFeed : List ℕ → Type 0
HasNoFeed bytes = All (λ byte. byte ≢ 10) bytes

-- bytes of one line, which may have so many: its line feed is not among them
pub record IsOpenLine (room : ℕ) (bytes : List ℕ) : Type 0 where
  pub no_feed : HasNoFeed bytes
  pub fits : length bytes ≤ room

-- the line and its line feed stand before the rest, or the line is not empty and the last
abbrev pub BeginsWithLine : List ℕ → List ℕ → List ℕ → Type 0
BeginsWithLine bytes line rest = HasNoFeed line × ((bytes ≡ line ++ 10 ∷ rest) ⊎ ((bytes ≡ line) × (line ≢ []) × (rest ≡ [])))

-- the bytes before the first line feed, or all of them
abbrev pub first_line : List ℕ → List ℕ
first_line [] = []
first_line (b ∷ bytes) = if b == 10 then [] else b ∷ first_line bytes

-- the bytes after the first line feed
abbrev pub after_line : List ℕ → List ℕ
after_line [] = []
after_line (b ∷ bytes) = if b == 10 then bytes else after_line bytes

-- the lines, where the first of them is longer by a byte at its start
abbrev pub onto_first : ℕ → List (List ℕ) → List (List ℕ)
onto_first b [] = (b ∷ []) ∷ []
onto_first b (line ∷ lines) = (b ∷ line) ∷ lines

-- the lines without their line feeds; a last one without a line feed counts where it is not empty
abbrev pub lines_of : List ℕ → List (List ℕ)
lines_of [] = []
lines_of (b ∷ bytes) = if b == 10 then [] ∷ lines_of bytes else onto_first b (lines_of bytes)

-- the first line of the bytes, and what follows it
pub record IsFirstLine (bytes line rest : List ℕ) : Type 0 where
  pub begins : BeginsWithLine bytes line rest
  pub is_first : line ≡ first_line bytes
  pub is_after : rest ≡ after_line bytes
  pub lines : lines_of bytes ≡ line ∷ lines_of rest

-- these bytes were taken, and at most one more
abbrev pub ConsumesOneMore : Option (List ℕ) → Option (List ℕ) → List ℕ → Type 0
ConsumesOneMore old new bytes = (more : List ℕ) × (length more ≤ 1) × Consumes old new (bytes ++ more)

-- A line was read that may have so many bytes, where the bytes are known. After a fault a prefix of the line was taken,
-- and no more.
abbrev pub ReadsLine : ℕ → Option (List ℕ) → Option (List ℕ) → List ℕ → Result LineEnd ReadStop → Type 0
ReadsLine limit None new line result = Unit {0}
ReadsLine limit (Some bytes) new line (Ok ends.Line) = (rest : List ℕ) × IsFirstLine bytes line rest × (length line ≤ limit) × (new ≡ Some rest)
ReadsLine limit (Some bytes) new line (Ok ends.End) = (bytes ≡ []) × (new ≡ Some [])
ReadsLine limit (Some bytes) new line (Err stops.TooLong) = (limit < length (first_line bytes)) × ConsumesOneMore (Some bytes) new line
ReadsLine limit (Some bytes) new line (Err stops.Read) = Consumes (Some bytes) new line × HasNoFeed line
