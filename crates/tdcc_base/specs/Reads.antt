-- The reads of a source that one call makes, one after another. This project's own.
use Rattle.std.specs.Prelude.{◌≡◌, ℕ, ◌<◌, Bool, true, false, List, [], ◌∷◌, ◌++◌, length, take, Option, Some, Result, Ok, Err}
use Rattle.tdcc_base.specs.declared.outside.Failed.{Failed}
use Rattle.tdcc_base.specs.declared.read_ahead.ReadAhead.{ReadAhead}
use Rattle.tdcc_base.specs.declared.stops.LineEnd.{LineEnd}
use Rattle.tdcc_base.specs.declared.stops.LineEnd.TheVariants as line_ends
use Rattle.tdcc_base.specs.declared.stops.TextEnd.{TextEnd}
use Rattle.tdcc_base.specs.declared.stops.TextEnd.TheVariants as text_ends
use Rattle.tdcc_base.specs.declared.stops.ReadStop.{ReadStop}
use Rattle.tdcc_base.specs.declared.stops.ReadStop.TheVariants as stops
use Rattle.tdcc_base.specs.Limits.{read_size}
use Rattle.tdcc_base.specs.Lines.{HasNoFeed, IsOpenLine, ReadsLine}
use Rattle.tdcc_base.specs.Texts.{is_mark, IsTextSoFar, ReadsText}
use Rattle.tdcc_base.specs.Unread.{pending, Gave}

-- what one read may do: the source before it, the bytes that it was lent as they are after it, its answer, and the source after it
abbrev pub ReadRule : Type 0 → Type 1
ReadRule S = S → List ℕ → Result ℕ Failed → S → Type 0

-- a read that asked for as many bytes as every read was answered so
pub record MakesRead {S : Type 0} (gives : ReadRule S) (old : S) (answer : Result ℕ Failed) (new : S) : Type 0 where
  pub lent : List ℕ
  pub size : length lent ≡ read_size
  pub gave : gives old lent answer new

-- a read that asked for as many bytes as every read gave these, of which there are some
pub record GivesPiece {S : Type 0} (gives : ReadRule S) (old : S) (piece : List ℕ) (new : S) : Type 0 where
  pub lent : List ℕ
  pub size : length lent ≡ read_size
  pub front : piece ≡ take (length piece) lent
  pub some : 0 < length piece
  pub gave : gives old lent (Ok (length piece)) new

-- reads gave these pieces one after another, of which the latest stands first
abbrev pub GivesPieces : {S : Type 0} → ReadRule S → S → List (List ℕ) → S → Type 0
GivesPieces gives old [] new = new ≡ old
GivesPieces {S = S} gives old (piece ∷ pieces) new = (mid : S) × GivesPieces gives old pieces mid × GivesPiece gives mid piece new

-- the bytes of the pieces, of which the latest stands first
abbrev pub bytes_given : List (List ℕ) → List ℕ
bytes_given [] = []
bytes_given (piece ∷ pieces) = bytes_given pieces ++ piece

-- the latest of the reads was made where the bytes held before, and those that the other reads gave, fell short
abbrev pub WasNeeded : (List ℕ → Type 0) → List ℕ → List (List ℕ) → Type 0
WasNeeded FallsShort held [] = Unit {0}
WasNeeded FallsShort held (piece ∷ pieces) = FallsShort (held ++ bytes_given pieces)

-- The read that gave no bytes. Where the source ended in the call, or the call answers a fault, there was one, and it was
-- needed. Else there was none; nor was there after the end of the source.
abbrev pub LastRead : {S : Type 0} → ReadRule S → Type 0 → Bool → Bool → Bool → S → S → Type 0
LastRead gives Needed true ended fails old new = new ≡ old
LastRead gives Needed false true fails old new = MakesRead gives old (Ok 0) new × Needed
LastRead gives Needed false false true old new = ((e : Failed) × MakesRead gives old (Err e) new) × Needed
LastRead gives Needed false false false old new = new ≡ old

-- The reads of one call: some that gave bytes, and behind them at most one that gave none. Each was made only where what
-- was held before the call, and what the reads before it gave, fell short. Of all this was taken so, but for what is held.
pub record ReadsOf {S : Type 0} (gives : ReadRule S) (FallsShort : List ℕ → Type 0) (Takes : List ℕ → List ℕ → Type 0)
    (before after : ReadAhead) (fails : Bool) (old new : S) : Type 0 where
  pub pieces : List (List ℕ)
  pub last : S
  pub given : GivesPieces gives old pieces last
  pub needed : WasNeeded FallsShort (pending before) pieces
  pub ending : LastRead gives (FallsShort (pending before ++ bytes_given pieces)) before.ended after.ended fails last new
  pub takes : Takes (pending before ++ bytes_given pieces) (pending after)

-- whether the answer is that the source failed
abbrev pub is_read_fault : {T : Type 0} → Result T ReadStop → Bool
is_read_fault (Ok value) = false
is_read_fault (Err stops.TooLong) = false
is_read_fault (Err stops.Read) = true

-- there are no bytes
abbrev pub IsNothing : List ℕ → Type 0
IsNothing bytes = bytes ≡ []

-- the next of the bytes was handed out, or there was none; at a fault they stay
abbrev pub HandsOut : {E : Type 0} → Result (Option ℕ) E → List ℕ → List ℕ → Type 0
HandsOut (Ok byte) bytes left = Gave byte (Some bytes) (Some left)
HandsOut (Err e) bytes left = left ≡ bytes

-- the line that was read was taken with its line feed, unless the source has ended
abbrev pub TakesFeed : Result LineEnd ReadStop → Bool → List ℕ → List ℕ → List ℕ → Type 0
TakesFeed (Ok line_ends.Line) false line bytes left = bytes ≡ line ++ 10 ∷ left
TakesFeed _ _ line bytes left = Unit {0}

-- the text that was read was taken with the mark behind it and the mark's line feed, unless the source has ended
abbrev pub TakesMark : Result TextEnd ReadStop → Bool → List ℕ → List ℕ → List ℕ → Type 0
TakesMark (Ok text_ends.Mark) false text bytes left = (mark : List ℕ) × HasNoFeed mark × (is_mark mark ≡ true) × (bytes ≡ text ++ mark ++ 10 ∷ left)
TakesMark _ _ text bytes left = Unit {0}

-- The reads for a line: none where a line feed, or more than a line may have, stands in what is there already. The line
-- is the next of what was held and what was read.
abbrev pub ReadsForLine : {S : Type 0} → ReadRule S → ℕ → List ℕ → Result LineEnd ReadStop → ReadAhead → ReadAhead → S → S → Type 0
ReadsForLine gives limit line result before after old new =
    ReadsOf gives (IsOpenLine limit)
    (λ bytes left. ReadsLine limit (Some bytes) (Some left) line result × TakesFeed result after.ended line bytes left)
    before after (is_read_fault result) old new

-- The reads for a text: none where a mark with its line feed, or more than a text may have, stands in what is there
-- already. The text is that of what was held and what was read.
abbrev pub ReadsForText : {S : Type 0} → ReadRule S → List ℕ → Result TextEnd ReadStop → ReadAhead → ReadAhead → S → S → Type 0
ReadsForText gives text result before after old new =
    ReadsOf gives IsTextSoFar
    (λ bytes left. ReadsText (Some bytes) (Some left) text result × TakesMark result after.ended text bytes left)
    before after (is_read_fault result) old new
