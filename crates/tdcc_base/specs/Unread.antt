-- What was read of a source and is not handed out yet. This project's own.
use Rattle.std.specs.Prelude.{◌≡◌, ◌≢◌, ℕ, ◌-◌, true, false, List, [], ◌∷◌, ◌++◌, length, take, drop, Option, Some, None, Result, Ok, Err}
use Rattle.std.specs.Bool.{OnTrue}
use Rattle.std.specs.Io.KnownBytes.{prepend_known, Keeps, Consumes, IsAtEnd}
use Rattle.tdcc_base.specs.declared.read_ahead.ReadAhead.{ReadAhead}
use Rattle.tdcc_base.specs.declared.read_ahead.LineBreak.{LineBreak}
use Rattle.tdcc_base.specs.declared.read_ahead.LineBreak.TheVariants as breaks
use Rattle.tdcc_base.specs.declared.stops.ReadStop.{ReadStop}
use Rattle.tdcc_base.specs.declared.stops.ReadStop.TheVariants as stops
use Rattle.tdcc_base.specs.Lines.{HasNoFeed}

-- the bytes that were read and are not handed out
abbrev pub pending : ReadAhead → List ℕ
pending ahead = take (ahead.to - ahead.from) (drop ahead.from ahead.chunk.items)

-- and then those that the source has left
abbrev pub unread : {S : Type 0} → (S → Option (List ℕ)) → ReadAhead → S → Option (List ℕ)
unread left ahead source = prepend_known (pending ahead) (left source)

-- after the end of the source nothing is left in it
abbrev pub IsReady : {S : Type 0} → (S → Option (List ℕ)) → ReadAhead → S → Type 0
IsReady left ahead source = OnTrue ahead.ended (IsAtEnd (left source))

-- after the end of the source it is not read again
abbrev pub StaysEnded : {S : Type 0} → ReadAhead → ReadAhead → S → S → Type 0
StaysEnded old new source_old source_new = old.ended ≡ true → (new.ended ≡ true) × (source_new ≡ source_old)

-- the source has ended, and all of it was handed out
pub record IsOver (ahead : ReadAhead) : Type 0 where
  pub ended : ahead.ended ≡ true
  pub none : pending ahead ≡ []

-- the source has not ended, and all that it gave was handed out
pub record IsDrained (ahead : ReadAhead) : Type 0 where
  pub going_on : ahead.ended ≡ false
  pub none : pending ahead ≡ []

-- the next byte was handed out, or there was none
abbrev pub Gave : Option ℕ → Option (List ℕ) → Option (List ℕ) → Type 0
Gave None old new = IsAtEnd new × Keeps old new
Gave (Some byte) old new = Consumes old new (byte ∷ [])

-- what was taken for these bytes of a line, of which there may be as many as the limit allows
abbrev pub TakesLine : Option (List ℕ) → Option (List ℕ) → List ℕ → Type 0 → Result LineBreak ReadStop → Type 0
TakesLine old new line IsFull (Ok breaks.Feed) = Consumes old new (line ++ 10 ∷ [])
TakesLine old new line IsFull (Ok breaks.End) = Consumes old new line × IsAtEnd new
TakesLine old new line IsFull (Err stops.Read) = Consumes old new line
TakesLine old new line IsFull (Err stops.TooLong) = (byte : ℕ) × (byte ≢ 10) × Consumes old new (line ++ byte ∷ []) × IsFull

-- bytes of the line at hand were taken, and stand behind the bytes before
pub record AppendsLine (old new : Option (List ℕ)) (before after : List ℕ) (limit : ℕ) (result : Result LineBreak ReadStop) : Type 0 where
  pub line : List ℕ
  pub appended : after ≡ before ++ line
  pub no_feed : HasNoFeed line
  pub taken : TakesLine old new line (length after ≡ limit) result
