-- What `Lines` are over: a source, and what was read of it. This project's own.
use Rattle.std.specs.Prelude.{◌≡◌, ℕ, Bool, false, List, [], Option, None, Result}
use Rattle.std.specs.Borrow.{GName}
use Rattle.tdcc_base.specs.declared.stops.LineEnd.{LineEnd}
use Rattle.tdcc_base.specs.declared.stops.TextEnd.{TextEnd}
use Rattle.tdcc_base.specs.declared.stops.ReadStop.{ReadStop}
use Rattle.tdcc_base.specs.declared.buffers.Buffers.{Buffers}
use Rattle.tdcc_base.specs.declared.lines.Lines.{Lines}
use Rattle.tdcc_base.specs.Reads.{ReadRule, ReadsOf, ReadsForLine, ReadsForText}
use Rattle.tdcc_base.specs.Unread.{pending, unread, IsReady, IsOver, IsDrained, StaysEnded}

-- nothing was read into the buffers yet
pub record IsUnused (buffers : Buffers) : Type 0 where
  pub unused : IsDrained buffers.ahead
  pub no_stop : buffers.stop ≡ None
  pub no_text : buffers.text.items ≡ []

-- the source, as it stands
abbrev pub source_of : {S : Type 0} → Lines S Buffers → S
source_of lines = lines.source.now

-- which reference the lines hold
abbrev pub reference_of : {S : Type 0} → Lines S Buffers → GName
reference_of lines = lines.source.ghost_name

-- the bytes that are not yet handed out: those that were read ahead, and those that the source has left
abbrev pub waiting : {S : Type 0} → (S → Option (List ℕ)) → Lines S Buffers → Option (List ℕ)
waiting left lines = unread left lines.buffers.ahead lines.source.now

-- the bytes that were taken from the source and are not yet handed out
abbrev pub held_back : {S : Type 0} → Lines S Buffers → List ℕ
held_back lines = pending lines.buffers.ahead

-- the text that was read
abbrev pub text_read : {S : Type 0} → Lines S Buffers → List ℕ
text_read lines = lines.buffers.text.items

-- the line that was read last
abbrev pub line_read : {S : Type 0} → Lines S Buffers → List ℕ
line_read lines = lines.buffers.line.items

-- how many bytes a line may have
abbrev pub limit_of : {S : Type 0} → Lines S Buffers → ℕ
limit_of lines = lines.buffers.limit

-- the stop that was answered
abbrev pub stop_of : {S : Type 0} → Lines S Buffers → Option ReadStop
stop_of lines = lines.buffers.stop

-- nothing is left in a source that has ended
abbrev pub LinesReady : {S : Type 0} → (S → Option (List ℕ)) → Lines S Buffers → Type 0
LinesReady left lines = IsReady left lines.buffers.ahead lines.source.now

-- the source has ended, and all of it was handed out
abbrev pub AtEnd : {S : Type 0} → Lines S Buffers → Type 0
AtEnd lines = IsOver lines.buffers.ahead

-- the source has not answered that it is at its end
abbrev pub HasNotEnded : {S : Type 0} → Lines S Buffers → Type 0
HasNotEnded lines = lines.buffers.ahead.ended ≡ false

-- nothing is held back: what waits is what the source has left
abbrev pub HoldsNothingBack : {S : Type 0} → (S → Option (List ℕ)) → Lines S Buffers → Type 0
HoldsNothingBack left lines = waiting left lines ≡ left lines.source.now

-- once the source has ended it is not read again
abbrev pub ReadsNoMoreAfterEnd : {S : Type 0} → Lines S Buffers → Lines S Buffers → Type 0
ReadsNoMoreAfterEnd old new = StaysEnded old.buffers.ahead new.buffers.ahead old.source.now new.source.now

-- nothing was read yet
pub record IsFirst {S : Type 0} (left : S → Option (List ℕ)) (lines : Lines S Buffers) : Type 0 where
  pub ready : LinesReady left lines
  pub fresh : IsUnused lines.buffers

-- the lines are over this source, of which nothing was read
pub record Opens {S : Type 0} (left : S → Option (List ℕ)) (source : S) (lines : Lines S Buffers) : Type 0 where
  pub same : source_of lines ≡ source
  pub first : IsFirst left lines
  pub all : waiting left lines ≡ left source

-- the reads of a call that reads a line and answers so, by the rule for one read
abbrev pub MakesLineReads : {S : Type 0} → ReadRule S → Lines S Buffers → Lines S Buffers → Result LineEnd ReadStop → Type 0
MakesLineReads gives old new result =
    ReadsForLine gives (limit_of old) (line_read new) result old.buffers.ahead new.buffers.ahead
    (source_of old) (source_of new)

-- the reads of a call that reads a text and answers so
abbrev pub MakesTextReads : {S : Type 0} → ReadRule S → Lines S Buffers → Lines S Buffers → Result TextEnd ReadStop → Type 0
MakesTextReads gives old new result =
    ReadsForText gives (text_read new) result old.buffers.ahead new.buffers.ahead (source_of old) (source_of new)

-- The reads of several calls together, of which the last says whether the source failed: each was made only where the
-- bytes that were held before, and those of the reads before it, left this open.
abbrev pub ReadsWhile : {S : Type 0} → ReadRule S → (List ℕ → Type 0) → Bool → Lines S Buffers → Lines S Buffers → Type 0
ReadsWhile gives Open fails old new =
    ReadsOf gives Open (λ bytes left. Unit {0}) old.buffers.ahead new.buffers.ahead fails (source_of old) (source_of new)
