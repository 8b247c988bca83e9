-- The program text and the trace: what lies before and after the first line that is a mark. This project's own.
use Rattle.std.specs.Prelude.{◌≡◌, ◌⊎◌, ℕ, ◌<◌, ◌≤◌, ◌==◌, Bool, true, false, ◌&&◌, if◌then◌else◌, List, [], ◌∷◌, ◌++◌, All, length, Option, Some, None, Result, Ok, Err}
use Rattle.std.specs.Io.KnownBytes.{Consumes}
use Rattle.tdcc_base.specs.declared.stops.TextEnd.{TextEnd}
use Rattle.tdcc_base.specs.declared.stops.TextEnd.TheVariants as ends
use Rattle.tdcc_base.specs.declared.stops.ReadStop.{ReadStop}
use Rattle.tdcc_base.specs.declared.stops.ReadStop.TheVariants as stops
use Rattle.tdcc_base.specs.Limits.{longest_text, room_for_text}
use Rattle.tdcc_base.specs.Lines.{HasNoFeed, first_line, after_line, lines_of, ConsumesOneMore}

-- two percent signs, and it may be a carriage return
abbrev pub is_mark : List ℕ → Bool
is_mark (a ∷ b ∷ []) = (a == 37) && (b == 37)
is_mark (a ∷ b ∷ c ∷ []) = (a == 37) && (b == 37) && (c == 13)
is_mark _ = false

-- none of the lines of the bytes is a mark
abbrev pub HasNoMark : List ℕ → Type 0
HasNoMark bytes = All (λ line. is_mark line ≡ false) (lines_of bytes)

-- no bytes, or bytes that end with a line feed
abbrev pub AreWholeLines : List ℕ → Type 0
AreWholeLines bytes = (bytes ≡ []) ⊎ ((front : List ℕ) × (bytes ≡ front ++ 10 ∷ []))

-- the bytes are whole lines of text, a mark with or without its line feed, and the trace
pub record HasMarkAfter (bytes text trace : List ℕ) : Type 0 where
  pub mark : List ℕ
  pub is_mark : is_mark mark ≡ true
  pub whole : AreWholeLines text
  pub no_mark : HasNoMark text
  pub split : (bytes ≡ text ++ mark ++ 10 ∷ trace) ⊎ ((bytes ≡ text ++ mark) × (trace ≡ []))

-- the text that ends so, and the trace behind it, of these bytes
abbrev pub Splits : TextEnd → List ℕ → List ℕ → List ℕ → Type 0
Splits ends.Mark bytes text trace = HasMarkAfter bytes text trace
Splits ends.End bytes text trace = (text ≡ bytes) × (trace ≡ []) × HasNoMark bytes

-- what an input is split into
pub record Split : Type 0 where
  pub text : List ℕ
  pub trace : List ℕ
  pub end : TextEnd

-- the split of an input in which these bytes of text stand before the others
abbrev pub behind : List ℕ → Split → Split
behind bytes split = record { text = bytes ++ split.text; trace = split.trace; end = split.end }

-- the split at the first line that is a mark, or at the end; `start` says whether a line begins here
abbrev pub split_from : Bool → List ℕ → Split
split_from start [] = record { text = []; trace = []; end = ends.End }
split_from start (b ∷ bytes) =
    if start && is_mark (first_line (b ∷ bytes))
    then record { text = []; trace = after_line (b ∷ bytes); end = ends.Mark }
    else behind (b ∷ []) (split_from (b == 10) bytes)

-- the program text of an input: the bytes before its first line that is a mark, or all bytes
abbrev pub program_text_of : List ℕ → List ℕ
program_text_of bytes = (split_from true bytes).text

-- the trace of an input: the bytes after that line
abbrev pub trace_of : List ℕ → List ℕ
trace_of bytes = (split_from true bytes).trace

-- whether an input has such a line
abbrev pub end_of : List ℕ → TextEnd
end_of bytes = (split_from true bytes).end

-- the text of the bytes was read, and the trace is left
pub record IsTextRead (bytes : List ℕ) (new : Option (List ℕ)) (text : List ℕ) (end : TextEnd) : Type 0 where
  pub splits : Splits end bytes text (trace_of bytes)
  pub is_text : text ≡ program_text_of bytes
  pub trace : new ≡ Some (trace_of bytes)
  pub is_end : end ≡ end_of bytes
  pub short : length text ≤ longest_text

-- whole lines of which none is a mark, and a prefix of the line behind them; no more than a text and a mark may have
pub record IsTextSoFar (bytes : List ℕ) : Type 0 where
  pub lines : List ℕ
  pub part : List ℕ
  pub split : bytes ≡ lines ++ part
  pub whole : AreWholeLines lines
  pub no_mark : HasNoMark lines
  pub no_feed : HasNoFeed part
  pub fits : length bytes ≤ room_for_text

-- A text was read, where the bytes are known. After a fault a prefix of the bytes was taken, and no more.
abbrev pub ReadsText : Option (List ℕ) → Option (List ℕ) → List ℕ → Result TextEnd ReadStop → Type 0
ReadsText None new text result = Unit {0}
ReadsText (Some bytes) new text (Ok end) = IsTextRead bytes new text end
ReadsText (Some bytes) new text (Err stops.TooLong) = (longest_text < length (program_text_of bytes)) × ConsumesOneMore (Some bytes) new text
ReadsText (Some bytes) new text (Err stops.Read) = Consumes (Some bytes) new text × IsTextSoFar text
