-- Where a line of an entry is bad: at the first of its fields that does not read. This project's own.
use Rattle.std.specs.Prelude.{◌≡◌, ◌≢◌, ℕ, ◌<◌, ◌≤◌, List, [], ◌∷◌, ◌++◌, length}
use Rattle.agent_core.specs.Strata.{Each}
use Rattle.trace_text.specs.Fields.{Field, fields}
use Rattle.certificate_text.specs.Limits.{longest_entry_line}
use Rattle.certificate_text.specs.declared.fault.EntryLineFault.{EntryLineFault}
use Rattle.certificate_text.specs.declared.fault.EntryLineFault.TheVariants.{Bad, Memory}

-- The first of these fields that does not read stands at this place, where the first is to be the word and each later one is to be as it has to be. Where there is none the place is 0.
pub data IsFirstUnread (word : List ℕ) (Reads : List ℕ → Type 0) (all : List Field) (place : ℕ) : Type 0 where
  no_field : all ≡ [] → place ≡ 0 → IsFirstUnread word Reads all place
  other_word : (first : Field) (later : List Field) → all ≡ first ∷ later → first.bytes ≢ word → place ≡ first.offset → IsFirstUnread word Reads all place
  later_field : (first : Field) (before : List Field) (field : Field) (after : List Field) → all ≡ first ∷ (before ++ field ∷ after) → first.bytes ≡ word
      → Each (λ f. Reads f.bytes) before → ¬ (Reads field.bytes) → place ≡ field.offset → IsFirstUnread word Reads all place

-- the place at which a line is bad: its first field that does not read, and behind the longest line where it is longer
pub data IsBadAt (word : List ℕ) (Reads : List ℕ → Type 0) (line : List ℕ) (place : ℕ) : Type 0 where
  long : longest_entry_line < length line → place ≡ longest_entry_line → IsBadAt word Reads line place
  unread : length line ≤ longest_entry_line → IsFirstUnread word Reads (fields line) place → IsBadAt word Reads line place

-- the fault is bad at one of these places; out of memory is at none
abbrev pub IsFaultAt : (ℕ → Type 0) → EntryLineFault → Type 0
IsFaultAt IsPlace (Bad offset) = IsPlace offset
IsFaultAt IsPlace Memory = Unit {0}
