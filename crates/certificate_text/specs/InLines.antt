-- The `in` lines of entries: the line of an input behind its word, and which input a line gives. This project's own.
use Rattle.std.specs.Prelude.{◌≡◌, ℕ, ◌≤◌, Bool, true, false, List, [], ◌∷◌, ◌++◌, length, codes}
use Rattle.std.specs.FinMap.{empty}
use Rattle.token_system.specs.Stores.{StoreMap}
use Rattle.agent_core.specs.Agents.{Constraint}
use Rattle.agent_core.specs.Programs.{CoreProgram}
use Rattle.trace_text.specs.Fields.{Field, fields}
use Rattle.trace_text.specs.Inputs.{Denotes}
use Rattle.trace_text.specs.StoreLines.{store_line}
use Rattle.trace_text.specs.Tellings.{TellsFields}
use Rattle.certificate_text.specs.Limits.{longest_entry_line}
use Rattle.certificate_text.specs.BadPlaces.{IsBadAt}

-- a word and, behind one space, a line, where that has bytes
abbrev pub line_behind : List ℕ → List ℕ → List ℕ
line_behind word [] = word
line_behind word (b ∷ bytes) = word ++ codes " " ++ b ∷ bytes

-- the word, and the line of the store behind it
abbrev pub in_line : CoreProgram → StoreMap → List ℕ
in_line p i = line_behind (codes "in") (store_line p i)

-- the bytes say tokens of a declared cell
abbrev pub SaysTokens : CoreProgram → List ℕ → Type 0
SaysTokens p bytes = (tokens : Constraint) × Denotes p bytes tokens

-- the fields are the word, fields that say tokens of declared cells, and those that are left, and the store is what these tokens tell
pub record TellsBehindWord (p : CoreProgram) (all : List Field) (i : StoreMap) (left : List Field) : Type 0 where
  pub word : Field
  pub behind : List Field
  pub parts : all ≡ word ∷ (behind ++ left)
  pub is_word : word.bytes ≡ codes "in"
  pub told : TellsFields p behind empty i

-- the line is within the limit of bytes and gives the input: the word and then tokens, which tell it
pub record GivesEntryInput (p : CoreProgram) (line : List ℕ) (i : StoreMap) : Type 0 where
  pub short : length line ≤ longest_entry_line
  pub told : TellsBehindWord p (fields line) i []

-- the line is bad at this place
abbrev pub IsInputBadAt : CoreProgram → List ℕ → ℕ → Type 0
IsInputBadAt p line place = IsBadAt (codes "in") (SaysTokens p) line place

-- how far the fields are read: none of them yet, or the word and what stands before those that are left
abbrev pub IsReadUpTo : CoreProgram → List Field → Bool → StoreMap → List Field → Type 0
IsReadUpTo p all false i left = (all ≡ left) × (i ≡ empty)
IsReadUpTo p all true i left = TellsBehindWord p all i left
