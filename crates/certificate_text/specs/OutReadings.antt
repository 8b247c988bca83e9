-- The `out` lines of entries as they are read: which store a line gives. This project's own.
use Rattle.std.specs.Prelude.{◌≡◌, ◌⊎◌, ℕ, ◌≤◌, Bool, true, false, List, [], ◌∷◌, ◌++◌, length, codes, Option, Some}
use Rattle.std.specs.FinMap.{empty, get}
use Rattle.token_system.specs.declared.cell.Cell.{Cell}
use Rattle.token_system.specs.declared.cell.Token.{Token}
use Rattle.token_system.specs.declared.cell.Value.{Value}
use Rattle.token_system.specs.declared.name.CellName.{CellName}
use Rattle.token_system.specs.Stores.{StoreMap}
use Rattle.agent_core.specs.Programs.{CoreProgram}
use Rattle.agent_core.specs.Stores.{IsStore}
use Rattle.trace_text.specs.Fields.{Field, fields}
use Rattle.trace_text.specs.Tellings.{TellsField}
use Rattle.certificate_text.specs.Limits.{longest_entry_line}
use Rattle.certificate_text.specs.BadPlaces.{IsBadAt}
use Rattle.certificate_text.specs.InLines.{SaysTokens}
use Rattle.certificate_text.specs.LocalCells.{IsBornBy, IsSaidOfLocal, told_both}

-- the bytes say tokens of a local cell that there can be at instant t
abbrev pub SaysOfLocal : CoreProgram → ℕ → List ℕ → Type 0
SaysOfLocal p t bytes = (name : CellName) × (c : Cell) × (first : Token) × (second : Option Token) × IsSaidOfLocal p t bytes name c first second

-- the bytes say tokens of a cell, be it declared or local
abbrev pub SaysOut : CoreProgram → ℕ → List ℕ → Type 0
SaysOut p t bytes = SaysTokens p bytes ⊎ SaysOfLocal p t bytes

-- the bytes say tokens of a cell, and these are told
pub data TellsOut (p : CoreProgram) (t : ℕ) (bytes : List ℕ) (old new : StoreMap) : Type 0 where
  of_declared : TellsField p bytes old new → TellsOut p t bytes old new
  of_local : (name : CellName) (c : Cell) (first : Token) (second : Option Token) → IsSaidOfLocal p t bytes name c first second
      → new ≡ told_both name c first second old → TellsOut p t bytes old new

-- each of the texts says tokens of a cell, and these are told in order
abbrev pub TellTexts : CoreProgram → ℕ → List (List ℕ) → StoreMap → StoreMap → Type 0
TellTexts p t [] old new = new ≡ old
TellTexts p t (text ∷ later) old new = (between : StoreMap) × TellsOut p t text old between × TellTexts p t later between new

-- what stands in the fields
abbrev pub texts_in : List Field → List (List ℕ)
texts_in [] = []
texts_in (field ∷ later) = field.bytes ∷ texts_in later

-- the fields are the word, fields that say tokens of cells, and those that are left, and the store is what these tokens tell
pub record TellsBehindOut (p : CoreProgram) (t : ℕ) (all : List Field) (v : StoreMap) (left : List Field) : Type 0 where
  pub word : Field
  pub behind : List Field
  pub parts : all ≡ word ∷ (behind ++ left)
  pub is_word : word.bytes ≡ codes "out"
  pub told : TellTexts p t (texts_in behind) empty v

-- the line is within the limit of bytes and gives the store: the word and then tokens, which tell it
pub record GivesOut (p : CoreProgram) (t : ℕ) (line : List ℕ) (v : StoreMap) : Type 0 where
  pub short : length line ≤ longest_entry_line
  pub told : TellsBehindOut p t (fields line) v []

-- the line is bad at this place
abbrev pub IsOutBadAt : CoreProgram → ℕ → List ℕ → ℕ → Type 0
IsOutBadAt p t line place = IsBadAt (codes "out") (SaysOut p t) line place

-- how far the fields are read: none of them yet, or the word and what stands before those that are left
abbrev pub IsOutReadUpTo : CoreProgram → ℕ → List Field → Bool → StoreMap → List Field → Type 0
IsOutReadUpTo p t all false v left = (all ≡ left) × (v ≡ empty)
IsOutReadUpTo p t all true v left = TellsBehindOut p t all v left

-- a store that there can be at instant t: each name is one of the program's, with a value of its cell, and the births of a local name are births up to t
pub record IsStoreAt (p : CoreProgram) (t : ℕ) (v : StoreMap) : Type 0 where
  pub store : IsStore p v
  pub born : (name : CellName) (x : Value) → get v name ≡ Some x → IsBornBy t name
