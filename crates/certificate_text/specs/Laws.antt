-- What is proved of the texts themselves. This project's own.
use Rattle.std.specs.Prelude.{◌≡◌, ℕ, ◌<◌, ◌≤◌, ◌^◌, ℤ, List, length, Option, Some, None, Ok, All, IsTrue}
use Rattle.token_system.specs.declared.name.CellName.TheVariants.{Local}
use Rattle.token_system.specs.Domain.{is_bound}
use Rattle.token_system.specs.Stores.{StoreMap}
use Rattle.token_system.specs.Texts.{text_of}
use Rattle.token_system.specs.Tokens.{Fits}
use Rattle.token_system.specs.declared.cell.Cell.{Cell}
use Rattle.token_system.specs.declared.cell.Token.{Token}
use Rattle.token_system.specs.declared.cell.Token.TheVariants.{AtLeast, AtMost}
use Rattle.token_system.specs.declared.name.CellName.{CellName}
use Rattle.agent_core.specs.Programs.{CoreProgram}
use Rattle.agent_core.specs.Stores.{IsInput}
use Rattle.agent_core.specs.Strata.{Each}
use Rattle.agent_core.specs.WellFormed.{IsWellFormed}
use Rattle.trace_text.specs.Laws.{HasOwnNames, IsLine}
use Rattle.trace_text.specs.StoreLines.{exact_text}
use Rattle.certificate_text.specs.declared.entry.Entry.{Entry}
use Rattle.certificate_text.specs.EntryTexts.{entry_lines, HasShortLines}
use Rattle.certificate_text.specs.InLines.{in_line, GivesEntryInput, IsInputBadAt}
use Rattle.certificate_text.specs.LocalNames.{local_text, local_name_of}
use Rattle.certificate_text.specs.Limits.{longest_entry_line}
use Rattle.certificate_text.specs.LocalTokens.{IsLocalTokenText}
use Rattle.certificate_text.specs.OutLines.{out_line}
use Rattle.certificate_text.specs.OutReadings.{GivesOut, IsOutBadAt, IsStoreAt}
use Rattle.certificate_text.specs.RunLines.{run_text, run_of_line}

-- the name of a local cell reads back as it was written, where its numbers have nine digits at most
abbrev pub NamesReadBack : Type 0
NamesReadBack = (node : ℕ) (births : List ℕ) → node < 10 ^ 9 → All (λ birth. birth < 10 ^ 9) births → local_name_of (local_text node births) ≡ Some (Local node births)

-- the text of a token of a local cell says one token, or one pair of them, of one cell
abbrev pub LocalTokensSayOne : Type 0
LocalTokensSayOne =
    (bytes : List ℕ) (m n : CellName) (f g : Token) (s t : Option Token) → IsLocalTokenText bytes m f s → IsLocalTokenText bytes n g t → (m ≡ n) × (f ≡ g) × (s ≡ t)

-- a token that fits a cell reads back from its text under the name of a local cell, whose numbers have nine digits at most
abbrev pub LocalTokensReadBack : Type 0
LocalTokensReadBack =
    (c : Cell) (node : ℕ) (births : List ℕ) (t : Token) → node < 10 ^ 9 → All (λ birth. birth < 10 ^ 9) births → Fits c t
    → IsLocalTokenText (text_of (local_text node births) t) (Local node births) t None

-- and so do both bounds of a number at once
abbrev pub LocalValuesReadBack : Type 0
LocalValuesReadBack =
    (node : ℕ) (births : List ℕ) (k : ℤ) → node < 10 ^ 9 → All (λ birth. birth < 10 ^ 9) births → IsTrue (is_bound k)
    → IsLocalTokenText (exact_text (local_text node births) k) (Local node births) (AtLeast k) (Some (AtMost k))

-- a list of numbers reads back as it was written, where each has nine digits at most and the line is not too long
abbrev pub RunsReadBack : Type 0
RunsReadBack = (numbers : List ℕ) → All (λ n. n < 10 ^ 9) numbers → length (run_text numbers) ≤ longest_entry_line → run_of_line (run_text numbers) ≡ Ok numbers

-- the `in` line of an input gives that input, where the declared cells have names of their own
abbrev pub InputsReadBack : Type 0
InputsReadBack = (p : CoreProgram) (i : StoreMap) → IsWellFormed p → HasOwnNames p → IsInput p i → GivesEntryInput p (in_line p i) i

-- what an `in` line gives is a store over the declared cells
abbrev pub LinesGiveInputs : Type 0
LinesGiveInputs = (p : CoreProgram) (line : List ℕ) (i : StoreMap) → GivesEntryInput p line i → IsInput p i

-- an `in` line gives one input at most
abbrev pub LinesGiveOneInput : Type 0
LinesGiveOneInput = (p : CoreProgram) (line : List ℕ) (i j : StoreMap) → GivesEntryInput p line i → GivesEntryInput p line j → i ≡ j

-- and one that gives an input is bad at no place
abbrev pub GivenLinesAreGood : Type 0
GivenLinesAreGood = (p : CoreProgram) (line : List ℕ) (i : StoreMap) (place : ℕ) → GivesEntryInput p line i → IsInputBadAt p line place → ⊥

-- the `out` line of a store that there can be at an instant gives that store, where the declared cells have names of their own and the line is not too long
abbrev pub OutsReadBack : Type 0
OutsReadBack =
    (p : CoreProgram) (t : ℕ) (v : StoreMap) → IsWellFormed p → HasOwnNames p → t < 10 ^ 9 → IsStoreAt p t v
    → length (out_line p v) ≤ longest_entry_line → GivesOut p t (out_line p v) v

-- what an `out` line gives is a store that there can be at the instant
abbrev pub LinesGiveStores : Type 0
LinesGiveStores = (p : CoreProgram) (t : ℕ) (line : List ℕ) (v : StoreMap) → GivesOut p t line v → IsStoreAt p t v

-- an `out` line gives one store at most
abbrev pub LinesGiveOneStore : Type 0
LinesGiveOneStore = (p : CoreProgram) (t : ℕ) (line : List ℕ) (v w : StoreMap) → GivesOut p t line v → GivesOut p t line w → v ≡ w

-- and one that gives a store is bad at no place
abbrev pub GivenOutsAreGood : Type 0
GivenOutsAreGood = (p : CoreProgram) (t : ℕ) (line : List ℕ) (v : StoreMap) (place : ℕ) → GivesOut p t line v → IsOutBadAt p t line place → ⊥

-- each line of an entry gives its part of that entry, where the declared cells have names of their own, the numbers of leaves have nine digits at most and no line is too long
abbrev pub EntriesReadBack : Type 0
EntriesReadBack =
    (p : CoreProgram) (t : ℕ) (e : Entry) → IsWellFormed p → HasOwnNames p → t < 10 ^ 9 → IsInput p e.input → IsStoreAt p t e.out → All (λ n. n < 10 ^ 9) e.run → HasShortLines p e
    → GivesEntryInput p (in_line p e.input) e.input × GivesOut p t (out_line p e.out) e.out × (run_of_line (run_text e.run) ≡ Ok e.run)

-- and each is one line, without a line feed within it
abbrev pub EntriesAreLines : Type 0
EntriesAreLines =
    (p : CoreProgram) (t : ℕ) (e : Entry) → IsWellFormed p → HasOwnNames p → t < 10 ^ 9 → IsInput p e.input → IsStoreAt p t e.out → All (λ n. n < 10 ^ 9) e.run → HasShortLines p e
    → Each (IsLine longest_entry_line) (entry_lines p e)
