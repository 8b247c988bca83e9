-- The texts of entries: three lines, and what each of them says when it is read. This project's own.
use Rattle.std.specs.Prelude.{◌≡◌, ℕ, zero, suc, ◌≤◌, List, [], ◌∷◌, ◌++◌, length, codes, flat_map, Ok, Err}
use Rattle.agent_core.specs.Programs.{CoreProgram}
use Rattle.agent_core.specs.Strata.{Each}
use Rattle.certificate_text.specs.declared.entry.Entry.{Entry}
use Rattle.certificate_text.specs.InLines.{in_line, GivesEntryInput, IsInputBadAt}
use Rattle.certificate_text.specs.Limits.{longest_entry_line}
use Rattle.certificate_text.specs.OutLines.{out_line}
use Rattle.certificate_text.specs.OutReadings.{GivesOut, IsOutBadAt}
use Rattle.certificate_text.specs.RunLines.{run_text, run_of_line}

-- the lines of an entry
abbrev pub entry_lines : CoreProgram → Entry → List (List ℕ)
entry_lines p e = in_line p e.input ∷ out_line p e.out ∷ run_text e.run ∷ []

-- these lines, each with a line feed at its end
abbrev pub entry_text : CoreProgram → Entry → List ℕ
entry_text p e = flat_map (λ line. line ++ codes "\n") (entry_lines p e)

-- the line is within the limit of bytes
abbrev pub IsShort : List ℕ → Type 0
IsShort line = length line ≤ longest_entry_line

-- each line of the entry is within the limit of bytes
abbrev pub HasShortLines : CoreProgram → Entry → Type 0
HasShortLines p e = Each IsShort (entry_lines p e)

-- the line with this number, 0 for `in`, 1 for `out` and 2 for `run`, gives its part of the new entry, and the other parts are those of the old one
abbrev pub GivesPart : CoreProgram → ℕ → ℕ → List ℕ → Entry → Entry → Type 0
GivesPart p t zero line old new = GivesEntryInput p line new.input × (new.out ≡ old.out) × (new.run ≡ old.run)
GivesPart p t (suc zero) line old new = (new.input ≡ old.input) × GivesOut p t line new.out × (new.run ≡ old.run)
GivesPart p t (suc (suc more)) line old new = (new.input ≡ old.input) × (new.out ≡ old.out) × (run_of_line line ≡ Ok new.run)

-- the line with this number is bad at this place
abbrev pub IsPartBadAt : CoreProgram → ℕ → ℕ → List ℕ → ℕ → Type 0
IsPartBadAt p t zero line place = IsInputBadAt p line place
IsPartBadAt p t (suc zero) line place = IsOutBadAt p t line place
IsPartBadAt p t (suc (suc more)) line place = run_of_line line ≡ Err place
