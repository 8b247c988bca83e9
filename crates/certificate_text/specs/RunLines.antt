-- The `run` lines of entries: the word, and the numbers of leaves in their order. This project's own.
use Rattle.std.specs.Prelude.{◌≡◌, ℕ, Bool, true, false, if◌then◌else◌, nat_eq, nat_lt, List, [], ◌∷◌, ◌++◌, length, codes, decimal, flat_map, Option, Some, None, Result, Ok, Err}
use Rattle.std.specs.Cmp.Lexicographic.{pointwise}
use Rattle.names_and_numbers.specs.Numbers.{natural_of_text}
use Rattle.trace_text.specs.Fields.{Field, fields}
use Rattle.certificate_text.specs.Limits.{longest_entry_line}
use Rattle.certificate_text.specs.declared.fault.EntryLineFault.{EntryLineFault}
use Rattle.certificate_text.specs.declared.fault.EntryLineFault.TheVariants.{Bad, Memory}

-- the line of a list of numbers: the word, and each number behind a space
abbrev pub run_text : List ℕ → List ℕ
run_text numbers = codes "run" ++ flat_map (λ n. codes " " ++ decimal n) numbers

-- the number of the field at this place and then the later ones, or the place of the first field that is none
abbrev pub number_then : ℕ → Option ℕ → Result (List ℕ) ℕ → Result (List ℕ) ℕ
number_then offset None later = Err offset
number_then offset (Some n) (Ok ns) = Ok (n ∷ ns)
number_then offset (Some n) (Err later) = Err later

-- the numbers that the fields are, or the place of the first that is none
abbrev pub numbers_in : List Field → Result (List ℕ) ℕ
numbers_in [] = Ok []
numbers_in (field ∷ later) = number_then field.offset (natural_of_text field.bytes) (numbers_in later)

-- the same, of fields of which the first is to be the word `run`; where there is none the place is 0
abbrev pub numbers_behind_run : List Field → Result (List ℕ) ℕ
numbers_behind_run [] = Err 0
numbers_behind_run (field ∷ later) = if pointwise nat_eq field.bytes (codes "run") then numbers_in later else Err field.offset

-- the numbers that a line says, or the place at which it is bad
abbrev pub run_of_line : List ℕ → Result (List ℕ) ℕ
run_of_line line = if nat_lt longest_entry_line (length line) then Err longest_entry_line else numbers_behind_run (fields line)

-- numbers that were read, and then what the later fields say
abbrev pub numbers_then : List ℕ → Result (List ℕ) ℕ → Result (List ℕ) ℕ
numbers_then read (Ok ns) = Ok (read ++ ns)
numbers_then read (Err place) = Err place

-- what these numbers and the fields that are left say, before the word is read and after it
abbrev pub left_to_read : Bool → List ℕ → List Field → Result (List ℕ) ℕ
left_to_read false read left = numbers_then read (numbers_behind_run left)
left_to_read true read left = numbers_then read (numbers_in left)

-- the fault is that of the line which says this; out of memory is the fault of none
abbrev pub IsFaultOf : Result (List ℕ) ℕ → EntryLineFault → Type 0
IsFaultOf said (Bad offset) = said ≡ Err offset
IsFaultOf said Memory = Unit {0}
