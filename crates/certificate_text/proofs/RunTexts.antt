-- The line of a list of numbers reads back as it was written, and is read field by field.
use Rattle.std.proofs.Common.{◌≡◌, ℕ, ◌+◌, ◌<◌, ◌^◌, Bool, true, false, cond, List, [], ◌∷◌, ◌++◌, length, refl, sym, ap, ◌∙◌, append_assoc, arith}
use Rattle.std.specs.Prelude.{All, decimal, flat_map, codes, Some, Result, Ok, Err, nat_eq, nat_lt}
use Rattle.std.specs.List.{slice_split}
use Rattle.std.specs.Cmp.Lexicographic.{pointwise}
use Rattle.std.proofs.lemmas.List.{append-nil}
use Rattle.std.proofs.lemmas.List.Splits.{slice_split_none, slice_split_at}
use Rattle.names_and_numbers.specs.Names.{is_digit}
use Rattle.names_and_numbers.specs.Numbers.{natural_of_text, are_digits}
use Rattle.names_and_numbers.proofs.Printed.{decimal_digits}
use Rattle.agent_core.specs.Strata.{Each}
use Rattle.agent_laws.proofs.Eachs.{all_each, each_all}
use Rattle.trace_text.specs.Fields.{Field, fields, is_blank, is_some}
use Rattle.trace_text.proofs.LineWalks.{fields_from}
use Rattle.certificate_text.specs.Limits.{longest_entry_line}
use Rattle.certificate_text.specs.RunLines.{run_text, number_then, numbers_in, numbers_behind_run, numbers_then, left_to_read}
use Rattle.certificate_text.specs.Laws.{RunsReadBack}
use Rattle.certificate_text.proofs.NameTexts.{natural-decimal, digit_is_not, decimal_avoids}
use Rattle.certificate_text.proofs.PartWalks.{field_first}

-- NUMBERS THAT ARE WRITTEN

numeral_some : (ds : List ℕ) → are_digits ds ≡ true → is_some ds ≡ true
numeral_some [] h = h
numeral_some (d ∷ ds) h = refl

pub digit_no_blank : (b : ℕ) → is_digit b ≡ true → is_blank b ≡ false
digit_no_blank b digit = rw (digit_is_not b 32 refl digit, digit_is_not b 9 refl digit, digit_is_not b 13 refl digit) refl

decimal_no_blank : (n : ℕ) → n < 10 ^ 9 → All (λ b. is_blank b ≡ false) (decimal n)
decimal_no_blank n lt = each_all (λ b. is_blank b ≡ false) (decimal n) (decimal_avoids is_blank digit_no_blank n lt)

decimal_some : (n : ℕ) → n < 10 ^ 9 → is_some (decimal n) ≡ true
decimal_some n lt = numeral_some (decimal n) (decimal_digits n (omega arith))

-- numbers with a space before each but the first
abbrev numbers_text : ℕ → List ℕ → List ℕ
numbers_text n ns = decimal n ++ flat_map (λ m. codes " " ++ decimal m) ns

numbers-back : (offset n : ℕ) (ns : List ℕ) → n < 10 ^ 9 → Each (λ m. m < 10 ^ 9) ns → numbers_in (fields_from offset (slice_split is_blank (numbers_text n ns))) ≡ Ok (n ∷ ns)
numbers-back offset n [] lt small =
    ap (λ (text : List ℕ). numbers_in (fields_from offset (slice_split is_blank text))) (append-nil (decimal n))
    ∙ ap (λ parts. numbers_in (fields_from offset parts)) (slice_split_none is_blank (decimal n) (decimal_no_blank n lt))
    ∙ ap numbers_in (field_first offset (decimal n) [] (decimal_some n lt))
    ∙ ap (λ o. number_then offset o (Ok [])) (natural-decimal n lt)
numbers-back offset n (m ∷ ns) lt small =
    let later = slice_split is_blank (numbers_text m ns) in
    let behind = offset + (length (decimal n) + 1) in
    ap (λ parts. numbers_in (fields_from offset parts)) (slice_split_at is_blank (decimal n) 32 (numbers_text m ns) (decimal_no_blank n lt) refl)
    ∙ ap numbers_in (field_first offset (decimal n) later (decimal_some n lt))
    ∙ ap (λ o. number_then offset o (numbers_in (fields_from behind later))) (natural-decimal n lt)
    ∙ ap (λ o. number_then offset (Some n) o) (numbers-back behind m ns small.0 small.1)

word_no_blank : All (λ b. is_blank b ≡ false) (codes "run")
word_no_blank = each_all (λ b. is_blank b ≡ false) (codes "run") (refl, (refl, (refl, tt)))

fields-back : (ns : List ℕ) → Each (λ m. m < 10 ^ 9) ns → numbers_behind_run (fields (run_text ns)) ≡ Ok ns
fields-back [] small = refl
fields-back (n ∷ ns) small =
    ap (λ parts. numbers_behind_run (fields_from 0 parts)) (slice_split_at is_blank (codes "run") 32 (numbers_text n ns) word_no_blank refl)
    ∙ numbers-back 4 n ns small.0 small.1

pub runs_law : RunsReadBack
runs_law ns small short = go (nat_lt longest_entry_line (length (run_text ns))) refl
  where
    go : (b : Bool) → nat_lt longest_entry_line (length (run_text ns)) ≡ b → cond b (Err longest_entry_line) (numbers_behind_run (fields (run_text ns))) ≡ Ok ns
    go true e = absurd (grind arith)
    go false e = fields-back ns (all_each (λ m. m < 10 ^ 9) ns small)

-- NUMBERS THAT ARE READ

-- the line says what these numbers and the fields that are left say
abbrev pub NumbersRead : List ℕ → Bool → List ℕ → List Field → Type 0
NumbersRead line worded read left = numbers_behind_run (fields line) ≡ left_to_read worded read left

pub read-none : (line : List ℕ) → NumbersRead line false [] (fields line)
read-none line = go (numbers_behind_run (fields line))
  where
    go : (said : Result (List ℕ) ℕ) → said ≡ numbers_then [] said
    go (Ok ns) = refl
    go (Err place) = refl

-- the word is read, and then each number
pub word_read : (read : List ℕ) (field : Field) (later : List Field) → pointwise nat_eq field.bytes (codes "run") ≡ true → left_to_read false read (field ∷ later) ≡ left_to_read true read later
word_read read field later e = ap (λ b. numbers_then read (cond b (numbers_in later) (Err field.offset))) e

pub number_read : (read : List ℕ) (field : Field) (n : ℕ) (later : List Field) → natural_of_text field.bytes ≡ Some n → left_to_read true read (field ∷ later) ≡ left_to_read true (read ++ n ∷ []) later
number_read read field n later e = ap (λ o. numbers_then read (number_then field.offset o (numbers_in later))) e ∙ go (numbers_in later)
  where
    go : (said : Result (List ℕ) ℕ) → numbers_then read (number_then field.offset (Some n) said) ≡ numbers_then (read ++ n ∷ []) said
    go (Ok ns) = ap Ok (sym (append_assoc read (n ∷ []) ns))
    go (Err place) = refl
