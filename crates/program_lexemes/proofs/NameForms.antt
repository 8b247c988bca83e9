-- The names of program texts and the numbers of all texts are those of token texts, keywords aside.
use Rattle.std.proofs.Common.{◌≡◌, ℕ, ◌≤◌, List, [], ◌∷◌, length, refl, ap, ◌∙◌, arith, Option, Some, None, Bool, true, false}
use Rattle.std.specs.Prelude.{◌↔◌, nat_le, nat_lt, if◌then◌else◌}
use Rattle.std.specs.List.{list_all}
use Rattle.std.proofs.lemmas.Bool.{eqb-true}
use Rattle.std.proofs.lemmas.Bool.Decides.{nat_tests}
use Rattle.names_and_numbers.specs.Limits.{longest_name, most_digits}
use Rattle.names_and_numbers.specs.Names.{is_name, is_word}
use Rattle.names_and_numbers.specs.Numbers.{number_of_text}
use Rattle.names_and_numbers.proofs.Bools.{and_left, and_right, both_true}
use Rattle.program_lexemes.specs.declared.lexer.LexKind.{LexKind}
use Rattle.program_lexemes.specs.declared.lexer.LexKind.TheVariants as kind
use Rattle.program_lexemes.specs.declared.bytes.TextForm.{TextForm}
use Rattle.program_lexemes.specs.declared.bytes.TextForm.TheVariants.{Program}
use Rattle.program_lexemes.specs.Spellings.{is_keyword, is_symbol}
use Rattle.program_lexemes.specs.Forms.{is_letter, is_digit, is_minus, is_word_byte, are_digits, are_few_digits, word_kind, kind_if, kind_of}
use Rattle.program_lexemes.specs.Numbers.{is_number_text, value_of_number, digits_of, is_long}
use Rattle.program_lexemes.specs.Names.{IsName}
use Rattle.program_lexemes.proofs.LongestLexeme.{kinds, by_letter, by_digit}
use Rattle.program_lexemes.proofs.KindSays.{held, kind_number}

no_kind : (l : LexKind) → ◌≡◌ {A = Option LexKind} None (Some l) → ⊥
no_kind l e = cc

at_most : (n m : ℕ) → n ≤ m → nat_le n m ≡ true
at_most n m h = grind (arith, nat_tests)

within : (n m : ℕ) → nat_le n m ≡ true → n ≤ m
within n m h = grind (arith, nat_tests)

not_above : (n m : ℕ) → nat_lt m n ≡ false → nat_le n m ≡ true
not_above n m h = grind (arith, nat_tests)

no_more : (n m : ℕ) → nat_le n m ≡ true → nat_lt m n ≡ false
no_more n m h = grind (arith, nat_tests)

-- a word that is a name is no keyword
no_keyword : (b : ℕ) (bs : List ℕ) → word_kind (b ∷ bs) ≡ kind.Name → is_keyword (b ∷ bs) ≡ false
no_keyword b bs e = go (is_keyword (b ∷ bs)) refl e
  where
    go : (t : Bool) → is_keyword (b ∷ bs) ≡ t → (if t then kind.Keyword else kind.Name) ≡ kind.Name → is_keyword (b ∷ bs) ≡ false
    go true is e = cc
    go false is e = is

-- bytes of a program text that are a name begin with a letter, go on with word bytes and are no keyword
name_says : (b : ℕ) (bs : List ℕ) (letter digit minus : Bool) → kinds letter digit minus false b bs ≡ Some kind.Name → (letter ≡ true) × (list_all is_word_byte bs ≡ true) × (is_keyword (b ∷ bs) ≡ false)
name_says b bs true d m e = let (all, k) = held (list_all is_word_byte bs) (word_kind (b ∷ bs)) kind.Name e in (refl, all, no_keyword b bs k)
name_says b bs false true m e = let (all, k) = held (list_all is_digit bs) kind.Number kind.Name e in cc
name_says b bs false false true e = let (all, k) = held (are_digits bs) kind.Number kind.Name e in cc
name_says b bs false false false e = let (all, k) = held (is_symbol (b ∷ bs)) kind.Symbol kind.Name e in cc

named : (bytes : List ℕ) → IsName Program bytes → (is_name bytes ≡ true) × (is_keyword bytes ≡ false)
named [] is = absurd (no_kind kind.Name is.is)
named (b ∷ bs) is =
    let (letter, all, other) = name_says b bs (is_letter b) (is_digit b) (is_minus b) is.is in
    (both_true (is_word (b ∷ bs)) (nat_le (length (b ∷ bs)) longest_name) (both_true (is_letter b) (list_all is_word_byte bs) letter all) (at_most (length (b ∷ bs)) longest_name is.short), other)

names : (bytes : List ℕ) → (is_name bytes ≡ true) × (is_keyword bytes ≡ false) → IsName Program bytes
names [] (e, other) = let no : false ≡ true = e in cc
names (b ∷ bs) (e, other) =
    let word = and_left (is_word (b ∷ bs)) (nat_le (length (b ∷ bs)) longest_name) e in
    record {
      is = by_letter Program b (and_left (is_letter b) (list_all is_word_byte bs) word) bs ∙ ap (λ t. kind_if t (word_kind (b ∷ bs))) (and_right (is_letter b) (list_all is_word_byte bs) word) ∙ ap (λ t. Some (if t then kind.Keyword else kind.Name)) other;
      short = within (length (b ∷ bs)) longest_name (and_right (is_word (b ∷ bs)) (nat_le (length (b ∷ bs)) longest_name) e);
    }

-- A name of a program text is a name that is no keyword.
pub program_names : (bytes : List ℕ) → IsName Program bytes ↔ ((is_name bytes ≡ true) × (is_keyword bytes ≡ false))
program_names bytes = (named bytes, names bytes)

-- a digit is no letter
digit_no_letter : (b : ℕ) → is_digit b ≡ true → is_letter b ≡ false
digit_no_letter b h = grind (arith, nat_tests)

number_kind : (form : TextForm) (bytes : List ℕ) → is_number_text bytes ≡ true → kind_of form bytes ≡ Some kind.Number
number_kind form [] e = let no : false ≡ true = e in cc
number_kind form (b ∷ bs) e = go (is_minus b) refl e
  where
    go : (t : Bool) → is_minus b ≡ t → are_digits (if t then bs else b ∷ bs) ≡ true → kind_of form (b ∷ bs) ≡ Some kind.Number
    go true is e = ap (λ m. kind_of form (m ∷ bs)) (eqb-true b 45 is) ∙ ap (λ t. kind_if t kind.Number) e
    go false is e =
        let digit = and_left (is_digit b) (list_all is_digit bs) e in
        by_digit form b (digit_no_letter b digit) digit bs ∙ ap (λ t. kind_if t kind.Number) (and_right (is_digit b) (list_all is_digit bs) e)

read : (bytes : List ℕ) → number_of_text bytes ≡ Some (value_of_number bytes) → are_few_digits (digits_of bytes) ≡ true
read bytes e = go (are_few_digits (digits_of bytes)) refl e
  where
    go : (t : Bool) → are_few_digits (digits_of bytes) ≡ t → (if t then Some (value_of_number bytes) else None) ≡ Some (value_of_number bytes) → are_few_digits (digits_of bytes) ≡ true
    go true is e = is
    go false is e = cc

-- A number of a text that is not too long is one that can be read.
pub text_numbers : (form : TextForm) (bytes : List ℕ) → ((kind_of form bytes ≡ Some kind.Number) × (is_long kind.Number bytes ≡ false)) ↔ (number_of_text bytes ≡ Some (value_of_number bytes))
text_numbers form bytes = (
  (λ (is, short). ap (λ t. if t then Some (value_of_number bytes) else None) (both_true (is_number_text bytes) (nat_le (length (digits_of bytes)) most_digits) (kind_number form bytes is) (not_above (length (digits_of bytes)) most_digits short))),
  (λ e. (number_kind form bytes (and_left (is_number_text bytes) (nat_le (length (digits_of bytes)) most_digits) (read bytes e)), no_more (length (digits_of bytes)) most_digits (and_right (is_number_text bytes) (nat_le (length (digits_of bytes)) most_digits) (read bytes e)))),
)
