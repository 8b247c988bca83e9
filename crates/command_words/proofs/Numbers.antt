-- The number that `parse` reads in a word of at most nine bytes.
use Rattle.std.proofs.Common.{◌≢◌, ℕ, ◌≤◌, List, [], ◌∷◌, ◌++◌, length, get_or, Result, Ok, Err, arith, ap}
use Rattle.std.specs.Option.{MatchOption}
use Rattle.std.specs.Result.{result_ok}
use Rattle.std.specs.Str.Parse.{AllDigits, ParsesUnsigned, digits_value}
use Rattle.std.specs.Char.{encode_utf8}
use Rattle.std.proofs.lemmas.Str.Parse.{IsNumeralModel, digits_value_short, numerals_by_value, parse_plain, tells_digits}
use Rattle.command_words.specs.Limits.{most_word_digits, greatest_fuel}
use Rattle.command_words.specs.Settings.{IsNumber}

-- the words of `parse` are those of numbers here
decimals : IsNumeralModel (AllDigits 10) (digits_value 10)
decimals = numerals_by_value (AllDigits 10) tells_digits

-- no plus stands in front
no_plus : (word : List ℕ) → ((rest : List ℕ) → word ≢ encode_utf8 43 ++ rest) → get_or word 0 0 ≢ 43
unfolding encode_utf8
no_plus [] none e = cc
no_plus (b ∷ word) none e = none word (ap (λ a. a ∷ word) e)

-- the number is read exactly where the word is digits
pub reads_number : {E : Type 0} (word : List ℕ) (r : Result ℕ E) → length word ≤ most_word_digits → ((rest : List ℕ) → word ≢ encode_utf8 43 ++ rest) → ParsesUnsigned 32 10 word r → MatchOption (result_ok r) ((n : ℕ) → IsNumber word n → ⊥) (IsNumber word)
reads_number {E} word (Ok n) short none parsed =
    let is = parse_plain decimals {E = E} 32 word (Ok n) parsed (no_plus word none) in
    record { digits = (is.0.1, is.0.0); short = short; value = is.1 }
reads_number {E} word (Err e) short none parsed = λ n is.
    let small = digits_value_short decimals word most_word_digits is.digits.1 short in
    parse_plain decimals {E = E} 32 word (Err e) parsed (no_plus word none) (is.digits.1, is.digits.0, omega arith)

-- a number is at most the greatest of its digits
pub number_small : (word : List ℕ) (n : ℕ) → IsNumber word n → n ≤ greatest_fuel
number_small word n is =
    let small = digits_value_short decimals word most_word_digits is.digits.1 is.short in
    let value = is.value in
    omega arith
