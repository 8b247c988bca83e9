-- Numbers as they are printed are lexemes.
use Rattle.std.proofs.Common.{◌≡◌, ℕ, ◌<◌, ◌^◌, List, [], ◌∷◌, length, ap, ◌∙◌, arith, Some, decimal}
use Rattle.std.specs.Str.Parse.{AllDigits}
use Rattle.std.proofs.lemmas.Str.Parse.{digit_from_value}
use Rattle.std.proofs.lemmas.Fmt.{decimal_is_IsNumeral}
use Rattle.program_lexemes.specs.declared.lexer.LexKind.TheVariants as kind
use Rattle.program_lexemes.specs.declared.bytes.TextForm.{TextForm}
use Rattle.program_lexemes.specs.Forms.{kind_if, kind_of}
pub use Rattle.names_and_numbers.proofs.Printed.{decimal_digits, number_of-decimal, number_of-minus_decimal}
use Rattle.names_and_numbers.proofs.Printed.{range_digit, range_letter, all_is_digit}
use Rattle.program_lexemes.proofs.LongestLexeme.{by_digit}

numeral_kind : (form : TextForm) (ds : List ℕ) → 0 < length ds → AllDigits 10 ds → kind_of form ds ≡ Some kind.Number
numeral_kind form [] h all = absurd (omega (arith, h))
numeral_kind form (d ∷ ds) h (digit, all) =
    let range = digit_from_value d digit in
    by_digit form d (range_letter d range) (range_digit d range) ds ∙ ap (λ t. kind_if t kind.Number) (all_is_digit ds all)

pub decimal_kind : (form : TextForm) (n : ℕ) → n < 2 ^ 64 → kind_of form (decimal n) ≡ Some kind.Number
decimal_kind form n h = let (numeral, value) = decimal_is_IsNumeral n h in numeral_kind form (decimal n) numeral.0 numeral.1

pub minus_decimal_kind : (form : TextForm) (n : ℕ) → n < 2 ^ 64 → kind_of form (45 ∷ decimal n) ≡ Some kind.Number
minus_decimal_kind form n h = ap (λ t. kind_if t kind.Number) (decimal_digits n h)
