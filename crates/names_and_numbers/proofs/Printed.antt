-- Numbers as they are printed: numerals of decimal digits, which have their value.
use Rattle.std.proofs.Common.{◌≡◌, ℕ, pos, neg_ℤ, ◌<◌, ◌≤◌, ◌^◌, List, [], ◌∷◌, length, refl, ap, sym, ◌∙◌, arith, Bool, true, false, decimal}
use Rattle.std.specs.Prelude.{◌&&◌, ◌||◌, nat_le, if◌then◌else◌}
use Rattle.std.specs.List.{list_all}
use Rattle.std.specs.Int.{IsInRange}
use Rattle.std.specs.Str.Parse.{AllDigits, digits_value}
use Rattle.std.proofs.lemmas.Bool.{eqb-true}
use Rattle.std.proofs.lemmas.Str.Parse.{digit_from_value}
use Rattle.std.proofs.lemmas.Fmt.{decimal_is_IsNumeral}
use Rattle.names_and_numbers.specs.Names.{is_letter, is_digit}
use Rattle.names_and_numbers.specs.Numbers.{is_minus, are_digits, value_of_number}

pub range_digit : (c : ℕ) → IsInRange 48 57 c → is_digit c ≡ true
range_digit c range = ap (λ t. t && nat_le c 57) (low c range.0) ∙ high c range.1
  where
    low : (c : ℕ) → 48 ≤ c → nat_le 48 c ≡ true
    low c h = grind arith

    high : (c : ℕ) → c ≤ 57 → nat_le c 57 ≡ true
    high c h = grind arith

pub range_letter : (c : ℕ) → IsInRange 48 57 c → is_letter c ≡ false
range_letter c range = ap (λ t. (t && nat_le c 90) || (nat_le 97 c && nat_le c 122)) (upper c range.1) ∙ ap (λ t. t && nat_le c 122) (lower c range.1)
  where
    upper : (c : ℕ) → c ≤ 57 → nat_le 65 c ≡ false
    upper c h = grind arith

    lower : (c : ℕ) → c ≤ 57 → nat_le 97 c ≡ false
    lower c h = grind arith

pub all_is_digit : (ds : List ℕ) → AllDigits 10 ds → list_all is_digit ds ≡ true
all_is_digit [] all = refl
all_is_digit (d ∷ ds) (digit, all) = ap (λ t. t && list_all is_digit ds) (range_digit d (digit_from_value d digit)) ∙ all_is_digit ds all

numeral_digits : (ds : List ℕ) → 0 < length ds → AllDigits 10 ds → are_digits ds ≡ true
numeral_digits [] h all = absurd (omega (arith, h))
numeral_digits (d ∷ ds) h all = all_is_digit (d ∷ ds) all

pub decimal_digits : (n : ℕ) → n < 2 ^ 64 → are_digits (decimal n) ≡ true
decimal_digits n h = let (numeral, value) = decimal_is_IsNumeral n h in numeral_digits (decimal n) numeral.0 numeral.1

-- no digit is a minus
pub no_minus : (b : ℕ) → is_digit b ≡ true → is_minus b ≡ false
no_minus b d = go (is_minus b) refl
  where
    go : (t : Bool) → is_minus b ≡ t → t ≡ false
    go true e = let w : false ≡ true = ap is_digit (sym (eqb-true b 45 e)) ∙ d in cc
    go false e = refl

numeral_value : (ds : List ℕ) (n : ℕ) → 0 < length ds → AllDigits 10 ds → digits_value 10 ds ≡ n → value_of_number ds ≡ pos n
numeral_value [] n h all e = absurd (omega (arith, h))
numeral_value (d ∷ ds) n h (digit, all) e = ap (λ t. if t then neg_ℤ (pos (digits_value 10 ds)) else pos (digits_value 10 (d ∷ ds))) (no_minus d (range_digit d (digit_from_value d digit))) ∙ ap pos e

pub number_of-decimal : (n : ℕ) → n < 2 ^ 64 → value_of_number (decimal n) ≡ pos n
number_of-decimal n h = let (numeral, value) = decimal_is_IsNumeral n h in numeral_value (decimal n) n numeral.0 numeral.1 value

pub number_of-minus_decimal : (n : ℕ) → n < 2 ^ 64 → value_of_number (45 ∷ decimal n) ≡ neg_ℤ (pos n)
number_of-minus_decimal n h = let (numeral, value) = decimal_is_IsNumeral n h in ap (λ v. neg_ℤ (pos v)) value
