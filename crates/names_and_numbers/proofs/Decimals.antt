-- The value of a decimal numeral, digit by digit.
use Rattle.std.proofs.Common.{◌≡◌, ℕ, ◌+◌, ◌*◌, ◌-◌, ◌^◌, ◌<◌, ◌≤◌, List, [], ◌∷◌, length, take, ap, ◌∙◌, arith, true, get_or}
use Rattle.std.specs.Prelude.{nat_le}
use Rattle.std.specs.List.{list_all}
use Rattle.std.specs.Int.{IsInRange}
use Rattle.std.specs.Char.{digit_value}
use Rattle.std.specs.Str.Parse.{AllDigits, digits_value}
use Rattle.std.proofs.lemmas.Str.{digit_value_digit}
use Rattle.std.proofs.lemmas.Str.Parse.{tells_digits, numerals_by_value, digits_value_short, digits_value-take-le, digit_at}
use Rattle.std.proofs.lemmas.Int.Digits.{digits_value_more}
use Rattle.names_and_numbers.specs.Names.{is_digit}
use Rattle.names_and_numbers.specs.Numbers.{are_digits}
use Rattle.names_and_numbers.proofs.Bools.{and_left, and_right}

digit_range : (c : ℕ) → is_digit c ≡ true → IsInRange 48 57 c
digit_range c e = (low c (and_left (nat_le 48 c) (nat_le c 57) e), high c (and_right (nat_le 48 c) (nat_le c 57) e))
  where
    low : (c : ℕ) → nat_le 48 c ≡ true → 48 ≤ c
    low c e = grind arith

    high : (c : ℕ) → nat_le c 57 ≡ true → c ≤ 57
    high c e = grind arith

digit_below : (c : ℕ) → is_digit c ≡ true → digit_value c < 10
digit_below c e = let range = digit_range c e in let value = digit_value_digit c range in omega (arith, range, value)

all_digits : (ds : List ℕ) → list_all is_digit ds ≡ true → AllDigits 10 ds
all_digits [] e = tt
all_digits (d ∷ ds) e = (digit_below d (and_left (is_digit d) (list_all is_digit ds) e), all_digits ds (and_right (is_digit d) (list_all is_digit ds) e))

pub digits_all : (ds : List ℕ) → are_digits ds ≡ true → AllDigits 10 ds
digits_all [] e = tt
digits_all (d ∷ ds) e = all_digits (d ∷ ds) e

-- the numeral of at most nine digits is below a thousand million, and so is each of its fronts
pub value_short : (ds : List ℕ) (i : ℕ) → AllDigits 10 ds → length ds ≤ 9 → digits_value 10 (take i ds) < 10 ^ 9
value_short ds i all h =
    let whole : digits_value 10 ds < 10 ^ 9 = digits_value_short (numerals_by_value (AllDigits 10) tells_digits) ds 9 all h in
    let front : digits_value 10 (take i ds) ≤ digits_value 10 ds = digits_value-take-le 10 ds i (omega arith) in omega (arith, whole, front)

-- one digit more
pub value_more : (ds : List ℕ) (i : ℕ) → AllDigits 10 ds → i < length ds → digits_value 10 (take (i + 1) ds) ≡ digits_value 10 (take i ds) * 10 + (get_or ds i 0 - 48)
value_more ds i all h =
    let value = digit_value_digit (get_or ds i 0) (digit_at ds i all h) in
    let digit : digit_value (get_or ds i 0) ≡ get_or ds i 0 - 48 = omega (arith, value) in
    digits_value_more 10 ds i h ∙ ap (λ d. digits_value 10 (take i ds) * 10 + d) digit
