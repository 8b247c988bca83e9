-- Which bytes are a number, and its value. This project's own syntax.
use Rattle.std.specs.Prelude.{ℕ, ℤ, pos, neg_ℤ, List, [], ◌∷◌, length, Bool, false, ◌&&◌, nat_le, nat_eq, if◌then◌else◌, Option, Some, None}
use Rattle.std.specs.List.{list_all}
use Rattle.std.specs.Str.Parse.{digits_value}
use Rattle.names_and_numbers.specs.Limits.{most_digits}
use Rattle.names_and_numbers.specs.Names.{is_digit}

-- -
abbrev pub is_minus : ℕ → Bool
is_minus b = nat_eq b 45

-- digits, one at least
abbrev pub are_digits : List ℕ → Bool
are_digits [] = false
are_digits (d ∷ ds) = list_all is_digit (d ∷ ds)

-- digits, one at least and nine at most
abbrev pub are_few_digits : List ℕ → Bool
are_few_digits bytes = are_digits bytes && nat_le (length bytes) most_digits

-- the digits of a number: its bytes without a minus in front
abbrev pub digits_of : List ℕ → List ℕ
digits_of [] = []
digits_of (b ∷ bs) = if is_minus b then bs else b ∷ bs

-- the bytes are a number: digits, or a minus and digits
abbrev pub is_number_text : List ℕ → Bool
is_number_text bytes = are_digits (digits_of bytes)

-- the value of a number: that of its digits as a decimal numeral, negated where a minus stands in front
abbrev pub value_of_number : List ℕ → ℤ
value_of_number [] = pos 0
value_of_number (b ∷ bs) = if is_minus b then neg_ℤ (pos (digits_value 10 bs)) else pos (digits_value 10 (b ∷ bs))

-- the value of the number that the bytes are, if they are one that is not too long
abbrev pub number_of_text : List ℕ → Option ℤ
number_of_text bytes = if are_few_digits (digits_of bytes) then Some (value_of_number bytes) else None

-- the value of the digits that the bytes are, if they are one to nine digits
abbrev pub natural_of_text : List ℕ → Option ℕ
natural_of_text bytes = if are_few_digits bytes then Some (digits_value 10 bytes) else None
