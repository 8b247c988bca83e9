-- Which bytes are a name. This project's own syntax.
use Rattle.std.specs.Prelude.{ℕ, List, [], ◌∷◌, length, Bool, false, ◌&&◌, ◌||◌, nat_le, nat_eq}
use Rattle.std.specs.List.{list_all}
use Rattle.names_and_numbers.specs.Limits.{longest_name}

-- A to Z, a to z
abbrev pub is_letter : ℕ → Bool
is_letter b = (nat_le 65 b && nat_le b 90) || (nat_le 97 b && nat_le b 122)

-- 0 to 9
abbrev pub is_digit : ℕ → Bool
is_digit b = nat_le 48 b && nat_le b 57

-- a letter, a digit or _
abbrev pub is_word_byte : ℕ → Bool
is_word_byte b = is_letter b || is_digit b || nat_eq b 95

-- a letter, and then letters, digits and _
abbrev pub is_word : List ℕ → Bool
is_word [] = false
is_word (b ∷ bs) = is_letter b && list_all is_word_byte bs

-- a word that is not too long for a name
abbrev pub is_name : List ℕ → Bool
is_name bytes = is_word bytes && nat_le (length bytes) longest_name
