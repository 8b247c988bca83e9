-- Which names and numbers are too long. This project's own.
use Rattle.std.specs.Prelude.{ℕ, List, length, Bool, false, nat_lt}
pub use Rattle.names_and_numbers.specs.Numbers.{digits_of, is_number_text, value_of_number}
use Rattle.names_and_numbers.specs.Limits.{longest_name, most_digits}
use Rattle.program_lexemes.specs.declared.lexer.LexKind.{LexKind}
use Rattle.program_lexemes.specs.declared.lexer.LexKind.TheVariants as kind

-- a name of more than 32 bytes, or a number of more than 9 digits
abbrev pub is_long : LexKind → List ℕ → Bool
is_long kind.Name bytes = nat_lt longest_name (length bytes)
is_long kind.Keyword bytes = false
is_long kind.Number bytes = nat_lt most_digits (length (digits_of bytes))
is_long kind.Symbol bytes = false
