-- The texts of tokens: `s`, `!s`, `#s`, `x>=3`, `x<=3` and `x=3`. This project's own.
use Rattle.std.specs.Prelude.{◌≡◌, ℕ, ◌+◌, ℤ, List, [], ◌++◌, length, codes, Option, Some, None, IsTrue}
use Rattle.std.specs.Fmt.{signed_decimal}
pub use Rattle.names_and_numbers.specs.Names.{is_name, is_word_byte}
pub use Rattle.names_and_numbers.specs.Numbers.{number_of_text}
use Rattle.token_system.specs.declared.cell.Token.{Token}
use Rattle.token_system.specs.declared.cell.Token.TheVariants.{On, Off, AtLeast, AtMost, Clash}
use Rattle.token_system.specs.declared.reading.Written.{Written}

-- the text of a token of the named cell
abbrev pub text_of : List ℕ → Token → List ℕ
text_of name On = name
text_of name Off = codes "!" ++ name
text_of name Clash = codes "#" ++ name
text_of name (AtLeast k) = name ++ codes ">=" ++ signed_decimal k
text_of name (AtMost k) = name ++ codes "<=" ++ signed_decimal k

-- what follows the name in a token's text, and the tokens that it makes
pub data IsTail (bytes : List ℕ) (first : Token) (second : Option Token) : Type 0 where
  alone : bytes ≡ [] → first ≡ On → second ≡ None → IsTail bytes first second
  at_least : (number : List ℕ) (k : ℤ) → bytes ≡ codes ">=" ++ number → number_of_text number ≡ Some k → first ≡ AtLeast k → second ≡ None → IsTail bytes first second
  at_most : (number : List ℕ) (k : ℤ) → bytes ≡ codes "<=" ++ number → number_of_text number ≡ Some k → first ≡ AtMost k → second ≡ None → IsTail bytes first second
  exactly : (number : List ℕ) (k : ℤ) → bytes ≡ codes "=" ++ number → number_of_text number ≡ Some k → first ≡ AtLeast k → second ≡ Some (AtMost k) → IsTail bytes first second

-- the bytes are a name and what follows it, and that means these tokens
pub record IsNamed (bytes : List ℕ) (w : Written) : Type 0 where
  pub name : List ℕ
  pub rest : List ℕ
  pub parts : bytes ≡ name ++ rest
  pub is_a_name : IsTrue (is_name name)
  pub tail : IsTail rest w.first w.second
  pub start : w.name_start ≡ 0
  pub ends : w.name_end ≡ length name

-- the name stands after one byte, and the text means this token
abbrev pub marked_name : List ℕ → Token → Written
marked_name name t = record { name_start = 1; name_end = length name + 1; first = t; second = None }

-- what the text of a token of the named cell means: that token alone
abbrev pub written_of : List ℕ → Token → Written
written_of name On = record { name_start = 0; name_end = length name; first = On; second = None }
written_of name Off = marked_name name Off
written_of name Clash = marked_name name Clash
written_of name (AtLeast k) = record { name_start = 0; name_end = length name; first = AtLeast k; second = None }
written_of name (AtMost k) = record { name_start = 0; name_end = length name; first = AtMost k; second = None }

-- the bytes are the whole text of a token, whose name stands at these places and that means these tokens
pub data IsTokenText (bytes : List ℕ) (w : Written) : Type 0 where
  off : (name : List ℕ) → bytes ≡ codes "!" ++ name → IsTrue (is_name name) → w ≡ marked_name name Off → IsTokenText bytes w
  clash : (name : List ℕ) → bytes ≡ codes "#" ++ name → IsTrue (is_name name) → w ≡ marked_name name Clash → IsTokenText bytes w
  plain : IsNamed bytes w → IsTokenText bytes w
