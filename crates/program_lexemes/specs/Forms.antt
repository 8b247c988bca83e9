-- Which bytes are a lexeme, and of which kind, in a program text and in a core text. This project's own syntax.
use Rattle.std.specs.Prelude.{ℕ, List, [], ◌∷◌, Bool, false, ◌||◌, nat_eq, if◌then◌else◌, Option, Some, None}
use Rattle.std.specs.List.{list_all}
pub use Rattle.names_and_numbers.specs.Names.{is_letter, is_digit, is_word_byte}
pub use Rattle.names_and_numbers.specs.Numbers.{is_minus, are_digits, are_few_digits}
use Rattle.program_lexemes.specs.Spellings.{is_keyword, is_symbol}
use Rattle.program_lexemes.specs.declared.lexer.LexKind.{LexKind}
use Rattle.program_lexemes.specs.declared.lexer.LexKind.TheVariants as kind
use Rattle.program_lexemes.specs.declared.bytes.TextForm.{TextForm}
use Rattle.program_lexemes.specs.declared.bytes.TextForm.TheVariants.{Program, Core}

-- a space, tab, carriage return or line feed
abbrev pub is_white : ℕ → Bool
is_white b = nat_eq b 32 || nat_eq b 9 || nat_eq b 13 || nat_eq b 10

-- $, which begins a name in core texts alone
abbrev pub is_dollar : TextForm → ℕ → Bool
is_dollar Program b = false
is_dollar Core b = nat_eq b 36

-- a word is a keyword or a name
abbrev pub word_kind : List ℕ → LexKind
word_kind bytes = if is_keyword bytes then kind.Keyword else kind.Name

-- this kind, where the test holds
abbrev pub kind_if : Bool → LexKind → Option LexKind
kind_if test k = if test then Some k else None

-- The kind of the lexeme that these bytes are, by their first one: a word is a letter and then word bytes, a number is
-- digits, or a minus and digits, a name of a core text is a dollar and one to nine digits, and a symbol is one of the list.
abbrev pub kind_of : TextForm → List ℕ → Option LexKind
kind_of form [] = None
kind_of form (b ∷ bs) =
    if is_letter b then kind_if (list_all is_word_byte bs) (word_kind (b ∷ bs))
    else (if is_digit b then kind_if (list_all is_digit bs) kind.Number
    else (if is_minus b then kind_if (are_digits bs) kind.Number
    else (if is_dollar form b then kind_if (are_few_digits bs) kind.Name
    else kind_if (is_symbol (b ∷ bs)) kind.Symbol)))
