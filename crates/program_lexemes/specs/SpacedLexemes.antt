-- Texts that are put together from lexemes and white space, as a printer writes them. This project's own.
use Rattle.std.specs.Prelude.{◌≡◌, ℕ, ◌+◌, List, [], ◌∷◌, ◌++◌, length, Bool, true, false, Some}
use Rattle.std.specs.List.{list_all}
use Rattle.program_lexemes.specs.declared.lexer.LexKind.{LexKind}
use Rattle.program_lexemes.specs.declared.lexer.LexKind.TheVariants as kind
use Rattle.program_lexemes.specs.declared.lexer.Lexeme.{Lexeme}
use Rattle.program_lexemes.specs.declared.bytes.TextForm.{TextForm}
use Rattle.program_lexemes.specs.Spellings.{is_symbol}
use Rattle.program_lexemes.specs.Forms.{is_digit, is_word_byte, is_white, kind_of}

-- a lexeme's bytes, and the white space behind it
pub record SpacedLexeme : Type 0 where
  pub bytes : List ℕ
  pub kind : LexKind
  pub space : List ℕ

-- the text of some pieces
abbrev pub spaced_text : List SpacedLexeme → List ℕ
spaced_text [] = []
spaced_text (p ∷ ps) = p.bytes ++ (p.space ++ spaced_text ps)

-- where the lexemes stand, if the pieces begin at this place
abbrev pub spans : ℕ → List SpacedLexeme → List Lexeme
spans at [] = []
spans at (p ∷ ps) = record { kind = p.kind; start = at; end = at + length p.bytes } ∷ spans (at + length p.bytes + length p.space) ps

-- a lexeme of this kind and with these bytes would go on with the byte
abbrev pub goes_on : LexKind → List ℕ → ℕ → Bool
goes_on kind.Name bytes b = is_word_byte b
goes_on kind.Keyword bytes b = is_word_byte b
goes_on kind.Number bytes b = is_digit b
goes_on kind.Symbol bytes b = is_symbol (bytes ++ b ∷ [])

-- the first byte, if there is one, fails the test
abbrev pub stops : (ℕ → Bool) → List ℕ → Type 0
stops test [] = Unit {0}
stops test (b ∷ bs) = test b ≡ false

-- the piece is a lexeme with white space behind it, and the lexeme does not go on with what follows it
pub record IsCut (form : TextForm) (p : SpacedLexeme) (rest : List ℕ) : Type 0 where
  pub is : kind_of form p.bytes ≡ Some p.kind
  pub white : list_all is_white p.space ≡ true
  pub cut : stops (goes_on p.kind p.bytes) (p.space ++ rest)

-- each piece is cut from what follows it
abbrev pub AreCut : TextForm → List SpacedLexeme → Type 0
AreCut form [] = Unit {0}
AreCut form (p ∷ ps) = IsCut form p (spaced_text ps) × AreCut form ps
