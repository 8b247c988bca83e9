-- The lexemes of a text: the longest one at each place, with white space before, between and behind them, and the first
-- byte at which none begins. This project's own.
use Rattle.std.specs.Prelude.{◌≡◌, ℕ, ◌+◌, ◌-◌, ◌<◌, ◌≤◌, List, [], ◌∷◌, true, false, length, take, drop, Some, None, IsSome, slice_index}
use Rattle.program_lexemes.specs.declared.lexer.LexKind.{LexKind}
use Rattle.program_lexemes.specs.declared.lexer.Lexeme.{Lexeme}
use Rattle.program_lexemes.specs.declared.lexer.LexFault.{LexFault}
use Rattle.program_lexemes.specs.declared.lexer.LexFault.TheVariants.{Bad, Memory}
use Rattle.program_lexemes.specs.declared.bytes.TextForm.{TextForm}
use Rattle.program_lexemes.specs.Forms.{kind_of, is_white}

-- so many first bytes are a lexeme of this kind, and no more are one
pub record IsLongest (form : TextForm) (bytes : List ℕ) (size : ℕ) (kind : LexKind) : Type 0 where
  pub within : size ≤ length bytes
  pub is : kind_of form (take size bytes) ≡ Some kind
  pub longest : (n : ℕ) → n ≤ length bytes → IsSome (kind_of form (take n bytes)) → n ≤ size

-- no lexeme begins here
abbrev pub NoLexeme : TextForm → List ℕ → Type 0
NoLexeme form bytes = (n : ℕ) → n ≤ length bytes → kind_of form (take n bytes) ≡ None

-- white space from one place to another
pub record AreWhite (text : List ℕ) (start stop : ℕ) : Type 0 where
  pub ordered : start ≤ stop
  pub within : stop ≤ length text
  pub each : (place : ℕ) → start ≤ place → place < stop → is_white (slice_index text place) ≡ true

-- the longest lexeme that begins at its place
pub record IsLexeme (form : TextForm) (text : List ℕ) (l : Lexeme) : Type 0 where
  pub size : ℕ
  pub ends : l.end ≡ l.start + size
  pub longest : IsLongest form (drop l.start text) size l.kind

-- from the one place to the other the text is these lexemes, with white space before, between and behind them
abbrev pub Reads : TextForm → List ℕ → ℕ → List Lexeme → ℕ → Type 0
Reads form text start [] stop = AreWhite text start stop
Reads form text start (l ∷ ls) stop = AreWhite text start l.start × IsLexeme form text l × Reads form text l.end ls stop

-- these are the lexemes of the text
abbrev pub AreLexemes : TextForm → List ℕ → List Lexeme → Type 0
AreLexemes form text ls = Reads form text 0 ls (length text)

-- the first byte at which neither white space nor a lexeme begins
pub record IsBad (form : TextForm) (text : List ℕ) (offset : ℕ) : Type 0 where
  pub within : offset < length text
  pub dark : is_white (slice_index text offset) ≡ false
  pub none : NoLexeme form (drop offset text)
  pub before : (ls : List Lexeme) × Reads form text 0 ls offset

-- a bad byte is at its offset, and out of memory says nothing of the text
abbrev pub IsLexFault : TextForm → List ℕ → LexFault → Type 0
IsLexFault form text (Bad offset) = IsBad form text offset
IsLexFault form text Memory = Unit {0}

-- the bytes of a lexeme
abbrev pub bytes_of_lexeme : List ℕ → Lexeme → List ℕ
bytes_of_lexeme text l = take (l.end - l.start) (drop l.start text)

-- the lexeme lies in the text, has a byte at least, and its bytes are of its kind
pub record IsIn (form : TextForm) (text : List ℕ) (l : Lexeme) : Type 0 where
  pub ordered : l.start < l.end
  pub within : l.end ≤ length text
  pub is : kind_of form (bytes_of_lexeme text l) ≡ Some l.kind
