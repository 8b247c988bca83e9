-- The names that texts can have. This project's own.
use Rattle.std.specs.Prelude.{◌≡◌, ℕ, ◌≤◌, List, length, Some}
use Rattle.names_and_numbers.specs.Limits.{longest_name}
use Rattle.program_lexemes.specs.declared.bytes.TextForm.{TextForm}
use Rattle.program_lexemes.specs.declared.bytes.TextForm.TheVariants as form
use Rattle.program_lexemes.specs.declared.lexer.LexKind.TheVariants as kind
use Rattle.program_lexemes.specs.Forms.{kind_of}

-- a name that a text of this form can have: a word that is no keyword, or in a core text a dollar and one to nine digits;
-- of 32 bytes at most
pub record IsName (form : TextForm) (name : List ℕ) : Type 0 where
  pub is : kind_of form name ≡ Some kind.Name
  pub short : length name ≤ longest_name

-- a name that a core text can have
abbrev pub IsCoreName : List ℕ → Type 0
IsCoreName = IsName form.Core
