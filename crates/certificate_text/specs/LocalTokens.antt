-- The texts of tokens of local cells: as those of declared cells, with the name of a local cell in place of theirs. This project's own.
use Rattle.std.specs.Prelude.{◌≡◌, ℕ, Bool, ◌||◌, ◌==◌, List, ◌++◌, length, position, unwrap_or, take, drop, codes, Option, Some, None}
use Rattle.token_system.specs.declared.cell.Token.{Token}
use Rattle.token_system.specs.declared.cell.Token.TheVariants.{Off, Clash}
use Rattle.token_system.specs.declared.name.CellName.{CellName}
use Rattle.token_system.specs.Texts.{IsTail}
use Rattle.certificate_text.specs.LocalNames.{local_name_of}

-- > < =
abbrev pub begins_tail : ℕ → Bool
begins_tail b = (b == 62) || (b == 60) || (b == 61)

-- where the name ends: before the first relation, if there is one
abbrev pub name_end : List ℕ → ℕ
name_end bytes = unwrap_or (position begins_tail bytes) (length bytes)

-- the bytes are the text of a token of the local cell of this name, and mean these tokens
pub data IsLocalTokenText (bytes : List ℕ) (name : CellName) (first : Token) (second : Option Token) : Type 0 where
  off : (text : List ℕ) → bytes ≡ codes "!" ++ text → local_name_of text ≡ Some name → first ≡ Off → second ≡ None → IsLocalTokenText bytes name first second
  clash : (text : List ℕ) → bytes ≡ codes "#" ++ text → local_name_of text ≡ Some name → first ≡ Clash → second ≡ None → IsLocalTokenText bytes name first second
  plain : local_name_of (take (name_end bytes) bytes) ≡ Some name → IsTail (drop (name_end bytes) bytes) first second → IsLocalTokenText bytes name first second
