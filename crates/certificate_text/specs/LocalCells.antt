-- Which local cells there can be at an instant, and the bytes that say something of one. This project's own.
use Rattle.std.specs.Prelude.{◌≡◌, ℕ, Bool, true, ◌&&◌, List, [], ◌∷◌, Option, Some, None, IsTrue, nat_le}
use Rattle.token_system.specs.declared.cell.Cell.{Cell}
use Rattle.token_system.specs.declared.cell.Token.{Token}
use Rattle.token_system.specs.declared.name.CellName.{CellName}
use Rattle.token_system.specs.declared.name.CellName.TheVariants.{Declared, Local}
use Rattle.token_system.specs.Stores.{StoreMap, after_tell}
use Rattle.token_system.specs.Tokens.{token_fits}
use Rattle.agent_core.specs.declared.node.CellDecl.{CellDecl}
use Rattle.agent_core.specs.Names.{Names}
use Rattle.agent_core.specs.Programs.{CoreProgram}
use Rattle.trace_text.specs.Inputs.{fits_if_some}
use Rattle.certificate_text.specs.LocalTokens.{IsLocalTokenText}

-- each birth is one from the least on and up to the instant, and none is less than the one before it
abbrev pub are_births : ℕ → ℕ → List ℕ → Bool
are_births least t [] = true
are_births least t (birth ∷ later) = nat_le least birth && (nat_le birth t && are_births birth t later)

-- the births of a name are births up to instant t; a declared name has none
abbrev pub IsBornBy : ℕ → CellName → Type 0
IsBornBy t (Declared n) = Unit {0}
IsBornBy t (Local node births) = IsTrue (are_births 0 t births)

-- the name is that of a local cell which the program can have at instant t, and the cell is of this kind
pub record IsLocalCell (p : CoreProgram) (t : ℕ) (name : CellName) (c : Cell) : Type 0 where
  pub node : ℕ
  pub births : List ℕ
  pub local : name ≡ Local node births
  pub decl : CellDecl
  pub named : Names p (Local node births) decl
  pub kind : decl.cell ≡ c
  pub born : IsTrue (are_births 0 t births)

-- a token fits the cell, and so does a second one, where there is one
abbrev pub both_fit : Cell → Token → Option Token → Bool
both_fit c first second = token_fits c first && fits_if_some c second

-- the bytes are the text of a token of this local cell, and mean these tokens, which fit it
pub record IsSaidOfLocal (p : CoreProgram) (t : ℕ) (bytes : List ℕ) (name : CellName) (c : Cell) (first : Token) (second : Option Token) : Type 0 where
  pub text : IsLocalTokenText bytes name first second
  pub cell : IsLocalCell p t name c
  pub fits : IsTrue (both_fit c first second)

-- the store after one token of a named cell is told, where there is one
abbrev pub told_if : CellName → Cell → Option Token → StoreMap → StoreMap
told_if name c None u = u
told_if name c (Some t) u = after_tell u name c t

-- the store after a token of a named cell is told, and then a second one, where there is one
abbrev pub told_both : CellName → Cell → Token → Option Token → StoreMap → StoreMap
told_both name c first second u = told_if name c second (after_tell u name c first)
