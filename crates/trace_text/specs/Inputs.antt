-- Trace lines: which input a line gives. Each field is the text of a token of a declared cell, and the input is the least store that entails them all. This project's own.
use Rattle.std.specs.Prelude.{◌≡◌, ℕ, ◌≤◌, Bool, true, ◌&&◌, List, [], ◌∷◌, ◌++◌, length, take, Option, Some, None, IsTrue, nat_eq, slice_get}
use Rattle.std.specs.List.{position, slice_range}
use Rattle.std.specs.Cmp.Lexicographic.{pointwise}
use Rattle.token_system.specs.declared.cell.Cell.{Cell}
use Rattle.token_system.specs.declared.cell.Token.{Token}
use Rattle.token_system.specs.declared.reading.Written.{Written}
use Rattle.token_system.specs.Tokens.{token_fits}
use Rattle.token_system.specs.Texts.{IsTokenText}
use Rattle.token_system.specs.Stores.{StoreMap}
use Rattle.agent_core.specs.declared.node.CellDecl.{CellDecl}
use Rattle.agent_core.specs.Agents.{Constraint}
use Rattle.agent_core.specs.Programs.{CoreProgram}
use Rattle.agent_core.specs.Stores.{IsStore, IsInput, Below}
use Rattle.agent_core.specs.Rests.{entails}
use Rattle.trace_text.specs.Limits.{longest_trace_line}
use Rattle.trace_text.specs.Fields.{Field, fields}

-- the number of the declared cell of this name: the first one, where several have it
abbrev pub declared_cell : CoreProgram → List ℕ → Option ℕ
declared_cell p name = position (λ d. pointwise nat_eq d.name name) (take p.declared p.cells)

-- the name that stands in the text of a token
abbrev pub name_in : List ℕ → Written → List ℕ
name_in bytes w = slice_range bytes w.name_start w.name_end

-- a token of the cell with this number, if there is one
abbrev pub tokens_if : ℕ → Option Token → Constraint
tokens_if cell None = []
tokens_if cell (Some t) = (cell, t) ∷ []

-- the tokens that a text means, of the cell with this number: one, or the two bounds of `x=3`
abbrev pub tokens_of : ℕ → Written → Constraint
tokens_of cell w = (cell, w.first) ∷ tokens_if cell w.second

abbrev pub fits_if_some : Cell → Option Token → Bool
fits_if_some c None = true
fits_if_some c (Some t) = token_fits c t

-- each token that a text means fits the cell
abbrev pub text_fits : Cell → Written → Bool
text_fits c w = token_fits c w.first && fits_if_some c w.second

-- the bytes are the text of a token, and it names this declared cell
pub record NamesCell (p : CoreProgram) (bytes : List ℕ) (w : Written) (cell : ℕ) (d : CellDecl) : Type 0 where
  pub text : IsTokenText bytes w
  pub named : declared_cell p (name_in bytes w) ≡ Some cell
  pub found : slice_get p.cells cell ≡ Some d

-- the bytes are the text of a token of a declared cell, and mean these tokens
pub record Denotes (p : CoreProgram) (bytes : List ℕ) (tokens : Constraint) : Type 0 where
  pub written : Written
  pub cell : ℕ
  pub decl : CellDecl
  pub names : NamesCell p bytes written cell decl
  pub fits : IsTrue (text_fits decl.cell written)
  pub meant : tokens ≡ tokens_of cell written

-- each of the fields says some tokens, and together, in order, they say these
abbrev pub DenoteAll : CoreProgram → List Field → Constraint → Type 0
DenoteAll p [] tokens = tokens ≡ []
DenoteAll p (field ∷ later) tokens = (first rest : Constraint) × Denotes p field.bytes first × DenoteAll p later rest × (tokens ≡ first ++ rest)

-- the line is within the limit of bytes and gives the input: the least store that entails the tokens of its fields
pub record GivesInput (p : CoreProgram) (line : List ℕ) (i : StoreMap) : Type 0 where
  pub short : length line ≤ longest_trace_line
  pub tokens : Constraint
  pub said : DenoteAll p (fields line) tokens
  pub input : IsInput p i
  pub tells : IsTrue (entails p [] i tokens)
  pub least : (u : StoreMap) → IsStore p u → IsTrue (entails p [] u tokens) → Below p i u
