-- How a step names a word of an instant: a signal's name is that of the word which holds it, and the two words of a number are its name with `.lo` and `.hi` behind it. This project's own.
use Rattle.std.specs.Prelude.{◌≡◌, ℕ, ◌+◌, List, [], ◌++◌, codes, slice_get, Option, Some, None}
use Rattle.token_system.specs.declared.cell.Kind.TheVariants.{Signal, Number}
use Rattle.token_system.specs.declared.name.CellName.{CellName}
use Rattle.token_system.specs.declared.name.CellName.TheVariants.{Declared, Local}
use Rattle.agent_core.specs.declared.node.CellDecl.{CellDecl}
use Rattle.agent_core.specs.Programs.{CoreProgram}
use Rattle.certificate_text.specs.LocalNames.{local_text}
use Rattle.instant_net.specs.declared.parts.NetCell.{NetCell}

-- the name in a declaration, where there is one
abbrev pub declared_text : Option CellDecl → List ℕ
declared_text (Some d) = d.name
declared_text None = []

-- a cell's name as it is written: that of its declaration, or as `@3.0.1` that of new node 3 under births 0 and 1
abbrev pub name_text : CoreProgram → CellName → List ℕ
name_text p (Declared n) = declared_text (slice_get p.cells n)
name_text p (Local node births) = local_text node births

-- behind the cell's name this ending names this word
pub data HasEnding (c : NetCell) (ending : List ℕ) (word : ℕ) : Type 0 where
  signal : c.cell.kind ≡ Signal → ending ≡ [] → word ≡ c.word → HasEnding c ending word
  lower : c.cell.kind ≡ Number → ending ≡ codes ".lo" → word ≡ c.word → HasEnding c ending word
  upper : c.cell.kind ≡ Number → ending ≡ codes ".hi" → word ≡ c.word + 1 → HasEnding c ending word

-- the text is the cell's name with the ending of this word
abbrev pub NamesWordOf : CoreProgram → NetCell → List ℕ → ℕ → Type 0
NamesWordOf p c text word = (ending : List ℕ) × (text ≡ name_text p c.name ++ ending) × HasEnding c ending word

-- the text names this word of one of the cells
abbrev pub NamesWord : CoreProgram → List NetCell → List ℕ → ℕ → Type 0
NamesWord p cells text word = (k : ℕ) × (c : NetCell) × (slice_get cells k ≡ Some c) × NamesWordOf p c text word
