-- Trace lines that are refused: which fault a line has. This project's own.
use Rattle.std.specs.Prelude.{◌≡◌, ℕ, ◌<◌, ◌≤◌, false, List, ◌∷◌, ◌++◌, length, None}
use Rattle.token_system.specs.declared.reading.Written.{Written}
use Rattle.token_system.specs.Texts.{IsTokenText}
use Rattle.agent_core.specs.declared.node.CellDecl.{CellDecl}
use Rattle.agent_core.specs.Agents.{Constraint}
use Rattle.agent_core.specs.Programs.{CoreProgram}
use Rattle.trace_text.specs.Limits.{longest_trace_line}
use Rattle.trace_text.specs.declared.fault.LineFault.{LineFault}
use Rattle.trace_text.specs.declared.fault.LineFault.TheVariants.{BadToken, UnknownName, WrongKind, LineTooLong, Memory}
use Rattle.trace_text.specs.Fields.{Field, fields}
use Rattle.trace_text.specs.Inputs.{declared_cell, name_in, text_fits, NamesCell, DenoteAll}

-- The field has the fault, at its own place: it is no text of a token, its name is that of no declared cell, or its token does not fit the cell of that name.
-- Out of memory says nothing of a field.
abbrev pub RefusesField : CoreProgram → Field → LineFault → Type 0
RefusesField p field (BadToken offset) = (offset ≡ field.offset) × ((w : Written) → IsTokenText field.bytes w → ⊥)
RefusesField p field (UnknownName offset) = (offset ≡ field.offset) × (w : Written) × IsTokenText field.bytes w × (declared_cell p (name_in field.bytes w) ≡ None)
RefusesField p field (WrongKind offset) = (offset ≡ field.offset) × (w : Written) × (cell : ℕ) × (d : CellDecl) × NamesCell p field.bytes w cell d × (text_fits d.cell w ≡ false)
RefusesField p field LineTooLong = ⊥
RefusesField p field Memory = Unit {0}

-- one of the fields has the fault, and each before it says tokens, so that none of those is refused
pub record IsFirstRefused (p : CoreProgram) (all : List Field) (fault : LineFault) : Type 0 where
  pub before : List Field
  pub field : Field
  pub after : List Field
  pub parts : all ≡ before ++ field ∷ after
  pub tokens : Constraint
  pub accepted : DenoteAll p before tokens
  pub refused : RefusesField p field fault

-- the fault is that of the first field that is refused; out of memory says nothing of the fields
abbrev pub RefusesFields : CoreProgram → List Field → LineFault → Type 0
RefusesFields p all Memory = Unit {0}
RefusesFields p all fault = IsFirstRefused p all fault

-- The line has the fault: it is over the limit of bytes, or it is within it and its first refused field has the fault. Out of memory says no more than that the line is within the limit.
abbrev pub RefusesLine : CoreProgram → List ℕ → LineFault → Type 0
RefusesLine p line LineTooLong = longest_trace_line < length line
RefusesLine p line fault = (length line ≤ longest_trace_line) × RefusesFields p (fields line) fault
