-- Why a program text is refused: its reading refuses it, or its core program would be too large. This project's own.
use Rattle.std.specs.Prelude.{◌≢◌, ℕ, List}
use Rattle.tdcc_reader.specs.declared.fault.ReadFault.{ReadFault}
use Rattle.tdcc_reader.specs.declared.fault.ReadFault.TheVariants.{Memory, TooManyNodes, TooManyCells}
use Rattle.tdcc_reader.specs.declared.dialect.Dialect.TheVariants.{Program}
use Rattle.tdcc_reader.specs.Refusals.{Refuses}
use Rattle.tdcc_reader.specs.Surfaces.{SurfaceProgram}
use Rattle.tdcc_reader.specs.Texts.{ReadsAs}
use Rattle.derived_forms.specs.declared.fault.ExpandFault.TheVariants as sizes
use Rattle.derived_forms.specs.Refusals as expansion

-- the text has the fault; out of memory is none
pub data HasFault (text : List ℕ) : ReadFault → Type 0 where
  misread : (fault : ReadFault) → fault ≢ Memory → Refuses Program text fault → HasFault text fault
  many_nodes : (s : SurfaceProgram) → ReadsAs Program text s → expansion.RefusesExpansion s sizes.TooManyNodes → HasFault text TooManyNodes
  many_cells : (s : SurfaceProgram) → ReadsAs Program text s → expansion.RefusesExpansion s sizes.TooManyCells → HasFault text TooManyCells
