-- What is proved of the lines themselves. This project's own.
use Rattle.std.specs.Prelude.{◌≡◌, ◌≢◌, ℕ, List, ◌++◌, codes, Some, slice_get}
use Rattle.agent_core.specs.Programs.{CoreProgram}
use Rattle.instant_net.specs.declared.parts.NetCell.{NetCell}
use Rattle.instant_net.specs.Nets.{Flat}
use Rattle.instant_core.specs.declared.step.CoreStep.{CoreStep}
use Rattle.step_lines.specs.WordNames.{name_text}
use Rattle.step_lines.specs.StepLines.{IsStepLine}

-- no two cells have the same name, and none has a name that ends as that of a number's word
pub record HaveOwnNames (p : CoreProgram) (cells : List NetCell) : Type 0 where
  pub distinct : (j k : ℕ) (c d : NetCell) → slice_get cells j ≡ Some c → slice_get cells k ≡ Some d → name_text p c.name ≡ name_text p d.name → j ≡ k
  pub not_lower : (k : ℕ) (c : NetCell) (front : List ℕ) → slice_get cells k ≡ Some c → name_text p c.name ≢ front ++ codes ".lo"
  pub not_upper : (k : ℕ) (c : NetCell) (front : List ℕ) → slice_get cells k ≡ Some c → name_text p c.name ≢ front ++ codes ".hi"

-- where each cell of the net has a name of its own, a line says one step at most
abbrev pub LinesSayOneStep : Type 0
LinesSayOneStep = (p : CoreProgram) (net : Flat) (line : List ℕ) (a b : CoreStep) → HaveOwnNames p net.cells → IsStepLine p net line a → IsStepLine p net line b → a ≡ b
