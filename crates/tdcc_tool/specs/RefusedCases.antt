-- Why a program is refused that depends on its own absence. This project's own.
use Rattle.std.specs.Prelude.{◌≡◌, ℕ}
use Rattle.agent_core.specs.Programs.{CoreProgram}
use Rattle.agent_core.specs.Strata.{Edge, HasNoTable, IsFirstCase}

-- no table stratifies the program, and this is the first case in which a cell that is told below an else reaches one that the else asks for
pub record IsRefusedCase (p : CoreProgram) (guard told node : ℕ) : Type 0 where
  pub none : HasNoTable p
  pub edge : Edge
  pub first : IsFirstCase p edge
  pub guard_is : edge.guard.cell ≡ guard
  pub told_is : edge.told ≡ told
  pub node_is : edge.guard.node ≡ node
