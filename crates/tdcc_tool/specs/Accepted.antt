-- Which texts run, and as which programs: those that keep the limits of nodes and cells, and do not depend on their own absence. This project's own.
use Rattle.std.specs.Prelude.{ℕ, ◌≤◌, List, length}
use Rattle.agent_core.specs.Programs.{CoreProgram}
use Rattle.agent_core.specs.Strata.{Stratifies}
use Rattle.agent_core.specs.Limits.{most_cells, most_nodes}
use Rattle.tdcc_reader.specs.Surfaces.{SurfaceProgram}
use Rattle.tdcc_reader.specs.declared.dialect.Dialect.TheVariants.{Program}
use Rattle.tdcc_reader.specs.Texts.{ReadsAs}
use Rattle.expansion_laws.specs.Expansions.{IsExpansion}

-- the program is that of the surface, and is within the limits
pub record IsExpandedTo (s : SurfaceProgram) (p : CoreProgram) : Type 0 where
  pub expansion : IsExpansion s p
  pub few_nodes : length p.nodes ≤ most_nodes
  pub few_cells : length p.cells ≤ most_cells

-- the text is this program's, which is within the limits
pub record IsTextOf (text : List ℕ) (p : CoreProgram) : Type 0 where
  pub surface : SurfaceProgram
  pub reads : ReadsAs Program text surface
  pub core : IsExpandedTo surface p

-- and some table of numbers stratifies it
pub record IsAccepted (text : List ℕ) (p : CoreProgram) : Type 0 where
  pub built : IsTextOf text p
  pub table : List ℕ
  pub stratified : Stratifies p table
