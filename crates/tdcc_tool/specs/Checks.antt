-- What is written of a program that is accepted: how large it is, and the stratum of each cell. This project's own.
use Rattle.std.specs.Prelude.{◌≡◌, ℕ, List, [], ◌++◌, length, codes, decimal, flat_map, slice_get, slice_index}
use Rattle.std.specs.List.{range_with_len}
use Rattle.tdcc_base.specs.declared.status.Status.{Status}
use Rattle.tdcc_base.specs.declared.status.Status.TheVariants as statuses
use Rattle.agent_core.specs.Programs.{CoreProgram}
use Rattle.agent_core.specs.Strata.{Stratifies, IsLeastTable}
use Rattle.agent_core.specs.StrataCounts.{strata_of}
use Rattle.tdcc_tool.specs.Messages.{cell_name}

-- how many cells, nodes and strata there are
abbrev pub size_line : CoreProgram → List ℕ → List ℕ
size_line p table =
    codes "accepted: " ++ decimal (length p.cells) ++ codes " cells, " ++ decimal (length p.nodes) ++ codes " nodes, " ++ decimal (strata_of table) ++ codes " strata\n"

-- a cell's name and its number
abbrev pub cell_line : CoreProgram → List ℕ → ℕ → List ℕ
cell_line p table n = cell_name (slice_get p.cells n) ++ codes " " ++ decimal (slice_index table n) ++ codes "\n"

-- the line of the sizes, and then a line for each cell
abbrev pub check_text : CoreProgram → List ℕ → List ℕ
check_text p table = size_line p table ++ flat_map (cell_line p table) (range_with_len 0 (length p.cells))

-- the answer that is the text of the least table
pub record CheckAnswer (p : CoreProgram) (status : Status) (out err : List ℕ) : Type 0 where
  pub table : List ℕ
  pub stratified : Stratifies p table
  pub least : IsLeastTable p table
  pub is : status ≡ statuses.Ok
  pub written : out ≡ check_text p table
  pub nothing : err ≡ []
