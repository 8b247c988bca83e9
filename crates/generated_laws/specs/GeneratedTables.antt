-- The table of a generated program: the signal j has the number j, and the numbers have 32. What a `when` hides has 0, as nothing
-- is asked for where it is told; and what a `watching` hides has the number of the signal that ends it. This project's own.
use Rattle.std.specs.Prelude.{ℕ, ◌<◌, List, [], ◌∷◌, ◌++◌, length, map, flat_map}
use Rattle.std.specs.List.{range_with_len}
use Rattle.agent_core.specs.Programs.{CoreProgram}
use Rattle.agent_core.specs.WellFormed.{IsWellFormed}
use Rattle.agent_core.specs.Strata.{Stratifies}
use Rattle.generated_laws.specs.GeneratedUnits.{GeneratedUnit, Starts, Ends, generated_units}

-- the numbers of the hidden cells of a part
abbrev pub part_levels : GeneratedUnit → List ℕ
part_levels (Starts g j) = 0 ∷ []
part_levels (Ends g j h) = h ∷ []
part_levels _ = []

-- the numbers of the declared cells
unfoldable pub declared_levels : List ℕ
declared_levels = range_with_len 0 32 ++ map (λ i. 32) (range_with_len 0 8)

abbrev pub table : ℕ → List ℕ
table n = declared_levels ++ flat_map part_levels (generated_units n)

-- a program far below the limits, with this table
pub record IsSmall (p : CoreProgram) (levels : List ℕ) : Type 0 where
  pub is : IsWellFormed p
  pub few_nodes : length p.nodes < 900
  pub few_cells : length p.cells < 80
  pub stratified : Stratifies p levels
