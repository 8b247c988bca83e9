-- How many strata a table of numbers has. This project's own.
use Rattle.std.specs.Prelude.{ℕ, suc, max, List, [], ◌∷◌}

-- the greatest of the numbers plus one, or 0 where there are none
abbrev pub strata_of : List ℕ → ℕ
strata_of [] = 0
strata_of (n ∷ table) = max (suc n) (strata_of table)
