-- The levels of leaves, and what the leaves that a store runs tell. This project's own.
use Rattle.std.specs.Prelude.{ℕ, min, cond, List, [], ◌∷◌, slice_index}
use Rattle.token_system.specs.Stores.{StoreMap}
use Rattle.agent_core.specs.Agents.{Constraint}
use Rattle.agent_core.specs.Programs.{CoreProgram}
use Rattle.agent_core.specs.Tellings.{tell_all}
use Rattle.agent_core.specs.Leaves.{Leaf, tells, runs}

-- the least number of a told cell, or this number where that is less
abbrev pub least_told : List ℕ → ℕ → Constraint → ℕ
least_told table s [] = s
least_told table s (x ∷ told) = min (slice_index table x.0) (least_told table s told)

-- the level of a leaf: the least stratum of its told cells, of s strata; a leaf that tells nothing has the level s
abbrev pub leaf_level : List ℕ → ℕ → Leaf → ℕ
leaf_level table s l = least_told table s (tells l.agent)

-- the store after those of the leaves have told that v runs
abbrev pub tell_ran : CoreProgram → StoreMap → List Leaf → StoreMap → StoreMap
tell_ran p v [] u = u
tell_ran p v (l ∷ ls) u = tell_ran p v ls (cond (runs p v l) (tell_all p l.births (tells l.agent) u) u)
