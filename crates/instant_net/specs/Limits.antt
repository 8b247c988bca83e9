-- Limits on what an instant may be made of. This project's own.
use Rattle.std.specs.Prelude.{ℕ, ◌+◌, ◌*◌}
use Rattle.agent_core.specs.Limits.{most_cells}

-- how many leaves an instant has at most
abbrev pub most_leaves : ℕ
most_leaves = 65536

-- how many roots an instant has at most: those that stay, and those that the leaves of the instant before start
abbrev pub most_roots : ℕ
most_roots = 131072

-- how many cells an instant has at most: a program's declared ones, and under each root one for each of its local ones
abbrev pub most_instant_cells : ℕ
most_instant_cells = most_cells + most_cells * most_roots
