-- How large a program may be, and how long a run. This project's own.
use Rattle.std.specs.Prelude.{ℕ}

-- the most nodes that a program may have
abbrev pub most_nodes : ℕ
most_nodes = 4096

-- the most cells that a program may have, declared and local
abbrev pub most_cells : ℕ
most_cells = 1024

-- the most cells that a program may declare
abbrev pub most_declared_cells : ℕ
most_declared_cells = 256

-- how many instants a run has at most
abbrev pub most_instants : ℕ
most_instants = 65536
