-- The greatest numbers of words and settings, and the numbers where none is set. This project's own.
use Rattle.std.specs.Prelude.{ℕ}

-- the most digits of a number among the words of a call
abbrev pub most_word_digits : ℕ
most_word_digits = 9

-- the most workers
abbrev pub most_workers : ℕ
most_workers = 64

-- the greatest number of agents that may run, the greatest of so many digits
abbrev pub greatest_fuel : ℕ
greatest_fuel = 999999999

-- and how many may run where no fuel is set
abbrev pub default_fuel : ℕ
default_fuel = 100000000

-- the most leaves that an instant may have
abbrev pub greatest_net : ℕ
greatest_net = 65536

-- and how many it may have where no net is set
abbrev pub default_net : ℕ
default_net = greatest_net

-- the most lines of a generated trace
abbrev pub most_generated_lines : ℕ
most_generated_lines = 65536
