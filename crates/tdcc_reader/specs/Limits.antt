-- What a text may have at most. This project's own.
use Rattle.std.specs.Prelude.{ℕ}

-- the greatest depth of a unit of a program text
abbrev pub greatest_depth : ℕ
greatest_depth = 64

-- the greatest depth of a unit of a core text
abbrev pub greatest_core_depth : ℕ
greatest_core_depth = 8192

-- the most tokens of a constraint as it is written in a program text
abbrev pub most_written_tokens : ℕ
most_written_tokens = 8

-- the most tokens of a constraint, where a written x=n is two
abbrev pub most_constraint_tokens : ℕ
most_constraint_tokens = 16
