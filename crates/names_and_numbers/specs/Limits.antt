-- How long names and numbers may be. This project's own.
use Rattle.std.specs.Prelude.{ℕ}

-- the most bytes that a name may have
abbrev pub longest_name : ℕ
longest_name = 32

-- the most digits that a number may have
abbrev pub most_digits : ℕ
most_digits = 9
