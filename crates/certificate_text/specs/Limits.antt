-- The limits of certificates. This project's own.
use Rattle.std.specs.Prelude.{ℕ}

-- the most bytes of a line of an entry, without a line feed at its end
abbrev pub longest_entry_line : ℕ
longest_entry_line = 1048576
