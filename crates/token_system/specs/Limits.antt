-- How large numbers may be. This project's own.
use Rattle.std.specs.Prelude.{ℤ, pos}

-- the greatest number that a bound may name and a domain may have; the least is its negation
abbrev pub greatest_bound : ℤ
greatest_bound = pos 999999999
