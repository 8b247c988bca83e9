-- What a generated program is made of: rules between signals, and bounds of numbers, as they are drawn. This project's own.
use Rattle.std.specs.Prelude.{ℕ, zero, suc, ◌-◌, ◌*◌, List, ◌++◌, map}
use Rattle.std.specs.List.{range_with_len}
use Rattle.trace_text.specs.Draws.{draw_after, drawn}

-- a rule tells a signal by another one, its guard, and a bound tells the least value of a number
pub data GeneratedUnit : Type 0 where
  -- at each instant at which the guard is on; at which it is not; and one instant draw_after it was on
  Follows : (guard told : ℕ) → GeneratedUnit
  Defaults : (guard told : ℕ) → GeneratedUnit
  Delays : (guard told : ℕ) → GeneratedUnit
  -- from the first instant on at which the guard is on; and where it is not on, until the stop is
  Starts : (guard told : ℕ) → GeneratedUnit
  Ends : (guard told stop : ℕ) → GeneratedUnit
  -- at each instant at which the guard is on
  Bounds : (guard number least : ℕ) → GeneratedUnit

-- the rule that a draw below 5 stands for
abbrev pub rule_of : ℕ → ℕ → ℕ → ℕ → GeneratedUnit
rule_of zero g j h = Follows g j
rule_of (suc zero) g j h = Defaults g j
rule_of (suc (suc zero)) g j h = Delays g j
rule_of (suc (suc (suc zero))) g j h = Starts g j
rule_of _ g j h = Ends g j h

-- the rule for the signal j, by the draws draw_after x
abbrev pub rule_part : ℕ → ℕ → GeneratedUnit
rule_part x j = rule_of (drawn x 1 5) (drawn x 0 j) j (drawn x 2 j)

-- the bound of the number i, by the draws draw_after x
abbrev pub bound_part : ℕ → ℕ → GeneratedUnit
bound_part x i = Bounds (drawn x 0 32) i (drawn x 1 100)

-- the generated_units of the program of n: 31 rules, for the signals from 1 on, and then 8 bounds
unfoldable pub generated_units : ℕ → List GeneratedUnit
generated_units n = map (λ j. rule_part (draw_after n (3 * (j - 1))) j) (range_with_len 1 31) ++ map (λ i. bound_part (draw_after (draw_after n 93) (2 * i)) i) (range_with_len 0 8)
