-- Counts of faults, and what an error says of them. This project's own.
use Rattle.std.specs.Prelude.{◌≡◌, ℕ, ◌+◌, ◌-◌, ◌^◌, ◌≤◌, min, Result, Ok, Err, OnOk, OnErr, MatchResult}
use Rattle.tdcc_base.specs.declared.stops.ReadStop.{ReadStop}
use Rattle.tdcc_base.specs.declared.stops.ReadStop.TheVariants as stops

-- one more, where the count does not stand at the greatest 64-bit number yet
abbrev pub next_count : ℕ → ℕ
next_count n = min (n + 1) (2 ^ 64 - 1)

-- the count is greater now, or stands at the greatest 64-bit number
abbrev pub Rose : ℕ → ℕ → Type 0
Rose before now = next_count before ≤ now

-- the count never falls, stays at a success, and an error comes only where it rose
pub record HasCause {T E : Type 0} (before now : ℕ) (result : Result T E) : Type 0 where
  pub later : before ≤ now
  pub stays : OnOk result (now ≡ before)
  pub failed : OnErr result (Rose before now)

-- the count stays at a success, and goes on by one at an error
abbrev pub CountsFault : {T E : Type 0} → ℕ → ℕ → Result T E → Type 0
CountsFault before now result = MatchResult result (λ _. now ≡ before) (λ _. now ≡ next_count before)

-- the count rose where the answer is that the source failed, and stays at every other
abbrev pub HasReadCause : {T : Type 0} → ℕ → ℕ → Result T ReadStop → Type 0
HasReadCause before now (Ok value) = now ≡ before
HasReadCause before now (Err stops.TooLong) = now ≡ before
HasReadCause before now (Err stops.Read) = Rose before now
