-- The numbered calls of a device in memory. This project's own.
use Rattle.std.specs.Prelude.{◌≡◌, ℕ, ◌==◌, Bool, List, Contains, length, Result}
use Rattle.tdcc_base.specs.Causes.{next_count, CountsFault}
use Rattle.tdcc_base.specs.declared.calls.Calls.{Calls}

-- the numbers of the calls that fail
abbrev pub failing_calls : Calls → List ℕ
failing_calls calls = calls.fails.items

-- whether no call is failing_calls to fail
abbrev pub lists_none : Calls → Bool
lists_none calls = length (failing_calls calls) == 0

-- the next_number of the next call
abbrev pub next_number : Calls → ℕ
next_number calls = calls.next

-- the next call is failing_calls to fail
abbrev pub IsListed : Calls → Type 0
IsListed calls = Contains (failing_calls calls) (next_number calls)

-- no call was made yet, and none failed; these are to fail
pub record AreNew (calls : Calls) (fails : List ℕ) : Type 0 where
  pub list : failing_calls calls ≡ fails
  pub first : next_number calls ≡ 0
  pub none : calls.faults ≡ 0

-- a call was made: the next one has the next next_number, and a failure was counted
pub record Counted {T E : Type 0} (old new : Calls) (result : Result T E) : Type 0 where
  pub list : failing_calls new ≡ failing_calls old
  pub next : next_number new ≡ next_count (next_number old)
  pub faults : CountsFault old.faults new.faults result
