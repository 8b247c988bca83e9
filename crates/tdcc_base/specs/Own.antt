-- What an adapter answers for what its device answers. This project's own.
use Rattle.std.specs.Prelude.{◌≡◌, ℕ, ◌<◌, Result, Ok, Err, IsErr}

-- a success is passed on, and an error is an error
abbrev pub PassesOn : {T E F : Type 0} → Result T E → Result T F → Type 0
PassesOn (Ok value) answer = answer ≡ Ok value
PassesOn (Err error) answer = IsErr answer

-- what was taken is passed on, and where nothing was taken it is an error
abbrev pub PassesSomeOn : {E F : Type 0} → Result ℕ E → Result ℕ F → Type 0
PassesSomeOn (Ok n) answer = (0 < n → answer ≡ Ok n) × (n ≡ 0 → IsErr answer)
PassesSomeOn (Err error) answer = IsErr answer
