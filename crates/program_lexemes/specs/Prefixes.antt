-- The prefixes of a list of bytes that pass a test.
use Rattle.std.specs.Prelude.{◌≡◌, ℕ, ◌≤◌, List, length, take, Bool, true, false}
pub use Rattle.names_and_numbers.specs.Prefixes.{prefix_len}

-- so many first bytes pass together, and no more do
pub record IsLongestPrefix (test : List ℕ → Bool) (bytes : List ℕ) (size : ℕ) : Type 0 where
  pub within : size ≤ length bytes
  pub passes : test (take size bytes) ≡ true
  pub longest : (n : ℕ) → n ≤ length bytes → test (take n bytes) ≡ true → n ≤ size

-- however many first bytes do not pass together
abbrev pub NoPrefix : (List ℕ → Bool) → List ℕ → Type 0
NoPrefix test bytes = (n : ℕ) → n ≤ length bytes → test (take n bytes) ≡ false
