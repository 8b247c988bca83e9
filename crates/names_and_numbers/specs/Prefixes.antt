-- The prefix of a list of bytes that pass a test.
use Rattle.std.specs.Prelude.{ℕ, suc, List, [], ◌∷◌, Bool, if◌then◌else◌}

-- how many first bytes pass
abbrev pub prefix_len : (ℕ → Bool) → List ℕ → ℕ
prefix_len test [] = 0
prefix_len test (b ∷ bs) = if test b then suc (prefix_len test bs) else 0
