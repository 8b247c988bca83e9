-- Which asks are noted to hold. This project's own.
use Rattle.std.specs.Prelude.{ℕ, ◌+◌, Bool, false, cond, List, [], ◌∷◌, slice_index_or}

-- for each guard whether its ask was found to hold, and the guards below which leaves are still to be looked at
pub record Held : Type 0 where
  pub held : List Bool
  pub due : List ℕ

-- the ask of this guard was found to hold
abbrev pub is_noted : List Bool → ℕ → Bool
is_noted held guard = slice_index_or held guard false

-- how many are not
abbrev pub unheld : List Bool → ℕ
unheld [] = 0
unheld (h ∷ held) = cond h 0 1 + unheld held
