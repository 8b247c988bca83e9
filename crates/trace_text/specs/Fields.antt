-- The fields of a trace line: what stands between its blanks, each with its place. This project's own.
use Rattle.std.specs.Prelude.{ℕ, ◌+◌, Bool, true, false, ◌||◌, ◌==◌, List, [], ◌∷◌, length, filter}
use Rattle.std.specs.List.{slice_split}

-- a space, a tab or a carriage return
abbrev pub is_blank : ℕ → Bool
is_blank b = (b == 32) || (b == 9) || (b == 13)

-- bytes of a line, and how many bytes of it stand before them
pub record Field : Type 0 where
  pub offset : ℕ
  pub bytes : List ℕ

-- parts of a line, of which the first stands at this place, with one byte between each two
abbrev pub placed_fields : ℕ → List (List ℕ) → List Field
placed_fields offset [] = []
placed_fields offset (part ∷ parts) = record { offset = offset; bytes = part } ∷ placed_fields (offset + (length part + 1)) parts

abbrev pub is_some : List ℕ → Bool
is_some [] = false
is_some (b ∷ bytes) = true

-- the fields of a line, in order: what stands between blanks, where that is not empty
abbrev pub fields : List ℕ → List Field
fields line = filter (λ (field : Field). is_some field.bytes) (placed_fields 0 (slice_split is_blank line))
