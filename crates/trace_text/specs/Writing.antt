-- Bytes that texts are written to. This project's own.
use Rattle.std.specs.Prelude.{◌≡◌, ℕ, zero, suc, List, [], ◌∷◌, ◌++◌, flat_map}

-- the texts, each with a space behind it
abbrev pub spaced : List (List ℕ) → List ℕ
spaced texts = flat_map (λ text. text ++ 32 ∷ []) texts

-- bytes that grew at their end
abbrev pub Grows : List ℕ → List ℕ → Type 0
Grows old new = (more : List ℕ) × (new ≡ old ++ more)

-- what is written before the text at this place, where texts are separated: nothing before the first
abbrev pub before : ℕ → List ℕ → List ℕ
before zero separator = []
before (suc place) separator = separator

-- the texts, each with the separator before it
abbrev pub separated : List ℕ → List (List ℕ) → List ℕ
separated separator texts = flat_map (λ text. separator ++ text) texts
