-- Numbers of what stands in lists. This project's own.
use Rattle.std.specs.Prelude.{◌≡◌, ℕ, zero, suc, ◌+◌, ◌==◌, ◌&&◌, ◌⊎◌, List, [], ◌∷◌, if◌then◌else◌}

-- of each, added up
abbrev pub total : {A : Type 0} → (A → ℕ) → List A → ℕ
total f [] = 0
total f (x ∷ xs) = f x + total f xs

-- a stands in the list
abbrev pub StandsIn : {A : Type 0} → A → List A → Type 0
StandsIn a [] = ⊥
StandsIn a (x ∷ xs) = (x ≡ a) ⊎ StandsIn a xs

abbrev pub same_pair : ℕ × ℕ → ℕ × ℕ → ℕ
same_pair p q = if (q.0 == p.0) && (q.1 == p.1) then 1 else 0

-- how often the pair stands in the list
abbrev pub pair_times : ℕ × ℕ → List (ℕ × ℕ) → ℕ
pair_times p ps = total (same_pair p) ps

abbrev pub of_leaf : ℕ → ℕ × ℕ → ℕ
of_leaf leaf q = if q.1 == leaf then 1 else 0

-- n numbers, from `from` on
unfoldable pub count_up : ℕ → ℕ → List ℕ
count_up from zero = []
count_up from (suc n) = from ∷ count_up (suc from) n
