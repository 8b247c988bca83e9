-- The numbers of the elements of a list that pass a test. This project's own.
use Rattle.std.specs.Prelude.{ℕ, suc, Bool, List, [], ◌∷◌, if◌then◌else◌}

-- ascending, where the first element has number k
abbrev pub numbers_from : {X : Type 0} → (X → Bool) → ℕ → List X → List ℕ
numbers_from test k [] = []
numbers_from test k (x ∷ xs) = (if test x then k ∷ numbers_from test (suc k) xs else numbers_from test (suc k) xs)

abbrev pub numbers_of : {X : Type 0} → (X → Bool) → List X → List ℕ
numbers_of test xs = numbers_from test 0 xs
