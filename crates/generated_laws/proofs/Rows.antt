-- Rows of numbers: what holds of each element, and which one stands where.
use Rattle.std.proofs.Common.{◌≡◌, ◌⊎◌, inl, inr, ℕ, zero, suc, ◌+◌, ◌<◌, ◌≤◌, Bool, true, List, [], ◌∷◌, ◌++◌, get_or, Some, ap, ◌∙◌, subst, arith}
use Rattle.std.specs.Prelude.{All, map, slice_get}
use Rattle.std.specs.List.{list_all, range_with_len}
use Rattle.std.proofs.lemmas.Bool.{cases_lt}
use Rattle.program_lexemes.proofs.PrefixLengths.{and_left, and_right}
use Rattle.agent_core.specs.Strata.{Each}

-- each number of a row passes where all do
pub row_passes : (test : ℕ → Bool) (a n : ℕ) → list_all test (range_with_len a n) ≡ true → (k : ℕ) → a ≤ k → k < a + n → test k ≡ true
row_passes test a zero e k low high = absurd (omega arith)
row_passes test a (suc n) e k low high =
    go (cases_lt a k) (λ less. row_passes test (a + 1) n (and_right (test a) (list_all test (range_with_len (a + 1) n)) e) k (omega arith) (omega arith))
  where
    go : (a < k) ⊎ (k ≤ a) → (a < k → test k ≡ true) → test k ≡ true
    go (inl less) later = later less
    go (inr most) later = let same : a ≡ k = omega arith in subst (λ (i : ℕ). test i ≡ true) same (and_left (test a) (list_all test (range_with_len (a + 1) n)) e)

-- what is made of each number of a row
pub each_row : {X : Type 0} (P : X → Type 0) (f : ℕ → X) (a n : ℕ) → ((k : ℕ) → a ≤ k → k < a + n → P (f k)) → Each P (map f (range_with_len a n))
each_row P f a zero h = tt
each_row P f a (suc n) h = (h a (omega arith) (omega arith), each_row P f (a + 1) n (λ k low high. h k (omega arith) (omega arith)))

pub each_append : {X : Type 0} (P : X → Type 0) (xs ys : List X) → Each P xs → Each P ys → Each P (xs ++ ys)
each_append P [] ys h k = k
each_append P (x ∷ xs) ys h k = (h.0, each_append P xs ys h.1 k)

-- what is made of a number of a row, with more behind the row
pub row_get : {X : Type 0} (f : ℕ → X) (a n j : ℕ) (more : List X) → j < n → slice_get (map f (range_with_len a n) ++ more) j ≡ Some (f (a + j))
row_get f a zero j more few = absurd (omega arith)
row_get f a (suc n) zero more few = ap (λ (k : ℕ). Some (f k)) (let same : a ≡ a + 0 = omega arith in same)
row_get f a (suc n) (suc j) more few =
    row_get f (a + 1) n j more (let less : j < n = omega arith in less) ∙ ap (λ (k : ℕ). Some (f k)) (let same : a + 1 + j ≡ a + suc j = omega arith in same)

-- two facts of each element make a third
pub all_both : {X : Type 0} (P Q R : X → Type 0) → ((x : X) → P x → Q x → R x) → (xs : List X) → All P xs → All Q xs → All R xs
all_both P Q R f xs h g k d lt = f (get_or xs k d) (h k d lt) (g k d lt)
