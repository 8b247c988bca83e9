-- A list cut at the first element that passes a test.
use Rattle.std.proofs.Common.{◌≡◌, ℕ, ◌+◌, ◌≤◌, Bool, true, false, cond, List, [], ◌∷◌, length, take, drop, refl, ap, ◌∙◌, arith}
use Rattle.std.specs.Prelude.{Some, None, nat_lt, not, position}
use Rattle.std.specs.List.{slice_split, onto_first, position_or_len}
use Rattle.std.proofs.lemmas.Bool.{ltb-true}
use Rattle.std.proofs.lemmas.Bool.Decides.{nat_tests}
use Rattle.std.proofs.lemmas.Option.{cond_some}
use Rattle.std.proofs.lemmas.List.Splits.{slice_split-cons_no, slice_split_first}

module _ (p : ℕ → Bool) where
  cut_more : (x : ℕ) (xs : List ℕ) (t : Bool) → p x ≡ t → length (x ∷ xs) ≤ position_or_len p (x ∷ xs) → (length xs ≤ position_or_len p xs → slice_split p xs ≡ xs ∷ []) → slice_split p (x ∷ xs) ≡ (x ∷ xs) ∷ []
  cut_more x xs true e h rest = absurd (let first : position_or_len p (x ∷ xs) ≡ 0 = ap (λ t. cond (not t) (1 + position_or_len p xs) 0) e in omega arith)
  cut_more x xs false e h rest =
      let first : position_or_len p (x ∷ xs) ≡ 1 + position_or_len p xs = ap (λ t. cond (not t) (1 + position_or_len p xs) 0) e in
      slice_split-cons_no p x xs e ∙ ap (onto_first x) (rest (omega arith))

  -- no element passes
  not_cut : (xs : List ℕ) → length xs ≤ position_or_len p xs → slice_split p xs ≡ xs ∷ []
  not_cut [] h = refl
  not_cut (x ∷ xs) h = cut_more x xs (p x) refl h (not_cut xs)

  past_all : (i n : ℕ) → cond (nat_lt i n) (Some i) None ≡ None → n ≤ i
  past_all i n e = grind (arith, nat_tests)

  pub cut_none : (xs : List ℕ) → position p xs ≡ None → slice_split p xs ≡ xs ∷ []
  cut_none xs e = not_cut xs (past_all (position_or_len p xs) (length xs) e)

  pub cut_some : (xs : List ℕ) (i : ℕ) → position p xs ≡ Some i → slice_split p xs ≡ take i xs ∷ slice_split p (drop (i + 1) xs)
  cut_some xs i e =
      let (within, is) = cond_some (nat_lt (position_or_len p xs) (length xs)) (position_or_len p xs) i e in
      slice_split_first p xs 0 (ltb-true (position_or_len p xs) (length xs) within) ∙ ap (λ (k : ℕ). take k xs ∷ slice_split p (drop (k + 1) xs)) is
