-- How many elements of a list pass a test: element by element, and of what is read off another list.
use Rattle.std.proofs.Common.{◌≡◌, ℕ, suc, ◌+◌, ◌<◌, ◌≤◌, Bool, true, false, cond, List, [], ◌∷◌, length, map, take, get_or, ◌⊎◌, inl, inr, Some, None, refl, sym, ap, ◌∙◌, arith}
use Rattle.std.specs.Prelude.{filter, slice_get}
use Rattle.std.proofs.lemmas.List.{take_all}
use Rattle.std.proofs.lemmas.List.Filters.{length-filter_more}
use Rattle.std.proofs.lemmas.Option.{slice_get_cases}
use Rattle.agent_core.specs.Strata.{Each}

module _ {X : Type 0} (q : X → Bool) (xs : List X) where
  -- n of the first i elements pass
  pub record IsPassed (i n : ℕ) : Type 0 where
    pub count : n ≡ length (filter q (take i xs))
    pub few : n ≤ i

  -- the count after one more element, at which the test gives this
  pub passed-more : (i n m : ℕ) (b : Bool) → i < length xs → ((x : X) → slice_get xs i ≡ Some x → b ≡ q x) → m ≡ n + cond b 1 0 → IsPassed i n → IsPassed (i + 1) m
  passed-more i n m b lt by e h = record {
    count = e ∙ ap (λ (k : ℕ). k + cond b 1 0) h.count ∙ sym (go (slice_get_cases xs i).1);
    few = let f = h.few in small b (omega arith);
  }
    where
      go : ((x : X) × (i < length xs) × (slice_get xs i ≡ Some x) × (get_or xs i x ≡ x)) ⊎ ((length xs ≤ i) × (slice_get xs i ≡ None)) → length (filter q (take (i + 1) xs)) ≡ length (filter q (take i xs)) + cond b 1 0
      go (inl (x, h, at, is)) =
          length-filter_more q xs i x lt ∙ ap (λ (y : X). length (filter q (take i xs)) + cond (q y) 1 0) is ∙ ap (λ (r : Bool). length (filter q (take i xs)) + cond r 1 0) (sym (by x at))
      go (inr (le, none)) = absurd (omega arith)

      small : (b : Bool) → m ≤ i + cond b 1 0 → m ≤ i + 1
      small true le = le
      small false le = omega arith

  pub passed-all : (i n : ℕ) → length xs ≤ i → IsPassed i n → n ≡ length (filter q xs)
  passed-all i n le h = h.count ∙ ap (λ ys. length (filter q ys)) (take_all i xs le)

-- what is read off each element passes where the element does
pub passed-map : {X Y : Type 0} (f : X → Y) (q : Y → Bool) (xs : List X) → length (filter q (map f xs)) ≡ length (filter (λ x. q (f x)) xs)
passed-map f q [] = refl
passed-map {X} {Y} f q (x ∷ xs) = go (q (f x)) (passed-map f q xs)
  where
    go : (b : Bool) → length (filter q (map f xs)) ≡ length (filter (λ x. q (f x)) xs)
        → length (cond b (f x ∷ filter q (map f xs)) (filter q (map f xs))) ≡ length (cond b (x ∷ filter (λ x. q (f x)) xs) (filter (λ x. q (f x)) xs))
    go true h = ap suc h
    go false h = h

-- two tests that agree at each element
pub passed-agree : {X : Type 0} (q r : X → Bool) (xs : List X) → Each (λ x. q x ≡ r x) xs → length (filter q xs) ≡ length (filter r xs)
passed-agree q r [] h = refl
passed-agree {X} q r (x ∷ xs) h = ap (λ (b : Bool). length (cond b (x ∷ filter q xs) (filter q xs))) h.0 ∙ go (r x) (passed-agree q r xs h.1)
  where
    go : (b : Bool) → length (filter q xs) ≡ length (filter r xs) → length (cond b (x ∷ filter q xs) (filter q xs)) ≡ length (cond b (x ∷ filter r xs) (filter r xs))
    go true h = ap suc h
    go false h = h
