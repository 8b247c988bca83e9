-- The numbers of the elements of a list that pass a test.
use Rattle.std.proofs.Common.{◌≡◌, ℕ, zero, suc, ◌+◌, ◌<◌, ◌≤◌, Bool, true, false, List, [], ◌∷◌, ◌++◌, length, get_or, take, Some, refl, sym, ap, ◌∙◌, subst, arith}
use Rattle.std.specs.Prelude.{Contains, IsTrue, slice_get, if◌then◌else◌}
use Rattle.std.proofs.lemmas.List.{take_more}
use Rattle.std.proofs.lemmas.Option.{slice_get_within, get_or_from_slice_get}
use Rattle.parked_asks.specs.Numbers.{numbers_from, numbers_of}

module _ {X : Type 0} (test : X → Bool) where
  -- one element more
  pub numbers-push : (k : ℕ) (xs : List X) (x : X) → numbers_from test k (xs ++ x ∷ []) ≡ numbers_from test k xs ++ (if test x then (k + length xs) ∷ [] else [])
  numbers-push k [] x = go (test x)
    where
      go : (b : Bool) → (if b then k ∷ [] else []) ≡ (if b then (k + 0) ∷ [] else [])
      go true = ap (λ n. n ∷ []) (omega arith)
      go false = refl
  numbers-push k (y ∷ xs) x = go (test y) (numbers-push (suc k) xs x ∙ ap (λ n. numbers_from test (suc k) xs ++ (if test x then n ∷ [] else [])) (omega arith))
    where
      go : (b : Bool) → numbers_from test (suc k) (xs ++ x ∷ []) ≡ numbers_from test (suc k) xs ++ (if test x then (k + length (y ∷ xs)) ∷ [] else [])
          → (if b then k ∷ numbers_from test (suc k) (xs ++ x ∷ []) else numbers_from test (suc k) (xs ++ x ∷ []))
          ≡ (if b then k ∷ numbers_from test (suc k) xs else numbers_from test (suc k) xs) ++ (if test x then (k + length (y ∷ xs)) ∷ [] else [])
      go true e = ap (λ ns. k ∷ ns) e
      go false e = e

  -- the elements up to the next one
  pub numbers-next : (xs : List X) (i : ℕ) (x : X) → slice_get xs i ≡ Some x → numbers_of test (take (i + 1) xs) ≡ numbers_of test (take i xs) ++ (if test x then i ∷ [] else [])
  numbers-next xs i x at =
      let within = slice_get_within xs i x at in
      ap (λ ys. numbers_of test ys) (take_more xs i x within ∙ ap (λ y. take i xs ++ y ∷ []) (get_or_from_slice_get xs i x x at))
      ∙ numbers-push 0 (take i xs) x
      ∙ ap (λ n. numbers_of test (take i xs) ++ (if test x then n ∷ [] else [])) (shorter xs i (omega arith))
    where
      shorter : (ys : List X) (i : ℕ) → i ≤ length ys → 0 + length (take i ys) ≡ i
      shorter ys zero le = refl
      shorter [] (suc i) le = absurd (omega arith)
      shorter (y ∷ ys) (suc i) le = let ih = shorter ys i (omega arith) in omega arith

  -- the number of an element that passes is among them
  pub has-number : (k : ℕ) (xs : List X) (i : ℕ) (x : X) → slice_get xs i ≡ Some x → IsTrue (test x) → Contains (numbers_from test k xs) (k + i)
  has-number k [] i x at t = absurd (cc)
  has-number k (y ∷ xs) zero x at t = subst (λ (b : Bool). Contains (if b then k ∷ numbers_from test (suc k) xs else numbers_from test (suc k) xs) (k + 0)) (sym (ap test (let same : y ≡ x = cc in same) ∙ t)) (0, omega arith, omega arith)
  has-number k (y ∷ xs) (suc i) x at t = go (test y) (has-number (suc k) xs i x at t)
    where
      go : (b : Bool) → Contains (numbers_from test (suc k) xs) (suc k + i) → Contains (if b then k ∷ numbers_from test (suc k) xs else numbers_from test (suc k) xs) (k + suc i)
      go true h = subst (Contains (k ∷ numbers_from test (suc k) xs)) (omega arith) (suc h.0, omega (arith, h.1), h.2)
      go false h = subst (Contains (numbers_from test (suc k) xs)) (omega arith) h

  -- and no others: each of them is that of an element
  pub numbers-within : (k : ℕ) (xs : List X) (i : ℕ) → i < length (numbers_from test k xs) → get_or (numbers_from test k xs) i 0 < k + length xs
  numbers-within k [] i lt = absurd (omega arith)
  numbers-within k (y ∷ xs) i lt = go (test y) i (numbers-within (suc k) xs) lt
    where
      go : (b : Bool) (i : ℕ) → ((j : ℕ) → j < length (numbers_from test (suc k) xs) → get_or (numbers_from test (suc k) xs) j 0 < suc k + length xs)
          → i < length (if b then k ∷ numbers_from test (suc k) xs else numbers_from test (suc k) xs)
          → get_or (if b then k ∷ numbers_from test (suc k) xs else numbers_from test (suc k) xs) i 0 < k + length (y ∷ xs)
      go true zero ih lt = omega arith
      go true (suc i) ih lt = let h = ih i (omega arith) in omega arith
      go false i ih lt = let h = ih i lt in omega arith

  -- what is read of such a list is the number of an element
  pub number-read : (xs : List X) (items other : List ℕ) (i : ℕ) → items ≡ numbers_of test xs → other ≡ numbers_of test xs → i < length other → get_or items i 0 < length xs
  number-read xs items other i is same lt =
      subst (λ (ns : List ℕ). get_or ns i 0 < length xs) (sym is) (let h = numbers-within 0 xs i (subst (λ (ns : List ℕ). i < length ns) same lt) in omega arith)
