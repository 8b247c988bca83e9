-- Reads of appended lists.
use Rattle.std.proofs.Common.{◌≡◌, ℕ, zero, suc, ◌+◌, List, [], ◌∷◌, ◌++◌, Some, length, set, map, refl, ap, ◌∙◌, arith, ◌⊎◌, inl, inr}
use Rattle.std.specs.Prelude.{slice_get, Contains, All}
use Rattle.std.proofs.lemmas.Option.{slice_get_within, get_or_from_slice_get}

-- the element at a place of two lists in a row is one of the first or of the second
pub get-append : {X : Type 0} (xs ys : List X) (j : ℕ) (x : X) → slice_get (xs ++ ys) j ≡ Some x → (slice_get xs j ≡ Some x) ⊎ ((i : ℕ) × (j ≡ length xs + i) × (slice_get ys i ≡ Some x))
get-append [] ys j x e = inr (j, omega arith, e)
get-append (y ∷ xs) ys zero x e = inl e
get-append {X} (y ∷ xs) ys (suc j) x e = go (get-append xs ys j x e)
  where
    go : (slice_get xs j ≡ Some x) ⊎ ((i : ℕ) × (j ≡ length xs + i) × (slice_get ys i ≡ Some x))
        → (slice_get xs j ≡ Some x) ⊎ ((i : ℕ) × (suc j ≡ length (y ∷ xs) + i) × (slice_get ys i ≡ Some x))
    go (inl h) = inl h
    go (inr (i, f, h)) = inr (i, omega arith, h)

pub get-left : {X : Type 0} (xs ys : List X) (j : ℕ) (x : X) → slice_get xs j ≡ Some x → slice_get (xs ++ ys) j ≡ Some x
get-left [] ys j x e = absurd (cc)
get-left (y ∷ xs) ys zero x e = e
get-left (y ∷ xs) ys (suc j) x e = get-left xs ys j x e

pub get-right : {X : Type 0} (xs ys : List X) (j k : ℕ) (x : X) → k ≡ length xs + j → slice_get ys j ≡ Some x → slice_get (xs ++ ys) k ≡ Some x
get-right [] ys j k x f e = ap (slice_get ys) (let g : k ≡ j = omega arith in g) ∙ e
get-right (y ∷ xs) ys j zero x f e = absurd (omega arith)
get-right (y ∷ xs) ys j (suc k) x f e = get-right xs ys j k x (omega arith) e

-- a write over the one between
pub set-between : {X : Type 0} (xs ys : List X) (x y : X) → set ((xs ++ x ∷ []) ++ ys) (length xs) y ≡ xs ++ (y ∷ ys)
set-between [] ys x y = refl
set-between (z ∷ xs) ys x y = ap (λ zs. z ∷ zs) (set-between xs ys x y)

pub get-between : {X : Type 0} (xs ys : List X) (x : X) → slice_get ((xs ++ x ∷ []) ++ ys) (length xs) ≡ Some x
get-between [] ys x = refl
get-between (z ∷ xs) ys x = get-between xs ys x

pub same-elements : {X : Type 0} (xs : List X) (x : X) (k : ℕ) → slice_get xs k ≡ Some x → Contains xs x
same-elements xs x k e = (k, slice_get_within xs k x e, get_or_from_slice_get xs k x x e)

pub Contains-map : {X Y : Type 0} (f : X → Y) (xs : List X) (x : X) → Contains xs x → Contains (map f xs) (f x)
Contains-map f [] x (k, lt, e) = absurd (omega arith)
Contains-map f (y ∷ xs) x (zero, lt, e) = (0, omega arith, ap f e)
Contains-map f (y ∷ xs) x (suc k, lt, e) = let h = Contains-map f xs x (k, omega arith, e) in (suc h.0, omega (arith, h.1), h.2)

-- what all elements of a list satisfy by place
pub All-by_get : {X : Type 0} (P : X → Type 0) (xs : List X) → ((k : ℕ) (x : X) → slice_get xs k ≡ Some x → P x) → All P xs
All-by_get P [] h k d lt = absurd (omega arith)
All-by_get P (x ∷ xs) h zero d lt = h 0 x refl
All-by_get P (x ∷ xs) h (suc k) d lt = All-by_get P xs (λ j y e. h (suc j) y e) k d (omega arith)
