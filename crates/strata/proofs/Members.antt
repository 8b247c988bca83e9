-- The elements of lists, and what holds of each.
use Rattle.std.proofs.Common.{◌≡◌, ◌⊎◌, inl, inr, ℕ, zero, suc, ◌+◌, ◌<◌, ◌≤◌, List, [], ◌∷◌, ◌++◌, map, refl, sym, ap, subst, arith}
use Rattle.std.specs.Prelude.{All, Contains, flat_map}
use Rattle.std.specs.List.{range_with_len}
use Rattle.agent_core.specs.Strata.{Each, In}

-- IN

pub in_left : {X : Type 0} (x : X) (xs ys : List X) → In x xs → In x (xs ++ ys)
in_left x [] ys i = absurd i
in_left x (y ∷ xs) ys (inl e) = inl e
in_left x (y ∷ xs) ys (inr i) = inr (in_left x xs ys i)

pub in_right : {X : Type 0} (x : X) (xs ys : List X) → In x ys → In x (xs ++ ys)
in_right x [] ys i = i
in_right x (y ∷ xs) ys i = inr (in_right x xs ys i)

pub in_either : {X : Type 0} (x : X) (xs ys : List X) → In x (xs ++ ys) → In x xs ⊎ In x ys
in_either x [] ys i = inr i
in_either x (y ∷ xs) ys (inl e) = inl (inl e)
in_either x (y ∷ xs) ys (inr i) = go (in_either x xs ys i)
  where
    go : In x xs ⊎ In x ys → In x (y ∷ xs) ⊎ In x ys
    go (inl h) = inl (inr h)
    go (inr h) = inr h

pub in_map : {X Y : Type 0} (f : X → Y) (x : X) (xs : List X) → In x xs → In (f x) (map f xs)
in_map f x [] i = absurd i
in_map f x (y ∷ xs) (inl e) = inl (ap f e)
in_map f x (y ∷ xs) (inr i) = inr (in_map f x xs i)

pub map_in : {X Y : Type 0} (f : X → Y) (y : Y) (xs : List X) → In y (map f xs) → (x : X) × In x xs × (y ≡ f x)
map_in f y [] i = absurd i
map_in f y (x ∷ xs) (inl e) = (x, inl refl, e)
map_in f y (x ∷ xs) (inr i) = let r = map_in f y xs i in (r.0, inr r.1, r.2)

pub in_flat_map : {X Y : Type 0} (f : X → List Y) (x : X) (y : Y) (xs : List X) → In x xs → In y (f x) → In y (flat_map f xs)
in_flat_map f x y [] i j = absurd i
in_flat_map {X} {Y} f x y (z ∷ xs) (inl e) j = in_left y (f z) (flat_map f xs) (subst (λ (w : X). In y (f w)) e j)
in_flat_map f x y (z ∷ xs) (inr i) j = in_right y (f z) (flat_map f xs) (in_flat_map f x y xs i j)

pub flat_map_in : {X Y : Type 0} (f : X → List Y) (y : Y) (xs : List X) → In y (flat_map f xs) → (x : X) × In x xs × In y (f x)
flat_map_in f y [] i = absurd i
flat_map_in {X} {Y} f y (x ∷ xs) i = go (in_either y (f x) (flat_map f xs) i) (flat_map_in f y xs)
  where
    go : In y (f x) ⊎ In y (flat_map f xs) → (In y (flat_map f xs) → (z : X) × In z xs × In y (f z)) → (z : X) × In z (x ∷ xs) × In y (f z)
    go (inl h) later = (x, inl refl, h)
    go (inr h) later = let r = later h in (r.0, inr r.1, r.2)

pub in_range : (a n k : ℕ) → a ≤ k → k < a + n → In k (range_with_len a n)
in_range a zero k le lt = absurd (omega arith)
in_range a (suc n) k le lt = go (first_or a k le) (λ h. in_range (a + 1) n k h (omega arith))
  where
    first_or : (a k : ℕ) → a ≤ k → (k ≡ a) ⊎ (a + 1 ≤ k)
    first_or a k le = grind arith

    go : (k ≡ a) ⊎ (a + 1 ≤ k) → (a + 1 ≤ k → In k (range_with_len (a + 1) n)) → In k (range_with_len a (suc n))
    go (inl e) later = inl e
    go (inr h) later = inr (later h)

pub range_in : (a n k : ℕ) → In k (range_with_len a n) → k < a + n
range_in a zero k i = absurd i
range_in a (suc n) k (inl e) = omega arith
range_in a (suc n) k (inr i) = let h = range_in (a + 1) n k i in omega arith

-- EACH

pub in_each : {X : Type 0} (P : X → Type 0) (xs : List X) (x : X) → Each P xs → In x xs → P x
in_each P [] x h i = absurd i
in_each P (y ∷ xs) x h (inl e) = subst P (sym e) h.0
in_each P (y ∷ xs) x h (inr i) = in_each P xs x h.1 i

pub each_in : {X : Type 0} (P : X → Type 0) (xs : List X) → ((x : X) → In x xs → P x) → Each P xs
each_in P [] h = tt
each_in P (y ∷ xs) h = (h y (inl refl), each_in P xs (λ x i. h x (inr i)))

pub each-map : {X : Type 0} (P Q : X → Type 0) → ((x : X) → P x → Q x) → (xs : List X) → Each P xs → Each Q xs
each-map P Q f [] h = tt
each-map P Q f (x ∷ xs) h = (f x h.0, each-map P Q f xs h.1)

pub join : {X : Type 0} (P : X → Type 0) (xs ys : List X) → Each P xs → Each P ys → Each P (xs ++ ys)
join P [] ys h g = g
join P (x ∷ xs) ys h g = (h.0, join P xs ys h.1 g)

pub split : {X : Type 0} (P : X → Type 0) (xs ys : List X) → Each P (xs ++ ys) → Each P xs × Each P ys
split P [] ys h = (tt, h)
split P (x ∷ xs) ys h = let r = split P xs ys h.1 in ((h.0, r.0), r.1)

pub each_all : {X : Type 0} (P : X → Type 0) (xs : List X) → Each P xs → All P xs
each_all P [] h k d lt = absurd (omega arith)
each_all P (x ∷ xs) h zero d lt = h.0
each_all P (x ∷ xs) h (suc k) d lt = each_all P xs h.1 k d (omega arith)

pub all_each : {X : Type 0} (P : X → Type 0) (xs : List X) → All P xs → Each P xs
all_each P [] h = tt
all_each P (x ∷ xs) h = (h 0 x (omega arith), all_each P xs (λ k d lt. h (suc k) d (omega arith)))

pub contains_in : {X : Type 0} (x : X) (xs : List X) → Contains xs x → In x xs
contains_in x [] c = absurd (omega (arith, c.1))
contains_in x (y ∷ xs) (zero, lt, e) = inl (sym e)
contains_in x (y ∷ xs) (suc k, lt, e) = inr (contains_in x xs (k, omega arith, e))

pub in_contains : {X : Type 0} (x : X) (xs : List X) → In x xs → Contains xs x
in_contains x [] i = absurd i
in_contains x (y ∷ xs) (inl e) = (0, omega arith, sym e)
in_contains x (y ∷ xs) (inr i) = let r = in_contains x xs i in (suc r.0, omega (arith, r.1), r.2)
