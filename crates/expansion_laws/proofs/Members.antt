-- What lists have that the calls of a walk make.
use Rattle.std.proofs.Common.{◌≡◌, ◌⊎◌, inl, inr, zero, suc, Bool, true, false, List, [], ◌∷◌, refl, subst, arith}
use Rattle.std.specs.Prelude.{Contains, IsTrue, IsFalse, flat_map, if◌then◌else◌}
use Rattle.std.specs.List.{list_all}
use Rattle.std.proofs.lemmas.List.Elements.{Contains-append_cases}
use Rattle.agent_core.proofs.Bools.{first_of_both, second_of_both}

pub none_in : {X : Type 0} (x : X) → Contains [] x → ⊥
none_in x (k, lt, e) = omega arith

pub first_or : {X : Type 0} (y x : X) (ys : List X) → Contains (y ∷ ys) x → (y ≡ x) ⊎ Contains ys x
first_or y x ys (zero, lt, e) = inl e
first_or y x ys (suc k, lt, e) = inr (k, omega arith, e)

pub only_in : {X : Type 0} (y x : X) → Contains (y ∷ []) x → y ≡ x
only_in y x c = elim (first_or y x [] c) [ inl e ↦ e | inr none ↦ absurd (none_in x none) ]

pub first_in : {X : Type 0} (x : X) (xs : List X) → Contains (x ∷ xs) x
first_in x xs = (0, omega arith, refl)

pub later_in : {X : Type 0} (y x : X) (xs : List X) → Contains xs x → Contains (y ∷ xs) x
later_in y x xs (k, lt, e) = (suc k, omega arith, e)

-- what a list of lists has is of one of them
pub flat_in : {X Y : Type 0} (f : X → List Y) (y : Y) (xs : List X) → Contains (flat_map f xs) y → (x : X) × Contains xs x × Contains (f x) y
flat_in f y [] c = absurd (none_in y c)
flat_in {X} {Y} f y (x ∷ xs) c = go (flat_in f y xs) (Contains-append_cases (f x) (flat_map f xs) y c)
  where
    go : (Contains (flat_map f xs) y → (z : X) × Contains xs z × Contains (f z) y) → Contains (f x) y ⊎ Contains (flat_map f xs) y → (z : X) × Contains (x ∷ xs) z × Contains (f z) y
    go rest (inl own) = (x, first_in x xs, own)
    go rest (inr other) = let r = rest other in (r.0, later_in x r.0 xs r.1, r.2)

-- a list that is there where a test passes, or where it does not
pub then_in : {X : Type 0} (e : Bool) (xs : List X) (x : X) → Contains (if e then xs else []) x → IsTrue e × Contains xs x
then_in true xs x c = (refl, c)
then_in false xs x c = absurd (none_in x c)

pub else_in : {X : Type 0} (e : Bool) (xs : List X) (x : X) → Contains (if e then [] else xs) x → IsFalse e × Contains xs x
else_in true xs x c = absurd (none_in x c)
else_in false xs x c = (refl, c)

-- a test that all pass
pub all_in : {X : Type 0} (f : X → Bool) (x : X) (xs : List X) → IsTrue (list_all f xs) → Contains xs x → IsTrue (f x)
all_in f x [] h c = absurd (none_in x c)
all_in f x (y ∷ ys) h c = go (all_in f x ys (second_of_both (f y) (list_all f ys) h)) (first_or y x ys c)
  where
    go : (Contains ys x → IsTrue (f x)) → (y ≡ x) ⊎ Contains ys x → IsTrue (f x)
    go rest (inl same) = subst (λ z. IsTrue (f z)) same (first_of_both (f y) (list_all f ys) h)
    go rest (inr other) = rest other
