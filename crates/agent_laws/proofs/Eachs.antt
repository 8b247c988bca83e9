-- What holds of each element of a list: from one word for it to another, and through the calls that make lists.
use Rattle.std.proofs.Common.{◌≡◌, ℕ, zero, suc, Bool, true, false, List, [], ◌∷◌, ◌++◌, Some, refl, subst, arith}
use Rattle.std.specs.Prelude.{IsTrue, slice_get, All, flat_map, if◌then◌else◌}
use Rattle.std.specs.List.{list_all}
use Rattle.agent_core.specs.Strata.{Each}
use Rattle.agent_core.proofs.Bools.{both, first_of_both, second_of_both}

pub Each-map : {X : Type 0} (P Q : X → Type 0) → ((x : X) → P x → Q x) → (xs : List X) → Each P xs → Each Q xs
Each-map P Q f [] h = tt
Each-map P Q f (x ∷ xs) h = (f x h.0, Each-map P Q f xs h.1)

pub Each-both : {X : Type 0} (P Q R : X → Type 0) → ((x : X) → P x → Q x → R x) → (xs : List X) → Each P xs → Each Q xs → Each R xs
Each-both P Q R f [] h g = tt
Each-both P Q R f (x ∷ xs) h g = (f x h.0 g.0, Each-both P Q R f xs h.1 g.1)

pub Each-append : {X : Type 0} (P : X → Type 0) (xs ys : List X) → Each P xs → Each P ys → Each P (xs ++ ys)
Each-append P [] ys h g = g
Each-append P (x ∷ xs) ys h g = (h.0, Each-append P xs ys h.1 g)

pub Each-parts : {X : Type 0} (P : X → Type 0) (xs ys : List X) → Each P (xs ++ ys) → Each P xs × Each P ys
Each-parts P [] ys h = (tt, h)
Each-parts P (x ∷ xs) ys h = let r = Each-parts P xs ys h.1 in ((h.0, r.0), r.1)

pub Each-flat : {X Y : Type 0} (P : X → Type 0) (f : Y → List X) → ((y : Y) → Each P (f y)) → (ys : List Y) → Each P (flat_map f ys)
Each-flat P f h [] = tt
Each-flat P f h (y ∷ ys) = Each-append P (f y) (flat_map f ys) (h y) (Each-flat P f h ys)

pub Each-if : {X : Type 0} (P : X → Type 0) (e : Bool) (xs ys : List X) → Each P xs → Each P ys → Each P (if e then xs else ys)
Each-if P true xs ys h g = h
Each-if P false xs ys h g = g

-- std's word for it
pub each_all : {X : Type 0} (P : X → Type 0) (xs : List X) → Each P xs → All P xs
each_all P [] h k d lt = absurd (omega arith)
each_all P (x ∷ xs) h zero d lt = h.0
each_all P (x ∷ xs) h (suc k) d lt = each_all P xs h.1 k d (omega arith)

pub all_each : {X : Type 0} (P : X → Type 0) (xs : List X) → All P xs → Each P xs
all_each P [] h = tt
all_each P (x ∷ xs) h = (h 0 x (omega arith), all_each P xs (λ k d lt. h (suc k) d (omega arith)))

-- a test, and the fact that it stands for
pub each_true : {X : Type 0} (f : X → Bool) (P : X → Type 0) → ((x : X) → IsTrue (f x) → P x) → (xs : List X) → IsTrue (list_all f xs) → Each P xs
each_true f P h [] e = tt
each_true f P h (x ∷ xs) e = (h x (first_of_both (f x) (list_all f xs) e), each_true f P h xs (second_of_both (f x) (list_all f xs) e))

pub true_each : {X : Type 0} (f : X → Bool) (P : X → Type 0) → ((x : X) → P x → IsTrue (f x)) → (xs : List X) → Each P xs → IsTrue (list_all f xs)
true_each f P h [] e = refl
true_each f P h (x ∷ xs) e = both _ _ (h x e.0) (true_each f P h xs e.1)

-- it holds of the element at a place
pub each_at : {X : Type 0} (P : X → Type 0) (xs : List X) (n : ℕ) (x : X) → Each P xs → slice_get xs n ≡ Some x → P x
each_at P [] n x h e = absurd (cc)
each_at P (y ∷ xs) zero x h e = let same : y ≡ x = cc in subst P same h.0
each_at P (y ∷ xs) (suc n) x h e = each_at P xs n x h.1 e
