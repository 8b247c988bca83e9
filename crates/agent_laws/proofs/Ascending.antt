-- The sorted list of closures ascends, has the closures of the list, and is the only such list.
use Rattle.std.proofs.Common.{◌≡◌, ◌⊎◌, inl, inr, Bool, true, false, ◌||◌, List, [], ◌∷◌, refl, sym, ap, ◌∙◌, subst}
use Rattle.std.specs.Prelude.{IsTrue, ◌↔◌}
use Rattle.std.specs.List.{list_any, AllByRecursion}
use Rattle.std.specs.List.Sorted.{IsStrictlySortedBy}
use Rattle.std.specs.declared.cmp.Ordering.{Ordering}
use Rattle.std.specs.declared.cmp.Ordering.TheVariants.{Less, Equal, Greater}
use Rattle.std.proofs.Math.Bool.{or-true}
use Rattle.std.specs.Cmp.{both_ways}
use Rattle.token_system.proofs.Alike.{true_false}
use Rattle.std.specs.Ordering.{ordering_reverse}
use Rattle.agent_core.specs.declared.node.Closure.{Closure}
use Rattle.agent_core.specs.Closures.{closure_cmp, put_by, put, sorted}
use Rattle.agent_core.specs.Strata.{Each, In}
use Rattle.agent_laws.specs.SortedLists.{IsSortedOf}
use Rattle.agent_laws.proofs.Eachs.{Each-map}
use Rattle.agent_laws.proofs.Sorting.{closure_total, closure_anti, each_put, same_sorted}

-- each closure is below those after it
abbrev pub AreAscending : List Closure → Type 0
AreAscending [] = Unit {0}
AreAscending (x ∷ xs) = Each (λ y. closure_cmp x y ≡ Less) xs × AreAscending xs

each_by : (P : Closure → Type 0) (xs : List Closure) → Each P xs → AllByRecursion P xs
each_by P [] h = tt
each_by P (x ∷ xs) h = (h.0, each_by P xs h.1)

by_each : (P : Closure → Type 0) (xs : List Closure) → AllByRecursion P xs → Each P xs
by_each P [] h = tt
by_each P (x ∷ xs) h = (h.0, by_each P xs h.1)

-- in std's words
pub in_order : (xs : List Closure) → AreAscending xs → IsStrictlySortedBy closure_cmp xs
unfolding IsStrictlySortedBy
in_order [] h = tt
in_order (x ∷ xs) h = (each_by (λ y. closure_cmp x y ≡ Less) xs h.0, in_order xs h.1)

pub from_order : (xs : List Closure) → IsStrictlySortedBy closure_cmp xs → AreAscending xs
unfolding IsStrictlySortedBy
from_order [] h = tt
from_order (x ∷ xs) h = (by_each (λ y. closure_cmp x y ≡ Less) xs h.0, from_order xs h.1)

put-ascending : (c : Closure) (xs : List Closure) → AreAscending xs → AreAscending (put c xs)
put-ascending c [] h = (tt, tt)
put-ascending c (first ∷ rest) h = go (closure_cmp c first) refl (put-ascending c rest h.1)
  where
    go : (o : Ordering) → closure_cmp c first ≡ o → AreAscending (put c rest) → AreAscending (put_by o c first rest (put c rest))
    go Less e ih = ((e, Each-map (λ y. closure_cmp first y ≡ Less) (λ y. closure_cmp c y ≡ Less) (λ y le. closure_total.trans c first y e le) rest h.0), h)
    go Equal e ih = h
    go Greater e ih = (each_put (λ y. closure_cmp first y ≡ Less) c rest (closure_total.antisymm first c ∙ ap ordering_reverse e) h.0, ih)

pub sorted-ascending : (xs : List Closure) → AreAscending (sorted xs)
sorted-ascending [] = tt
sorted-ascending (x ∷ xs) = put-ascending x (sorted xs) (sorted-ascending xs)

put-first : (x : Closure) (xs : List Closure) → Each (λ y. closure_cmp x y ≡ Less) xs → put x xs ≡ x ∷ xs
put-first x [] h = refl
put-first x (first ∷ rest) h = ap (λ o. put_by o x first rest (put x rest)) h.0

-- a list that ascends is its own sorted list
pub ascending-sorted : (xs : List Closure) → AreAscending xs → sorted xs ≡ xs
ascending-sorted [] h = refl
ascending-sorted (x ∷ xs) h = ap (put x) (ascending-sorted xs h.1) ∙ put-first x xs h.0

-- MEMBERS

put-to : (y c : Closure) (xs : List Closure) → In y (put c xs) → (y ≡ c) ⊎ In y xs
put-to y c [] h = h
put-to y c (first ∷ rest) h = go (closure_cmp c first) (put-to y c rest) h
  where
    shift : (y ≡ c) ⊎ In y rest → (y ≡ c) ⊎ ((y ≡ first) ⊎ In y rest)
    shift (inl e) = inl e
    shift (inr i) = inr (inr i)

    go : (o : Ordering) → (In y (put c rest) → (y ≡ c) ⊎ In y rest) → In y (put_by o c first rest (put c rest)) → (y ≡ c) ⊎ ((y ≡ first) ⊎ In y rest)
    go Less ih h = h
    go Equal ih h = inr h
    go Greater ih (inl e) = inr (inl e)
    go Greater ih (inr i) = shift (ih i)

put-from : (y c : Closure) (xs : List Closure) → (y ≡ c) ⊎ In y xs → In y (put c xs)
put-from y c [] h = h
put-from y c (first ∷ rest) h = go (closure_cmp c first) refl (put-from y c rest) h
  where
    go : (o : Ordering) → closure_cmp c first ≡ o → ((y ≡ c) ⊎ In y rest → In y (put c rest)) → (y ≡ c) ⊎ ((y ≡ first) ⊎ In y rest) → In y (put_by o c first rest (put c rest))
    go Less e ih h = h
    go Equal e ih (inl same) = inl (same ∙ closure_anti c first e)
    go Equal e ih (inr h) = h
    go Greater e ih (inl same) = inr (ih (inl same))
    go Greater e ih (inr (inl same)) = inl same
    go Greater e ih (inr (inr i)) = inr (ih (inr i))

pub sorted-members : (y : Closure) (xs : List Closure) → In y (sorted xs) ↔ In y xs
sorted-members y [] = (λ i. i, λ i. i)
sorted-members y (x ∷ xs) = (λ i. down (sorted-members y xs).0 (put-to y x (sorted xs) i), λ i. put-from y x (sorted xs) (up (sorted-members y xs).1 i))
  where
    down : (In y (sorted xs) → In y xs) → (y ≡ x) ⊎ In y (sorted xs) → (y ≡ x) ⊎ In y xs
    down f (inl e) = inl e
    down f (inr i) = inr (f i)

    up : (In y xs → In y (sorted xs)) → (y ≡ x) ⊎ In y xs → (y ≡ x) ⊎ In y (sorted xs)
    up f (inl e) = inl e
    up f (inr i) = inr (f i)

any_from : (P : Closure → Bool) (xs : List Closure) (x : Closure) → In x xs → IsTrue (P x) → IsTrue (list_any P xs)
any_from P [] x i h = absurd i
any_from P (y ∷ xs) x (inl e) h = ap (λ b. b || list_any P xs) (subst (λ (z : Closure). P z ≡ true) e h)
any_from P (y ∷ xs) x (inr i) h = ap (λ b. P y || b) (any_from P xs x i h) ∙ or-true (P y)

any_to : (P : Closure → Bool) (xs : List Closure) → IsTrue (list_any P xs) → (x : Closure) × In x xs × IsTrue (P x)
any_to P [] h = absurd (true_false (sym h))
any_to P (y ∷ xs) h = go (P y) refl h (any_to P xs)
  where
    go : (b : Bool) → P y ≡ b → IsTrue (b || list_any P xs) → (IsTrue (list_any P xs) → (x : Closure) × In x xs × IsTrue (P x)) → (x : Closure) × ((x ≡ y) ⊎ In x xs) × IsTrue (P x)
    go true e h ih = (y, inl refl, e)
    go false e h ih = let f = ih h in (f.0, inr f.1, f.2)

-- the same passes a test
pub any_same : (xs ys : List Closure) → ((c : Closure) → In c xs ↔ In c ys) → (P : Closure → Bool) → list_any P xs ≡ list_any P ys
any_same xs ys same P = both_ways (list_any P xs) (list_any P ys)
    (λ h. let f = any_to P xs h in any_from P ys f.0 ((same f.0).0 f.1) f.2)
    (λ h. let f = any_to P ys h in any_from P xs f.0 ((same f.0).1 f.1) f.2)

-- THE SORTED LIST

pub sorted-is : (cs : List Closure) → IsSortedOf cs (sorted cs)
sorted-is cs = record { order = in_order (sorted cs) (sorted-ascending cs); members = λ c. sorted-members c cs }

pub sorted-only : (cs xs : List Closure) → IsSortedOf cs xs → xs ≡ sorted cs
sorted-only cs xs h = sym (ascending-sorted xs (from_order xs h.order)) ∙ same_sorted xs cs (any_same xs cs h.members)
