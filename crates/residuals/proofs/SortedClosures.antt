-- Sorted lists of closures: parts of them, and how long they are.
use Rattle.std.proofs.Common.{◌≡◌, ◌⊎◌, inl, inr, suc, ◌+◌, ◌≤◌, Bool, true, false, not, cond, List, [], ◌∷◌, ◌++◌, length, refl, sym, ap, ◌∙◌, arith}
use Rattle.std.specs.Prelude.{IsTrue, filter}
use Rattle.std.specs.Ordering.{ordering_reverse}
use Rattle.std.specs.declared.cmp.Ordering.{Ordering}
use Rattle.std.specs.declared.cmp.Ordering.TheVariants.{Less, Equal, Greater}
use Rattle.std.proofs.lemmas.List.Kept.{IsStrictlySortedBy-filter}
use Rattle.std.proofs.lemmas.List.Sorted.{IsPermutation-filter_both, list_any-IsPermutation}
use Rattle.token_system.proofs.Alike.{true_false}
use Rattle.agent_core.specs.declared.node.Closure.{Closure}
use Rattle.agent_core.specs.Closures.{closure_cmp, put_by, put, sorted}
use Rattle.agent_core.specs.Strata.{Each, In}
use Rattle.agent_laws.proofs.Sorting.{closure_total, closure_anti, same_sorted}
use Rattle.agent_laws.proofs.Ascending.{AreAscending, ascending-sorted, sorted-ascending, sorted-is, sorted-members, sorted-only}

-- PARTS

module _ (S : Closure → Bool) where
  kept_to : (c x : Closure) (xs : List Closure) → (In c (filter S xs) → In c xs × IsTrue (S c)) → (b : Bool) → S x ≡ b → In c (cond b (x ∷ filter S xs) (filter S xs)) → ((c ≡ x) ⊎ In c xs) × IsTrue (S c)
  kept_to c x xs ih true e (inl same) = (inl same, ap S same ∙ e)
  kept_to c x xs ih true e (inr i) = let h = ih i in (inr h.0, h.1)
  kept_to c x xs ih false e i = let h = ih i in (inr h.0, h.1)

  kept_from : (c x : Closure) (xs : List Closure) → (In c xs → IsTrue (S c) → In c (filter S xs)) → (b : Bool) → S x ≡ b → (c ≡ x) ⊎ In c xs → IsTrue (S c) → In c (cond b (x ∷ filter S xs) (filter S xs))
  kept_from c x xs ih true e (inl same) t = inl same
  kept_from c x xs ih true e (inr i) t = inr (ih i t)
  kept_from c x xs ih false e (inl same) t = absurd (true_false (sym t ∙ ap S same ∙ e))
  kept_from c x xs ih false e (inr i) t = ih i t

  pub filter-to : (c : Closure) (xs : List Closure) → In c (filter S xs) → In c xs × IsTrue (S c)
  filter-to c [] i = absurd i
  filter-to c (x ∷ xs) i = kept_to c x xs (filter-to c xs) (S x) refl i

  pub filter-from : (c : Closure) (xs : List Closure) → In c xs → IsTrue (S c) → In c (filter S xs)
  filter-from c [] i t = absurd i
  filter-from c (x ∷ xs) i t = kept_from c x xs (filter-from c xs) (S x) refl i t

  -- a part of a sorted list is the sorted list of that part
  pub filter-sorted : (xs : List Closure) → filter S (sorted xs) ≡ sorted (filter S xs)
  filter-sorted xs = sorted-only (filter S xs) (filter S (sorted xs)) (record {
    order = IsStrictlySortedBy-filter closure_cmp S (sorted xs) (sorted-is xs).order;
    members = λ c. (
      λ i. let h = filter-to c (sorted xs) i in filter-from c xs ((sorted-members c xs).0 h.0) h.1,
      λ i. let h = filter-to c xs i in filter-from c (sorted xs) ((sorted-members c xs).1 h.0) h.1,
    );
  })

  filter-cond : (x : Closure) (ys : List Closure) (b : Bool) → S x ≡ b → filter S (cond b (x ∷ ys) ys) ≡ cond b (x ∷ filter S ys) (filter S ys)
  filter-cond x ys true e = ap (λ b. cond b (x ∷ filter S ys) (filter S ys)) e
  filter-cond x ys false e = refl

  pub filter-twice : (xs : List Closure) → filter S (filter S xs) ≡ filter S xs
  filter-twice [] = refl
  filter-twice (x ∷ xs) = filter-cond x (filter S xs) (S x) refl ∙ ap (λ ys. cond (S x) (x ∷ ys) ys) (filter-twice xs)

  others : (x : Closure) (ys : List Closure) (b : Bool) → S x ≡ b → filter (λ c. not (S c)) (cond b (x ∷ ys) ys) ≡ filter (λ c. not (S c)) ys
  others x ys true e = ap (λ b. cond (not b) (x ∷ filter (λ c. not (S c)) ys) (filter (λ c. not (S c)) ys)) e
  others x ys false e = refl

  pub filter-others : (xs : List Closure) → filter (λ c. not (S c)) (filter S xs) ≡ []
  filter-others [] = refl
  filter-others (x ∷ xs) = others x (filter S xs) (S x) refl ∙ filter-others xs

  not_not : (b : Bool) → b ≡ not (not b)
  not_not true = refl
  not_not false = refl

  -- both parts of a sorted list together are its closures
  pub sorted-parts : (xs : List Closure) → sorted (filter (λ c. not (S c)) (sorted xs) ++ filter S (sorted xs)) ≡ sorted xs
  sorted-parts xs =
      let rest : Closure → Bool = λ c. not (S c) in
      let moved = IsPermutation-filter_both rest S (λ c. not_not (S c)) (sorted xs) in
      same_sorted (filter rest (sorted xs) ++ filter S (sorted xs)) (sorted xs) (λ P. sym (list_any-IsPermutation P (sorted xs) (filter rest (sorted xs) ++ filter S (sorted xs)) moved))
      ∙ ascending-sorted (sorted xs) (sorted-ascending xs)

-- LENGTHS

length-put : (c : Closure) (xs : List Closure) → (In c xs → ⊥) → length (put c xs) ≡ suc (length xs)
length-put c [] out = refl
length-put c (first ∷ rest) out = go (closure_cmp c first) refl (length-put c rest (λ i. out (inr i)))
  where
    go : (o : Ordering) → closure_cmp c first ≡ o → length (put c rest) ≡ suc (length rest) → length (put_by o c first rest (put c rest)) ≡ suc (suc (length rest))
    go Less e ih = refl
    go Equal e ih = absurd (out (inl (closure_anti c first e)))
    go Greater e ih = ap suc ih

put-few : (c : Closure) (xs : List Closure) → length (put c xs) ≤ suc (length xs)
put-few c [] = omega arith
put-few c (first ∷ rest) = go (closure_cmp c first) (put-few c rest)
  where
    go : (o : Ordering) → length (put c rest) ≤ suc (length rest) → length (put_by o c first rest (put c rest)) ≤ suc (suc (length rest))
    go Less ih = omega arith
    go Equal ih = omega arith
    go Greater ih = omega arith

pub sorted-few : (xs : List Closure) → length (sorted xs) ≤ length xs
sorted-few [] = omega arith
sorted-few (x ∷ xs) = let h = put-few x (sorted xs) in let g = sorted-few xs in omega arith

-- a closure is not below itself
above-out : (x : Closure) (xs : List Closure) → Each (λ y. closure_cmp x y ≡ Less) xs → In x xs → ⊥
above-out x [] h i = i
above-out x (y ∷ ys) h (inl same) =
    let e : closure_cmp x x ≡ Less = ap (closure_cmp x) same ∙ h.0 in
    let f : Less ≡ Greater = sym e ∙ closure_total.antisymm x x ∙ ap ordering_reverse e in
    absurd (cc)
above-out x (y ∷ ys) h (inr i) = above-out x ys h.1 i

-- two lists that ascend and share no closure
pub length-sorted_apart : (xs ys : List Closure) → AreAscending xs → AreAscending ys → ((c : Closure) → In c xs → In c ys → ⊥) → length (sorted (xs ++ ys)) ≡ length xs + length ys
length-sorted_apart [] ys f g apart = ap length (ascending-sorted ys g) ∙ omega arith
length-sorted_apart (x ∷ xs) ys f g apart =
    let ih = length-sorted_apart xs ys f.1 g (λ c i. apart c (inr i)) in
    let one = length-put x (sorted (xs ++ ys)) (λ i. out (split xs ((sorted-members x (xs ++ ys)).0 i))) in
    omega arith
  where
    split : (zs : List Closure) → In x (zs ++ ys) → In x zs ⊎ In x ys
    split [] i = inr i
    split (z ∷ zs) (inl same) = inl (inl same)
    split (z ∷ zs) (inr i) = shift (split zs i)
      where
        shift : In x zs ⊎ In x ys → ((x ≡ z) ⊎ In x zs) ⊎ In x ys
        shift (inl i) = inl (inr i)
        shift (inr i) = inr i

    out : In x xs ⊎ In x ys → ⊥
    out (inl i) = above-out x xs f.0 i
    out (inr i) = apart x (inl refl) i
