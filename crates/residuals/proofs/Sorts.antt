-- What is left of closures after a sort and a dedup: their sorted list.
use Rattle.std.proofs.Common.{◌≡◌, Bool, true, false, ◌||◌, cond, List, [], ◌∷◌, refl, sym, ap, ◌∙◌}
use Rattle.std.specs.List.{list_any, dedup, dedup_from}
use Rattle.std.specs.List.Sorted.{IsPermutation, IsSorted}
use Rattle.std.specs.Ordering.{eq_by_cmp}
use Rattle.std.proofs.Math.Bool.{or_self_left}
use Rattle.std.proofs.lemmas.List.Kept.{IsStrictlySortedBy-dedup}
use Rattle.std.proofs.lemmas.List.Sorted.{list_any-IsPermutation}
use Rattle.std.proofs.lemmas.Map.Views.{tells_apart}
use Rattle.agent_core.specs.declared.node.Closure.{Closure}
use Rattle.agent_core.specs.Closures.{closure_cmp, sorted}
use Rattle.agent_laws.proofs.Sorting.{closure_total, closure_anti, same_sorted}
use Rattle.agent_laws.proofs.Ascending.{from_order, ascending-sorted}

-- whether two closures are one
abbrev pub same : Closure → Closure → Bool
same = eq_by_cmp closure_cmp

module _ (P : Closure → Bool) where
  any-dedup_from : (k : Closure) (xs : List Closure) → list_any P (dedup_from same k xs) ≡ (P k || list_any P xs)
  any-dedup_from k [] = refl
  any-dedup_from k (x ∷ xs) = go (same x k) refl (any-dedup_from k xs) (any-dedup_from x xs)
    where
      go : (b : Bool) → same x k ≡ b → list_any P (dedup_from same k xs) ≡ (P k || list_any P xs) → list_any P (dedup_from same x xs) ≡ (P x || list_any P xs)
          → list_any P (cond b (dedup_from same k xs) (k ∷ dedup_from same x xs)) ≡ (P k || (P x || list_any P xs))
      go true e here there =
          here ∙ sym (or_self_left (P k) (list_any P xs)) ∙ ap (λ (c : Closure). P k || (P c || list_any P xs)) (sym (tells_apart closure_anti x k e))
      go false e here there = ap (λ (b : Bool). P k || b) there

  any-dedup : (xs : List Closure) → list_any P (dedup same xs) ≡ list_any P xs
  any-dedup [] = refl
  any-dedup (x ∷ xs) = any-dedup_from x xs

pub dedup-sorted : (xs ys : List Closure) → IsPermutation xs ys → IsSorted closure_cmp ys → dedup same ys ≡ sorted xs
dedup-sorted xs ys moved order =
    sym (ascending-sorted (dedup same ys) (from_order (dedup same ys) (IsStrictlySortedBy-dedup closure_total (λ x y. refl) ys order)))
    ∙ same_sorted (dedup same ys) xs (λ P. any-dedup P ys ∙ sym (list_any-IsPermutation P xs ys moved))
