-- What holds of each pair of lists of roots, and of the lists of the root alone.
use Rattle.std.proofs.Common.{◌≡◌, ◌+◌, ◌≤◌, List, [], ◌∷◌, ◌++◌, length, sym, subst, arith}
use Rattle.std.specs.List.Sorted.{IsStrictlySortedBy}
use Rattle.agent_core.specs.declared.node.Closure.{Closure}
use Rattle.agent_core.specs.Closures.{closure_cmp}
use Rattle.agent_laws.proofs.Ascending.{in_order, from_order, sorted-is}
use Rattle.residuals.specs.RootLists.{RootLists, listed_roots, AreRootLists}
use Rattle.residuals.proofs.SortedClosures.{length-sorted_apart}

pub listed-sorted : (roots : RootLists) → IsStrictlySortedBy closure_cmp (listed_roots roots)
listed-sorted roots = (sorted-is (roots.once ++ roots.stay)).order

pub length-listed : (roots : RootLists) → AreRootLists roots → length (listed_roots roots) ≡ length roots.once + length roots.stay
length-listed roots is = length-sorted_apart roots.once roots.stay (from_order roots.once is.once) (from_order roots.stay is.stay) is.apart

pub listed-few : (roots : RootLists) → AreRootLists roots → length (listed_roots roots) ≤ 131072
listed-few roots is = let h = length-listed roots is in let few = is.few in omega arith

pub ruleset listed_facts = (listed-sorted, length-listed, listed-few)

-- the root alone
pub first-keep : (once stay : List Closure) (c : Closure) → once ≡ c ∷ [] → stay ≡ [] → AreRootLists (record { once = once; stay = stay })
first-keep once stay c e f =
    let one : AreRootLists (record { once = c ∷ []; stay = [] }) = record { once = in_order (c ∷ []) (tt, tt); stay = in_order [] tt; apart = λ x i j. j; few = omega arith } in
    subst (λ (xs : List Closure). AreRootLists (record { once = once; stay = xs })) (sym f) (subst (λ (xs : List Closure). AreRootLists (record { once = xs; stay = [] })) (sym e) one)
