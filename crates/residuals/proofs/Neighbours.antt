-- A list in which each closure comes before the one behind it is its own sorted list.
use Rattle.std.proofs.Common.{◌≡◌, ℕ, suc, ◌<◌, ◌≤◌, List, [], ◌∷◌, length, get_or, sym, arith}
use Rattle.std.specs.declared.cmp.Ordering.TheVariants.{Less}
use Rattle.agent_core.specs.declared.node.Closure.{Closure}
use Rattle.agent_core.specs.Closures.{closure_cmp, sorted}
use Rattle.agent_core.specs.Strata.{Each}
use Rattle.agent_laws.proofs.Sorting.{closure_total}
use Rattle.agent_laws.proofs.Ascending.{AreAscending, ascending-sorted}

-- each of the closures before this place but the last comes before the one behind it
abbrev pub AreRising : List Closure → ℕ → Type 0
AreRising cs place = (i : ℕ) (c d : Closure) → suc i < place → suc i < length cs → closure_cmp (get_or cs i c) (get_or cs (suc i) d) ≡ Less

each_above : (x y : Closure) (cs : List Closure) → closure_cmp x y ≡ Less → Each (λ c. closure_cmp y c ≡ Less) cs → Each (λ c. closure_cmp x c ≡ Less) cs
each_above x y [] lt h = tt
each_above x y (c ∷ cs) lt h = (closure_total.trans x y c lt h.0, each_above x y cs lt h.1)

rising : (cs : List Closure) → AreRising cs (length cs) → AreAscending cs
rising [] h = tt
rising (x ∷ []) h = (tt, tt)
rising (x ∷ y ∷ cs) h =
    let later = rising (y ∷ cs) (λ i c d lt le. h (suc i) c d (omega arith) (omega arith)) in
    let lt = h 0 x y (omega arith) (omega arith) in
    ((lt, each_above x y cs lt later.0), later)

pub rising-sorted : (cs : List Closure) (place : ℕ) → length cs ≤ place → AreRising cs place → cs ≡ sorted cs
rising-sorted cs place le h = sym (ascending-sorted cs (rising cs (λ i c d lt long. h i c d (omega arith) long)))
