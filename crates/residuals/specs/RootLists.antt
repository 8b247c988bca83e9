-- The roots of an instant in two lists: those that a hence started, which are roots of each later instant too, and those of this instant alone. This project's own.
use Rattle.std.specs.Prelude.{◌≡◌, ◌+◌, ◌≤◌, Bool, not, List, ◌++◌, length, filter}
use Rattle.std.specs.List.Sorted.{IsStrictlySortedBy}
use Rattle.agent_core.specs.declared.node.Closure.{Closure}
use Rattle.agent_core.specs.Programs.{CoreProgram}
use Rattle.agent_core.specs.Closures.{closure_cmp, sorted}
use Rattle.agent_core.specs.Strata.{In}
use Rattle.agent_laws.specs.NextRoots.{stays}
use Rattle.instant_net.specs.Limits.{most_roots}

-- what roots are seen as
pub record RootLists : Type 0 where
  pub once : List Closure
  pub stay : List Closure

-- all of them, in their order
abbrev pub listed_roots : RootLists → List Closure
listed_roots roots = sorted (roots.once ++ roots.stay)

-- each list is in order, with no closure twice; no closure is in both; and there are at most twice as many as an instant may have leaves
pub record AreRootLists (roots : RootLists) : Type 0 where
  pub once : IsStrictlySortedBy closure_cmp roots.once
  pub stay : IsStrictlySortedBy closure_cmp roots.stay
  pub apart : (c : Closure) → In c roots.once → In c roots.stay → ⊥
  pub few : length roots.once + length roots.stay ≤ most_roots

abbrev pub goes : CoreProgram → Closure → Bool
goes p r = not (stays p r)

-- the two lists are those of this sorted list of the program's closures: those that stay, and the others
pub record AreRootsOf (p : CoreProgram) (rs : List Closure) (roots : RootLists) : Type 0 where
  pub all : listed_roots roots ≡ rs
  pub stay : roots.stay ≡ filter (stays p) rs
  pub once : roots.once ≡ filter (goes p) rs
