-- The lists of the next roots are those of the program, and keep what holds of every such pair of lists.
use Rattle.std.proofs.Common.{◌≡◌, ℕ, not, List, ◌++◌, length, length-append, sym, ap, ◌∙◌, subst, arith}
use Rattle.std.specs.Prelude.{filter, flat_map}
use Rattle.std.proofs.lemmas.List.Elements.{filter-append}
use Rattle.token_system.specs.Stores.{StoreMap}
use Rattle.token_system.proofs.Alike.{true_false}
use Rattle.agent_core.specs.declared.node.Closure.{Closure}
use Rattle.agent_core.specs.Programs.{CoreProgram}
use Rattle.agent_core.specs.Closures.{sorted, roots}
use Rattle.agent_core.specs.Strata.{In}
use Rattle.agent_laws.specs.NextRoots.{stays, starts, next_of}
use Rattle.agent_laws.proofs.Ascending.{in_order, sorted-ascending}
use Rattle.agent_laws.proofs.NextRoots.{roots-next}
use Rattle.instant_net.specs.Nets.{Flat}
use Rattle.instant_net.specs.Opened.{IsNetOf, IsNet}
use Rattle.residuals.specs.RootLists.{RootLists, listed_roots, AreRootLists, goes, AreRootsOf}
use Rattle.residuals.specs.NextRoots.{hence_body, next_body, started_by, next_lists, IsNetOfRoots, FollowRoots}
use Rattle.residuals.proofs.SortedClosures.{filter-to, filter-sorted, filter-twice, filter-others, sorted-parts, sorted-few}
use Rattle.residuals.proofs.StartedLeaves.{hence-started, next-started}
use Rattle.residuals.proofs.LeafCounts.{started-few, roots-few, filter-few}

-- where they are the roots of a list, they are those of all of them
pub roots-own : (p : CoreProgram) (rs : List Closure) (now : RootLists) → AreRootsOf p rs now → AreRootsOf p (listed_roots now) now
roots-own p rs now of = subst (λ (cs : List Closure). AreRootsOf p cs now) (sym of.all) of

-- the net of a program's roots
pub net-of_roots : (p : CoreProgram) (table : List ℕ) (rs : List Closure) (t : ℕ) (now : RootLists) (net : Flat) → AreRootsOf p rs now → IsNetOf p table (listed_roots now) t net → IsNetOfRoots net now
net-of_roots p table rs t now net of is = record {
  program = p;
  table = table;
  of = subst (λ (k : ℕ). IsNetOf p table (listed_roots now) k net) (sym is.instant) is;
  roots = roots-own p rs now of;
}

module _ (p : CoreProgram) (table : List ℕ) (rs : List Closure) (t : ℕ) (net : Flat) (is : IsNetOf p table rs t net) (w : StoreMap) (now : RootLists) (of : AreRootsOf p rs now) where
  abbrev begun : List Closure
  begun = flat_map (starts p w t) rs

  stay-is : sorted (now.stay ++ started_by hence_body net w) ≡ filter (stays p) (sorted (next_of p w t rs))
  stay-is =
      ap (λ (cs : List Closure). sorted (cs ++ started_by hence_body net w)) (of.stay ∙ sym (filter-twice (stays p) rs))
      ∙ ap (λ (cs : List Closure). sorted (filter (stays p) (filter (stays p) rs) ++ cs)) (hence-started p table rs t net is w)
      ∙ ap sorted (sym (filter-append (stays p) (filter (stays p) rs) begun))
      ∙ sym (filter-sorted (stays p) (next_of p w t rs))

  once-is : sorted (started_by next_body net w) ≡ filter (goes p) (sorted (next_of p w t rs))
  once-is =
      ap sorted (next-started p table rs t net is w)
      ∙ ap (λ (cs : List Closure). sorted (cs ++ filter (goes p) begun)) (sym (filter-others (stays p) rs))
      ∙ ap sorted (sym (filter-append (goes p) (filter (stays p) rs) begun))
      ∙ sym (filter-sorted (goes p) (next_of p w t rs))

  pub lists-are : AreRootsOf p (sorted (next_of p w t rs)) (next_lists net w now)
  lists-are = record {
    all =
        ap (λ (cs : List Closure). sorted (cs ++ sorted (now.stay ++ started_by hence_body net w))) once-is
        ∙ ap (λ (cs : List Closure). sorted (filter (goes p) (sorted (next_of p w t rs)) ++ cs)) stay-is
        ∙ sorted-parts (stays p) (next_of p w t rs);
    stay = stay-is;
    once = once-is;
  }

-- the next roots are the program's
pub lists-follow : (net : Flat) (w : StoreMap) (now : RootLists) → FollowRoots net w now (next_lists net w now)
lists-follow net w now p table closed of is =
    let same : IsNetOf p table (roots p closed) (length closed) net = subst (λ (cs : List Closure). IsNetOf p table cs (length closed) net) of.all is in
    subst (λ (cs : List Closure). AreRootsOf p cs (next_lists net w now)) (sym (roots-next p closed w is.program.tree))
    (lists-are p table (roots p closed) (length closed) net same w now of)

-- no closure is one that stays and one that goes
apart-by : (p : CoreProgram) (rs : List Closure) (next : RootLists) → AreRootsOf p rs next → (c : Closure) → In c next.once → In c next.stay → ⊥
apart-by p rs next of c i j =
    let once = (filter-to (goes p) c rs (subst (λ (cs : List Closure). In c cs) of.once i)).1 in
    let stay = (filter-to (stays p) c rs (subst (λ (cs : List Closure). In c cs) of.stay j)).1 in
    true_false (sym once ∙ ap not stay)

-- what holds of each pair of lists holds of the next one
pub lists-keep : (net : Flat) (w : StoreMap) (now : RootLists) → IsNet net → IsNetOfRoots net now → AreRootLists (next_lists net w now)
lists-keep net w now whole is = record {
  once = in_order (sorted (started_by next_body net w)) (sorted-ascending (started_by next_body net w));
  stay = in_order (sorted (now.stay ++ started_by hence_body net w)) (sorted-ascending (now.stay ++ started_by hence_body net w));
  apart = apart-by is.program (sorted (next_of is.program w net.instant (listed_roots now))) (next_lists net w now) (lists-are is.program is.table (listed_roots now) net.instant net is.of w now is.roots);
  few =
      let new = started-few net w whole.small in
      let old = roots-few is.program is.table (listed_roots now) net.instant net is.of whole.small in
      let stayed = ap length is.roots.stay in
      let part = filter-few (stays is.program) (listed_roots now) in
      let a = sorted-few (started_by next_body net w) in
      let b = sorted-few (now.stay ++ started_by hence_body net w) in
      omega (arith, length-append now.stay (started_by hence_body net w));
}
