-- How many closures the leaves of a net start, and how many roots it has.
use Rattle.std.proofs.Common.{ℕ, suc, ◌+◌, ◌≤◌, Bool, true, false, cond, List, [], ◌∷◌, length, ap, arith}
use Rattle.std.specs.Prelude.{filter, filter_map}
use Rattle.std.specs.List.{cons_option}
use Rattle.token_system.specs.Stores.{StoreMap}
use Rattle.agent_core.specs.declared.node.Closure.{Closure}
use Rattle.agent_core.specs.Agents.{Agent, Skip, Tell, Then, Else, Par, New, Hence, Next, agent_at}
use Rattle.agent_core.specs.Programs.{CoreProgram}
use Rattle.instant_net.specs.NamedLeaves.{Kind, Idle, Tells, StartsHence, StartsNext, NamedLeaf, runs_named}
use Rattle.instant_net.specs.Nets.{Flat, net_leaves, named_leaf}
use Rattle.instant_net.specs.Opened.{IsNetOf, IsSmallNet}
use Rattle.instant_net.specs.Programs.{agent_leaf_count, root_leaves}
use Rattle.instant_net.proofs.Counts.{length-map, length-first}
use Rattle.residuals.specs.NextRoots.{hence_body, next_body, started_by}

pub filter-few : {X : Type 0} (P : X → Bool) (xs : List X) → length (filter P xs) ≤ length xs
filter-few P [] = omega arith
filter-few {X} P (x ∷ xs) = go (P x) (filter-few P xs)
  where
    go : (b : Bool) → length (filter P xs) ≤ length xs → length (cond b (x ∷ filter P xs) (filter P xs)) ≤ suc (length xs)
    go true h = omega arith
    go false h = omega arith

-- each leaf starts one closure at most
both-few : (ls : List NamedLeaf) → length (filter_map (λ l. next_body l.kind) ls) + length (filter_map (λ l. hence_body l.kind) ls) ≤ length ls
both-few [] = omega arith
both-few (l ∷ ls) = go l.kind (both-few ls)
  where
    go : (k : Kind) → length (filter_map (λ l. next_body l.kind) ls) + length (filter_map (λ l. hence_body l.kind) ls) ≤ length ls
        → length (cons_option (next_body k) (filter_map (λ l. next_body l.kind) ls)) + length (cons_option (hence_body k) (filter_map (λ l. hence_body l.kind) ls)) ≤ suc (length ls)
    go Idle h = omega arith
    go (Tells told) h = omega arith
    go (StartsHence c) h = omega arith
    go (StartsNext c) h = omega arith

pub started-few : (net : Flat) (w : StoreMap) → IsSmallNet net → length (started_by next_body net w) + length (started_by hence_body net w) ≤ 65536
started-few net w small =
    let h = both-few (filter (runs_named w) (net_leaves net)) in
    let g = filter-few (runs_named w) (net_leaves net) in
    let f = length-map (named_leaf net) net.leaves in
    let few = small.leaves in
    omega arith

count-some : (a : Agent) → 1 ≤ agent_leaf_count a
count-some Skip = omega arith
count-some (Tell c) = omega arith
count-some (Then c a) = count-some a
count-some (Else c a) = count-some a
count-some (Par a b) = let h = count-some a in omega arith
count-some (New cell a) = count-some a
count-some (Hence a) = omega arith
count-some (Next a) = omega arith

roots-leaves : (p : CoreProgram) (rs : List Closure) (t : ℕ) → length rs ≤ length (root_leaves p rs t)
roots-leaves p [] t = omega arith
roots-leaves p (r ∷ rs) t =
    let h = roots-leaves p rs t in
    let g = count-some (agent_at p.nodes r.node) in
    omega (arith, length-first p r rs t)

-- each root has a leaf
pub roots-few : (p : CoreProgram) (table : List ℕ) (rs : List Closure) (t : ℕ) (net : Flat) → IsNetOf p table rs t net → IsSmallNet net → length rs ≤ 65536
roots-few p table rs t net is small =
    let h = roots-leaves p rs t in
    let g = ap length is.leaves in
    let f = length-map (named_leaf net) net.leaves in
    let few = small.leaves in
    omega arith
