-- The roots after an instant, from the leaves of its net that its final store runs. This project's own.
use Rattle.std.specs.Prelude.{ℕ, List, [], ◌∷◌, ◌++◌, length, filter, filter_map, Option, None, Some}
use Rattle.token_system.specs.Stores.{StoreMap}
use Rattle.agent_core.specs.declared.node.Closure.{Closure}
use Rattle.agent_core.specs.Programs.{CoreProgram}
use Rattle.agent_core.specs.Closures.{sorted, roots}
use Rattle.instant_net.specs.NamedLeaves.{NamedLeaf, Kind, StartsHence, StartsNext, runs_named}
use Rattle.instant_net.specs.Nets.{Flat, net_leaves}
use Rattle.instant_net.specs.Opened.{IsNetOf}
use Rattle.residuals.specs.RootLists.{RootLists, listed_roots, AreRootsOf}

-- what a hence starts
abbrev pub hence_body : Kind → Option Closure
hence_body (StartsHence closure) = Some closure
hence_body _ = None

-- what a next starts
abbrev pub next_body : Kind → Option Closure
next_body (StartsNext closure) = Some closure
next_body _ = None

-- what these leaves start that the store runs, by one of these two
abbrev pub started_of : (Kind → Option Closure) → List NamedLeaf → StoreMap → List Closure
started_of body ls w = filter_map (λ l. body l.kind) (filter (runs_named w) ls)

-- what the leaves of the net do
abbrev pub started_by : (Kind → Option Closure) → Flat → StoreMap → List Closure
started_by body net w = started_of body (net_leaves net) w

-- the next roots: those that stay, with what hence starts; and what next starts
abbrev pub next_lists : Flat → StoreMap → RootLists → RootLists
next_lists net w now = record {
  once = sorted (started_by next_body net w);
  stay = sorted (now.stay ++ started_by hence_body net w);
}

-- the net is that of these roots, for some program and table, and of the roots those stay that a hence of this program started
pub record IsNetOfRoots (net : Flat) (now : RootLists) : Type 0 where
  pub program : CoreProgram
  pub table : List ℕ
  pub of : IsNetOf program table (listed_roots now) net.instant net
  pub roots : AreRootsOf program (listed_roots now) now

-- where these were the roots of a program after closed stores, they are its roots after one more
abbrev pub FollowRoots : Flat → StoreMap → RootLists → RootLists → Type 0
FollowRoots net w now next =
    (p : CoreProgram) (table : List ℕ) (closed : List StoreMap)
    → AreRootsOf p (roots p closed) now → IsNetOf p table (listed_roots now) (length closed) net
    → AreRootsOf p (roots p (closed ++ w ∷ [])) next
