-- What is proved of the nets of a program's roots.
use Rattle.std.specs.Prelude.{◌≡◌, ◌↔◌, ◌≤◌, ℕ, List, length, slice_get}
use Rattle.std.specs.List.{list_all}
use Rattle.token_system.specs.Stores.{StoreMap}
use Rattle.agent_core.specs.declared.node.Closure.{Closure}
use Rattle.agent_core.specs.Programs.{CoreProgram}
use Rattle.agent_core.specs.Stores.{IsInput, Below}
use Rattle.agent_core.specs.Strata.{Stratifies}
use Rattle.agent_core.specs.RootOutputs.{roots_rest, IsOutputOf}
use Rattle.agent_core.specs.Leaves as core
use Rattle.agent_laws.specs.LeafRests as core_rests
use Rattle.instant_net.specs.NamedLeaves.{leaves_rest}
use Rattle.instant_net.specs.Nets.{Flat, net_leaves}
use Rattle.instant_net.specs.Opened.{IsNet, IsNetOf}
use Rattle.instant_net.specs.Outputs.{IsNetOutput, IsStratified}
use Rattle.instant_net.specs.Readers.{leaf_tells_of}

-- where the table stratifies the program, the net of any roots is stratified
abbrev pub NetsAreStratified : Type 0
NetsAreStratified = (p : CoreProgram) (table : List ℕ) (rs : List Closure) (t : ℕ) (net : Flat) → IsNetOf p table rs t net → Stratifies p table → IsStratified net

-- of two stores, one below the other, the leaves of the net rest under them exactly where each of its roots does, started at the net's instant
abbrev pub NetsRestByRoots : Type 0
NetsRestByRoots =
    (p : CoreProgram) (table : List ℕ) (rs : List Closure) (t : ℕ) (net : Flat) → IsNetOf p table rs t net
    → (u v : StoreMap) → Below p u v → leaves_rest (net_leaves net) u v ≡ roots_rest p rs t u v

-- any two stores rest for the leaves of the net exactly where they rest for the leaves of its roots
abbrev pub NetsRestByLeaves : Type 0
NetsRestByLeaves =
    (p : CoreProgram) (table : List ℕ) (rs : List Closure) (t : ℕ) (net : Flat) → IsNetOf p table rs t net
    → (u v : StoreMap) → leaves_rest (net_leaves net) u v ≡ list_all (core_rests.leaf_rests p u v) (core.leaves p rs t)

-- the outputs of the net are those of the roots, whether the program is stratified or not
abbrev pub NetsHaveRootOutputs : Type 0
NetsHaveRootOutputs =
    (p : CoreProgram) (table : List ℕ) (rs : List Closure) (t : ℕ) (net : Flat) → IsNetOf p table rs t net
    → (i v : StoreMap) → IsInput p i → IsNetOutput net i v ↔ IsOutputOf p rs t i v

-- roots have one net at an instant
abbrev pub RootsHaveOneNet : Type 0
RootsHaveOneNet =
    (p : CoreProgram) (table : List ℕ) (rs : List Closure) (t : ℕ) (net net' : Flat) → IsNetOf p table rs t net → IsNetOf p table rs t net' → net ≡ net'

-- a leaf of a net tells 16 tokens at most
abbrev pub LeavesTellFew : Type 0
LeavesTellFew = (net : Flat) → IsNet net → (leaf : ℕ) → length (leaf_tells_of (slice_get net.leaves leaf)) ≤ 16
