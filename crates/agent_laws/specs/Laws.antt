-- What is proved of programs: where they have one output and one run, and what their leaves and their roots have to do with it.
use Rattle.std.specs.Prelude.{◌≡◌, ℕ, List, [], ◌∷◌, ◌++◌, length, All}
use Rattle.std.specs.List.{list_all}
use Rattle.token_system.specs.Stores.{StoreMap}
use Rattle.agent_core.specs.declared.node.Closure.{Closure}
use Rattle.agent_core.specs.Programs.{CoreProgram}
use Rattle.agent_core.specs.WellFormed.{IsWellFormed}
use Rattle.agent_core.specs.Names.{IsClosure}
use Rattle.agent_core.specs.Stores.{IsStore, Below}
use Rattle.agent_core.specs.RestsAfter.{obs}
use Rattle.agent_core.specs.Outputs.{IsOutput, IsRun}
use Rattle.agent_core.specs.Closures.{closure, sorted, roots}
use Rattle.agent_core.specs.Leaves.{leaves}
use Rattle.agent_core.specs.Strata.{Stratifies}
use Rattle.agent_core.specs.RootOutputs.{roots_rest, IsOutputOf}
use Rattle.agent_laws.specs.LeafRests.{leaf_rests}
use Rattle.agent_laws.specs.LeafLevels.{tell_ran}
use Rattle.agent_laws.specs.SortedLists.{IsSortedOf}
use Rattle.agent_laws.specs.NextRoots.{next_of}

-- there is one value of which P holds, and no other
abbrev pub ExactlyOne : {X : Type 0} → (X → Type 0) → Type 0
ExactlyOne {X} P = (x : X) × P x × ((y : X) → P y → x ≡ y)

-- each is a closure of the program
abbrev pub AreClosures : CoreProgram → List Closure → Type 0
AreClosures p rs = All (λ r. IsClosure p r.node r.births) rs

-- the sorted list has the closures of the list in order, each once, and no other list has
abbrev pub SortedIsInOrder : Type 0
SortedIsInOrder = (cs : List Closure) → IsSortedOf cs (sorted cs) × ((xs : List Closure) → IsSortedOf cs xs → xs ≡ sorted cs)

-- closures of a program that a table stratifies have exactly one output on each input, at whatever instant they are started
abbrev pub RootsHaveOneOutput : Type 0
RootsHaveOneOutput =
    (p : CoreProgram) (table : List ℕ) → IsWellFormed p → Stratifies p table
    → (rs : List Closure) → AreClosures p rs → (t : ℕ) (i : StoreMap) → IsStore p i → ExactlyOne (IsOutputOf p rs t i)

-- and that output is the input with what the leaves tell that it runs
abbrev pub OutputsAreTold : Type 0
OutputsAreTold =
    (p : CoreProgram) (table : List ℕ) → IsWellFormed p → Stratifies p table
    → (rs : List Closure) → AreClosures p rs → (t : ℕ) (i v : StoreMap) → IsOutputOf p rs t i v → tell_ran p v (leaves p rs t) i ≡ v

-- where u is below v, closures rest under (u, v) exactly where each of their leaves does
abbrev pub RestsByLeaves : Type 0
RestsByLeaves =
    (p : CoreProgram) → IsWellFormed p → (rs : List Closure) → AreClosures p rs → (t : ℕ) (u v : StoreMap) → Below p u v
    → roots_rest p rs t u v ≡ list_all (leaf_rests p u v) (leaves p rs t)

-- after closed stores the program rests exactly where the roots of the instant do
abbrev pub RestsByRoots : Type 0
RestsByRoots = (p : CoreProgram) → IsWellFormed p → (z : List StoreMap) (u v : StoreMap) → obs p 0 [] 0 z u v ≡ roots_rest p (roots p z) (length z) u v

-- the roots of an instant are closures of the program, and at instant 0 the root alone
abbrev pub RootsAreClosures : Type 0
RootsAreClosures = (p : CoreProgram) → IsWellFormed p → (z : List StoreMap) → AreClosures p (roots p z)

abbrev pub StartsAtRoot : Type 0
StartsAtRoot = (p : CoreProgram) → roots p [] ≡ closure 0 [] ∷ []

-- a program that a table stratifies has exactly one output on each input, after whatever closed stores
abbrev pub ProgramHasOneOutput : Type 0
ProgramHasOneOutput =
    (p : CoreProgram) (table : List ℕ) → IsWellFormed p → Stratifies p table
    → (z : List StoreMap) (i : StoreMap) → IsStore p i → ExactlyOne (IsOutput p z i)

-- and exactly one run on each list of inputs
abbrev pub ProgramHasOneRun : Type 0
ProgramHasOneRun =
    (p : CoreProgram) (table : List ℕ) → IsWellFormed p → Stratifies p table
    → (ins : List StoreMap) → All (IsStore p) ins → ExactlyOne (IsRun p ins)

-- after one more closed store: the roots that stay, and those that the leaves start which the store runs
abbrev pub NextRootsFollow : Type 0
NextRootsFollow =
    (p : CoreProgram) → IsWellFormed p → (z : List StoreMap) (w : StoreMap)
    → roots p (z ++ w ∷ []) ≡ sorted (next_of p w (length z) (roots p z))
