-- A watching that was stopped runs nothing more. This project's own.
use Rattle.std.specs.Prelude.{◌≡◌, ℕ, ◌+◌, ◌≤◌, List, [], ◌∷◌, ◌++◌, take, Some, Contains, slice_get, IsTrue, IsFalse}
use Rattle.token_system.specs.declared.name.CellName.TheVariants.{Local}
use Rattle.token_system.specs.Stores.{StoreMap}
use Rattle.agent_core.specs.declared.node.Node.TheVariants as nodes
use Rattle.agent_core.specs.Agents.{Constraint}
use Rattle.agent_core.specs.Programs.{CoreProgram}
use Rattle.agent_core.specs.Names.{name_of, new_of}
use Rattle.agent_core.specs.Outputs.{IsRun}
use Rattle.agent_core.specs.Rests.{entails}
use Rattle.agent_core.specs.Leaves.{Leaf, Negative, runs}
use Rattle.tdcc_reader.specs.Surfaces.{SurfaceProgram}
use Rattle.tdcc_reader.specs.Trees.{Tree, Watch}
use Rattle.expansion_laws.specs.SymbolicAgents.{SymbolicAgent}
use Rattle.expansion_laws.specs.Table.{signal_on}
use Rattle.expansion_laws.specs.Origins.{subtree, free_subtrees, cell_binders, copied, IsAround}
use Rattle.expansion_laws.specs.Paths.{IsHidden, IsTellInside}

-- a watching of a tree: its number among the forms, its body and its constraint
pub record WatchingForm : Type 0 where
  pub number : ℕ
  pub body : Tree
  pub stop : Constraint

-- it stands in the tree, and in no body of another watching or of a time
abbrev pub StandsFree : Tree → WatchingForm → Type 0
StandsFree tree w = Contains (free_subtrees 0 tree) (subtree w.number (Watch w.body w.stop))

-- a copy of a watching that was started: its hidden signal, the instant at which it was started, the births of the
-- news that stood around it then, and its constraint
pub record StartedCopy : Type 0 where
  pub hidden : ℕ
  pub start : ℕ
  pub births : List ℕ
  pub stop : Constraint

-- the copy's hidden signal is that of form m, its new stands around the leaf, and the leaf waits for its absence
pub record WaitsForAbsence (s : SurfaceProgram) (d : SymbolicAgent) (p : CoreProgram) (m : ℕ) (copy : StartedCopy)
    (l : Leaf) : Type 0 where
  pub is : IsHidden s d m copy.hidden
  pub around : IsAround p copy.hidden l.node
  pub denied : Contains l.path (Negative l.births (signal_on copy.hidden))

-- the leaf comes of this start of the copy: its births are first those around the copy and then the instant of the
-- start, and by these it names the hidden signal
pub record ComesOfStart (p : CoreProgram) (copy : StartedCopy) (l : Leaf) : Type 0 where
  pub more : List ℕ
  pub first : l.births ≡ copy.births ++ copy.start ∷ more
  pub named : name_of p l.births copy.hidden ≡ Local (new_of p.nodes copy.hidden) (copy.births ++ copy.start ∷ [])

-- the third node behind the new of the hidden signal asks for the copy's constraint, which copies this one
pub record AsksForStop (s : SurfaceProgram) (d : SymbolicAgent) (p : CoreProgram) (copy : StartedCopy)
    (c : Constraint) : Type 0 where
  pub body : ℕ
  pub asked : slice_get p.nodes (new_of p.nodes copy.hidden + 3) ≡ Some (nodes.Then copy.stop body)
  pub copies : copied (cell_binders s d) copy.stop ≡ c

-- the leaf belongs to this copy of the watching
pub record IsWatched (s : SurfaceProgram) (d : SymbolicAgent) (p : CoreProgram) (w : WatchingForm)
    (copy : StartedCopy) (l : Leaf) : Type 0 where
  pub waits : WaitsForAbsence s d p w.number copy l
  pub comes : ComesOfStart p copy l
  pub asks : AsksForStop s d p copy w.stop

-- an instant of a run: the run's inputs and outputs, the number of the instant, and its output
pub record RunInstant : Type 0 where
  pub ins : List StoreMap
  pub outs : List StoreMap
  pub now : ℕ
  pub output : StoreMap

-- the lists are a run of the program, and its output of that instant is this one
pub record IsInstantOf (p : CoreProgram) (r : RunInstant) : Type 0 where
  pub run : IsRun p r.ins r.outs
  pub last : slice_get r.outs r.now ≡ Some r.output

-- The copy was started by this instant; and once an output since then entails its constraint, read under the births
-- of the copy, the output of this instant does not run the leaf.
pub record StopsSince (p : CoreProgram) (copy : StartedCopy) (r : RunInstant) (l : Leaf) : Type 0 where
  pub started : copy.start ≤ r.now
  pub stopped : (n : ℕ) (w : StoreMap) → copy.start ≤ n → n ≤ r.now → slice_get r.outs n ≡ Some w
      → IsTrue (entails p copy.births w copy.stop) → IsFalse (runs p r.output l)

-- Each tell of a run's instant that stems from a form inside a free watching belongs to a started copy of the
-- watching, which stops it for good.
abbrev pub StopsForGood : SurfaceProgram → Tree → SymbolicAgent → CoreProgram → Type 0
StopsForGood s tree d p =
    (w : WatchingForm) (r : RunInstant) (l : Leaf) →
    StandsFree tree w → IsInstantOf p r → IsTellInside s d p (take r.now r.outs) w.number w.body l →
    (copy : StartedCopy) × IsWatched s d p w copy l × StopsSince p copy r l
