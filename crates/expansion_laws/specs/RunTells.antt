-- What the paths of expansions say of runs: which stores, and so which outputs, run a tell inside a watching or a
-- time. This project's own.
use Rattle.std.specs.Prelude.{◌≡◌, ℕ, List, Contains, IsTrue, IsFalse}
use Rattle.token_system.specs.Stores.{StoreMap}
use Rattle.agent_core.specs.Agents.{Constraint}
use Rattle.agent_core.specs.Programs.{CoreProgram}
use Rattle.agent_core.specs.Rests.{entails}
use Rattle.agent_core.specs.Leaves.{Leaf, runs}
use Rattle.tdcc_reader.specs.Surfaces.{SurfaceProgram}
use Rattle.tdcc_reader.specs.Trees.{Tree, Watch, Time}
use Rattle.expansion_laws.specs.SymbolicAgents.{SymbolicAgent}
use Rattle.expansion_laws.specs.Table.{signal_on}
use Rattle.expansion_laws.specs.Origins.{subtree, subtrees, cell_binders, copied, IsAround, AreAround}
use Rattle.expansion_laws.specs.Paths.{IsHidden, IsTellInside}

-- Around each tell inside a watching stands a copy of the watching, with its hidden signal. An output that entails
-- the hidden signal, read under the births of the tell, does not run the tell.
abbrev pub HiddenSignalStops : SurfaceProgram → Tree → SymbolicAgent → CoreProgram → Type 0
HiddenSignalStops s tree d p =
    (m : ℕ) (a : Tree) (c : Constraint) (closed : List StoreMap) (l : Leaf) →
    Contains (subtrees 0 tree) (subtree m (Watch a c)) → IsTellInside s d p closed m a l →
    (k : ℕ) × IsHidden s d m k × IsAround p k l.node
    × ((output : StoreMap) → IsTrue (entails p l.births output (signal_on k)) → IsFalse (runs p output l))

-- Around each tell inside a time stand the news of a copy of its clock. A tell inside is run by outputs alone that
-- entail the clock, read under the births of the tell.
abbrev pub RunsOnItsClock : SurfaceProgram → Tree → SymbolicAgent → CoreProgram → Type 0
RunsOnItsClock s tree d p =
    (m : ℕ) (a : Tree) (c : Constraint) (closed : List StoreMap) (l : Leaf) →
    Contains (subtrees 0 tree) (subtree m (Time a c)) → IsTellInside s d p closed m a l →
    (clock : Constraint) × (copied (cell_binders s d) clock ≡ c) × AreAround p clock l.node
    × ((output : StoreMap) → IsTrue (runs p output l) → IsTrue (entails p l.births output clock))
