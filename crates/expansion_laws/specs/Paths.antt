-- What stands above the tells that an expansion copies: the absence of the hidden signal of each watching, and the
-- clock of each time around them. This project's own.
use Rattle.std.specs.Prelude.{◌≡◌, ◌⊎◌, ℕ, suc, ◌+◌, ◌<◌, List, length, Some, None, All, Contains, slice_get}
use Rattle.token_system.specs.declared.cell.Token.{Token}
use Rattle.token_system.specs.Stores.{StoreMap}
use Rattle.agent_core.specs.Agents.{Constraint}
use Rattle.agent_core.specs.Agents as agent
use Rattle.agent_core.specs.Programs.{CoreProgram}
use Rattle.agent_core.specs.Names.{name_of}
use Rattle.agent_core.specs.Closures.{roots}
use Rattle.agent_core.specs.Leaves.{Leaf, Positive, Negative, leaves}
use Rattle.tdcc_reader.specs.Surfaces.{SurfaceProgram}
use Rattle.tdcc_reader.specs.Trees.{Tree, Tell, Watch, Time, form_count}
use Rattle.expansion_laws.specs.SymbolicAgents.{SymbolicAgent, origins}
use Rattle.expansion_laws.specs.Table.{signal_on}
use Rattle.expansion_laws.specs.Origins.{subtree, subtrees, cell_binders, copied, IsAround, AreAround}

-- the cell is the hidden one of form m
abbrev pub IsHidden : SurfaceProgram → SymbolicAgent → ℕ → ℕ → Type 0
IsHidden s d m k = slice_get (cell_binders s d) k ≡ Some (length s.cells + m)

-- the leaf copies the tell of this constraint that form m is
pub record IsCopyOf (s : SurfaceProgram) (d : SymbolicAgent) (p : CoreProgram) (m : ℕ) (c : Constraint) (l : Leaf)
    (ask : Constraint) : Type 0 where
  pub origin : slice_get (origins d) l.node ≡ Some (Some m)
  pub copies : copied (cell_binders s d) ask ≡ c
  pub around : AreAround p ask l.node

-- an expansion added the leaf, and it tells the hidden signal of form m
pub record IsAddedFor (s : SurfaceProgram) (d : SymbolicAgent) (p : CoreProgram) (m : ℕ) (l : Leaf)
    (ask : Constraint) : Type 0 where
  pub origin : slice_get (origins d) l.node ≡ Some None
  pub hidden : ℕ
  pub is : IsHidden s d m hidden
  pub around : IsAround p hidden l.node
  pub tells : ask ≡ signal_on hidden

-- Each tell copies one of the tree, or an expansion added it for a form of the tree.
abbrev pub TellsStem : SurfaceProgram → Tree → SymbolicAgent → CoreProgram → Type 0
TellsStem s tree d p =
    (z : List StoreMap) (l : Leaf) (ask : Constraint) → Contains (leaves p (roots p z) (length z)) l
    → l.agent ≡ agent.Tell ask →
    ((m : ℕ) × (c : Constraint) × Contains (subtrees 0 tree) (subtree m (Tell c)) × IsCopyOf s d p m c l ask)
    ⊎ ((m : ℕ) × (t : Tree) × Contains (subtrees 0 tree) (subtree m t) × IsAddedFor s d p m l ask)

-- the leaf copies this form, or an expansion added it for the hidden signal of this form
abbrev pub StemsFrom : SurfaceProgram → SymbolicAgent → Leaf → ℕ → Type 0
StemsFrom s d l m =
    (slice_get (origins d) l.node ≡ Some (Some m))
    ⊎ ((slice_get (origins d) l.node ≡ Some None) × ((k : ℕ) × IsHidden s d m k × (l.agent ≡ agent.Tell (signal_on k))))

-- the leaf is one of the instant after these closed stores, it is a tell, and it stems from a form inside this one
pub record IsTellInside (s : SurfaceProgram) (d : SymbolicAgent) (p : CoreProgram) (z : List StoreMap) (m : ℕ)
    (a : Tree) (l : Leaf) : Type 0 where
  pub leaf : Contains (leaves p (roots p z) (length z)) l
  pub ask : Constraint
  pub tells : l.agent ≡ agent.Tell ask
  pub form : ℕ
  pub stems : StemsFrom s d l form
  pub behind : m < form
  pub before : form < suc m + form_count a

-- Each tell that stems from a form inside a watching waits, under its own births, for the absence of the hidden
-- signal of the copy of the watching that stands around it.
abbrev pub TellsAreGuarded : SurfaceProgram → Tree → SymbolicAgent → CoreProgram → Type 0
TellsAreGuarded s tree d p =
    (m : ℕ) (a : Tree) (c : Constraint) (z : List StoreMap) (l : Leaf) →
    Contains (subtrees 0 tree) (subtree m (Watch a c)) → IsTellInside s d p z m a l →
    (k : ℕ) × IsHidden s d m k × IsAround p k l.node × Contains l.path (Negative l.births (signal_on k))

-- the clock that a leaf's path asks for: it copies this constraint, its local cells are those of news around the
-- leaf, and the births under which it is asked for name its cells as those of the leaf do
pub record IsOnClock (s : SurfaceProgram) (d : SymbolicAgent) (p : CoreProgram) (l : Leaf) (c : Constraint) : Type 0 where
  pub ask : Constraint
  pub copies : copied (cell_binders s d) ask ≡ c
  pub around : AreAround p ask l.node
  pub births : List ℕ
  pub asks : Contains l.path (Positive births ask)
  pub same : All (λ (pair : ℕ × Token). name_of p births pair.0 ≡ name_of p l.births pair.0) ask

-- Each tell that stems from a form inside a time is on the clock.
abbrev pub TellsAreClocked : SurfaceProgram → Tree → SymbolicAgent → CoreProgram → Type 0
TellsAreClocked s tree d p =
    (m : ℕ) (a : Tree) (c : Constraint) (z : List StoreMap) (l : Leaf) →
    Contains (subtrees 0 tree) (subtree m (Time a c)) → IsTellInside s d p z m a l → IsOnClock s d p l c
