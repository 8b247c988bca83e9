-- What holds of every program: its nodes are one tree in preorder, each local cell has its new node, and constraints are in scope. This project's own.
use Rattle.std.specs.Prelude.{◌≡◌, ◌⊎◌, ℕ, zero, suc, ◌-◌, ◌<◌, ◌≤◌, List, [], ◌∷◌, length, filter_map, slice_get, Option, Some, None}
use Rattle.token_system.specs.declared.cell.Token.{Token}
use Rattle.token_system.specs.Tokens.{Fits}
use Rattle.agent_core.specs.declared.node.CellDecl.{CellDecl}
use Rattle.agent_core.specs.declared.node.Node.{Node}
use Rattle.agent_core.specs.declared.node.Node.TheVariants as nodes
use Rattle.agent_core.specs.Agents.{Agent, Constraint, Skip, Tell, Then, Else, Par, New, Hence, Next, agent_at}
use Rattle.agent_core.specs.Programs.{CoreProgram}
use Rattle.agent_core.specs.Listing.{IsListing}
use Rattle.agent_core.specs.Limits.{most_nodes, most_cells, most_declared_cells}

-- the cell of a new node
abbrev pub cell_of : Node → Option ℕ
cell_of (nodes.New cell body) = Some cell
cell_of _ = None

-- n numbers from the first on
abbrev pub count_up : ℕ → ℕ → List ℕ
count_up first zero = []
count_up first (suc n) = first ∷ count_up (suc first) n

-- the cell is one of these local ones
abbrev pub IsAmong : List ℕ → ℕ → Type 0
IsAmong [] cell = ⊥
IsAmong (local ∷ locals) cell = (cell ≡ local) ⊎ IsAmong locals cell

-- the token fits its cell, which is declared or one of these local ones
pub record IsInScope (p : CoreProgram) (locals : List ℕ) (pair : ℕ × Token) : Type 0 where
  pub visible : (pair.0 < p.declared) ⊎ IsAmong locals pair.0
  pub decl : CellDecl
  pub found : slice_get p.cells pair.0 ≡ Some decl
  pub fits : Fits decl.cell pair.1

abbrev pub AreInScope : CoreProgram → List ℕ → Constraint → Type 0
AreInScope p locals [] = Unit {0}
AreInScope p locals (pair ∷ ask) = IsInScope p locals pair × AreInScope p locals ask

-- a constraint has 1 to 16 tokens, each in scope
pub record IsConstraint (p : CoreProgram) (locals : List ℕ) (ask : Constraint) : Type 0 where
  pub some : 1 ≤ length ask
  pub few : length ask ≤ 16
  pub tokens : AreInScope p locals ask

-- each constraint of the agent is one, where these local cells are in scope around it
abbrev pub Scoped : CoreProgram → List ℕ → Agent → Type 0
Scoped p locals Skip = Unit {0}
Scoped p locals (Tell ask) = IsConstraint p locals ask
Scoped p locals (Then ask a) = IsConstraint p locals ask × Scoped p locals a
Scoped p locals (Else ask a) = IsConstraint p locals ask × Scoped p locals a
Scoped p locals (Par a b) = Scoped p locals a × Scoped p locals b
Scoped p locals (New cell a) = Scoped p (cell ∷ locals) a
Scoped p locals (Hence a) = Scoped p locals a
Scoped p locals (Next a) = Scoped p locals a

-- the limits on the numbers of nodes and cells
pub record IsWithinLimits (p : CoreProgram) : Type 0 where
  pub few_nodes : length p.nodes ≤ most_nodes
  pub few_cells : length p.cells ≤ most_cells
  pub few_declared : p.declared ≤ most_declared_cells
  pub within : p.declared ≤ length p.cells

-- the nodes are one tree; the cells of the new nodes are the local cells, in order; each constraint is in scope; and the limits are kept
pub record IsWellFormed (p : CoreProgram) : Type 0 where
  pub tree : IsListing p.nodes
  pub locals : filter_map cell_of p.nodes ≡ count_up p.declared (length p.cells - p.declared)
  pub scoped : Scoped p [] (agent_at p.nodes 0)
  pub limits : IsWithinLimits p
