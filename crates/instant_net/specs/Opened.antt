-- Which net is that of a program's roots. This project's own.
use Rattle.std.specs.Prelude.{◌≡◌, ◌⊎◌, ◌↔◌, ℕ, ◌<◌, ◌≤◌, List, [], ◌∷◌, length, flat_map, All, Contains, Some, slice_get, slice_index}
use Rattle.std.specs.declared.cmp.Ordering.TheVariants.{Less}
use Rattle.token_system.specs.declared.name.CellName.{CellName}
use Rattle.token_system.specs.declared.name.CellName.TheVariants.{Declared}
use Rattle.token_system.specs.Names.{name_cmp}
use Rattle.agent_core.specs.declared.node.Closure.{Closure}
use Rattle.agent_core.specs.declared.node.CellDecl.{CellDecl}
use Rattle.agent_core.specs.Programs.{CoreProgram}
use Rattle.agent_core.specs.WellFormed.{IsWellFormed}
use Rattle.agent_core.specs.Names.{Names, cell_named}
use Rattle.agent_core.specs.StrataCounts.{strata_of}
use Rattle.agent_laws.specs.Laws.{AreClosures}
use Rattle.instant_net.specs.declared.parts.NetCell.{NetCell}
use Rattle.instant_net.specs.declared.parts.NetGuard.{NetGuard}
use Rattle.instant_net.specs.declared.parts.NetLeaf.{NetLeaf}
use Rattle.instant_net.specs.NamedLeaves.{names_of}
use Rattle.instant_net.specs.Nets.{Flat, net_leaves, net_occurrences, IsAtOrAbove, IsWholeNet}
use Rattle.instant_net.specs.Programs.{root_leaves, root_occurrences}
use Rattle.instant_net.specs.Limits.{most_leaves}
use Rattle.instant_net.specs.Links.{AreLinkedAsRoots}
use Rattle.instant_net.specs.Words.{AreLaidOut, hows}

-- the cell's kind, domain and stratum are those of its name
pub record IsCellOf (p : CoreProgram) (table : List ℕ) (c : NetCell) : Type 0 where
  pub decl : CellDecl
  pub named : Names p c.name decl
  pub cell : c.cell ≡ decl.cell
  pub stratum : c.stratum ≡ slice_index table (cell_named p c.name)

-- the names stand in their order, each once
abbrev pub AreInOrder : List NetCell → Type 0
AreInOrder [] = Unit {0}
AreInOrder (c ∷ []) = Unit {0}
AreInOrder (c ∷ d ∷ cells) = (name_cmp c.name d.name ≡ Less) × AreInOrder (d ∷ cells)

-- some leaf of the net speaks of the name
abbrev pub IsSpokenOf : Flat → CellName → Type 0
IsSpokenOf net n = Contains (flat_map names_of (net_leaves net)) n

-- the cells are the declared ones, and the local ones that a leaf speaks of, in the order of their names
pub record HasCells (p : CoreProgram) (table : List ℕ) (net : Flat) : Type 0 where
  pub cells : All (IsCellOf p table) net.cells
  pub order : AreInOrder net.cells
  pub laid_out : AreLaidOut net.cells
  pub declared : (k : ℕ) → k < p.declared → (c : NetCell) × (slice_get net.cells k ≡ Some c) × (c.name ≡ Declared k)
  pub spoken : All (λ c. ((k : ℕ) × (c.name ≡ Declared k)) ⊎ IsSpokenOf net c.name) net.cells

-- the guard is above exactly the leaves from its first one up to, and without, the one past it
abbrev pub BoundsLeaves : Flat → ℕ → NetGuard → Type 0
BoundsLeaves net k g = (l : ℕ) (leaf : NetLeaf) → slice_get net.leaves l ≡ Some leaf → IsAtOrAbove net.guards k leaf.last ↔ ((g.first ≤ l) × (l < g.past))

-- the net of these roots at instant t, where the table has a number for each cell
pub record IsNetOf (p : CoreProgram) (table : List ℕ) (rs : List Closure) (t : ℕ) (net : Flat) : Type 0 where
  pub program : IsWellFormed p
  pub roots : AreClosures p rs
  pub long : length table ≡ length p.cells
  pub whole : IsWholeNet net
  pub instant : net.instant ≡ t
  pub strata : net.strata ≡ strata_of table
  pub cells : HasCells p table net
  pub leaves : net_leaves net ≡ root_leaves p rs t
  pub guards : net_occurrences net ≡ root_occurrences p rs t
  pub links : AreLinkedAsRoots p rs net.guards net.leaves
  pub over : (k : ℕ) (g : NetGuard) → slice_get net.guards k ≡ Some g → BoundsLeaves net k g

-- all numbers of parts fit into 32 bits, and there are at most as many leaves as an instant may have
pub record IsSmallNet (net : Flat) : Type 0 where
  pub leaves : length net.leaves ≤ most_leaves
  pub guards : length net.guards < 4294967296
  pub cells : length net.cells < 4294967296
  pub words : length (hows net.cells) < 4294967296

-- the net is that of some program's roots
pub record IsNet (net : Flat) : Type 0 where
  pub program : CoreProgram
  pub table : List ℕ
  pub roots : List Closure
  pub of : IsNetOf program table roots net.instant net
  pub small : IsSmallNet net
