-- The cells of an instant as they are collected: names that leaves speak of, and cells in a row. This project's own.
use Rattle.std.specs.Prelude.{◌≡◌, ◌⊎◌, ℕ, zero, suc, ◌<◌, List, [], ◌∷◌, ◌++◌, length, map, flat_map, All, Contains, Some, slice_get}
use Rattle.token_system.specs.declared.name.CellName.{CellName}
use Rattle.token_system.specs.declared.name.CellName.TheVariants.{Declared, Local}
use Rattle.agent_core.specs.declared.node.CellDecl.{CellDecl}
use Rattle.agent_core.specs.Agents.{Constraint, agent_at}
use Rattle.agent_core.specs.Programs.{CoreProgram}
use Rattle.agent_core.specs.WellFormed.{IsWellFormed}
use Rattle.agent_core.specs.Leaves as core
use Rattle.agent_core.specs.Names.{Names}
use Rattle.instant_net.specs.declared.parts.NetCell.{NetCell}
use Rattle.instant_net.specs.NamedLeaves.{NamedLeaf, names_of}
use Rattle.instant_net.specs.Opened.{IsCellOf, AreInOrder}
use Rattle.instant_net.specs.Programs.{constraint_named, leaf_named}
use Rattle.instant_net.specs.Words.{AreLaidOut, hows}

-- the name is that of a local cell of the program
pub record IsLocal (p : CoreProgram) (n : CellName) : Type 0 where
  pub node : ℕ
  pub births : List ℕ
  pub is : n ≡ Local node births
  pub decl : CellDecl
  pub named : Names p n decl

-- the name is that of a local cell, and one of these leaves speaks of it
pub record IsSpokenBy (p : CoreProgram) (ls : List NamedLeaf) (n : CellName) : Type 0 where
  pub local : IsLocal p n
  pub spoken : Contains (flat_map names_of ls) n

-- the name is that of a local cell, and the constraint speaks of it
pub record IsAskedBy (p : CoreProgram) (b : List ℕ) (ask : Constraint) (n : CellName) : Type 0 where
  pub local : IsLocal p n
  pub asked : Contains (map (λ x. x.name) (constraint_named p b ask)) n

-- each name is one from before, or the constraint speaks of it
abbrev pub AddsAsked : CoreProgram → List ℕ → Constraint → List CellName → List CellName → Type 0
AddsAsked p b ask before after = All (λ n. Contains before n ⊎ IsAskedBy p b ask n) after

-- each name is one from before, or a leaf of node n speaks of it, which is started at t under births b, whatever path leads to the node
abbrev pub AddsSpoken : CoreProgram → ℕ → ℕ → List ℕ → List CellName → List CellName → Type 0
AddsSpoken p t n b before after =
    All (λ q. Contains before q ⊎ ((path : List core.Guard) → IsSpokenBy p (map (leaf_named p) (core.leaves_of t (agent_at p.nodes n) n b path)) q)) after

abbrev pub cell_names : List NetCell → List CellName
cell_names cells = map (λ c. c.name) cells

-- the names of the first n declared cells
abbrev pub declared_names : ℕ → List CellName
declared_names zero = []
declared_names (suc n) = declared_names n ++ Declared n ∷ []

-- the cells are those of their names
abbrev pub IsRow : CoreProgram → List ℕ → List NetCell → Type 0
IsRow p table cells = All (IsCellOf p table) cells

-- the cell without its place in the words
abbrev pub unplaced : NetCell → NetCell
unplaced c = record c { first = 0; word = 0 }

-- the cells are the declared ones, and local ones that these leaves speak of, in order; and their words can be numbered
pub record AreCellsFor (p : CoreProgram) (table : List ℕ) (ls : List NamedLeaf) (cells : List NetCell) : Type 0 where
  pub program : IsWellFormed p
  pub each : All (IsCellOf p table) cells
  pub order : AreInOrder cells
  pub laid_out : AreLaidOut cells
  pub declared : (k : ℕ) → k < p.declared → (c : NetCell) × (slice_get cells k ≡ Some c) × (c.name ≡ Declared k)
  pub spoken : All (λ c. ((k : ℕ) × (c.name ≡ Declared k)) ⊎ Contains (flat_map names_of ls) c.name) cells
  pub few : length cells < 4294967296
  pub few_words : length (hows cells) < 4294967296
