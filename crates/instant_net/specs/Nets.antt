-- An instant made flat. Cells are named by their places; each guard names the nearest guard above it, and each leaf the last guard above it. This project's own.
use Rattle.std.specs.Prelude.{◌≡◌, ◌<◌, ℕ, All, length, List, [], ◌∷◌, ◌++◌, map, slice_get, slice_index_or, Option, None, Some}
use Rattle.token_system.specs.Tokens.{Fits}
use Rattle.instant_net.specs.declared.parts.Atom.{Atom}
use Rattle.instant_net.specs.declared.parts.NetCell.{NetCell}
use Rattle.instant_net.specs.declared.parts.NetGuard.{NetGuard}
use Rattle.instant_net.specs.declared.parts.NetLeaf.{NetLeaf}
use Rattle.instant_net.specs.declared.parts.LeafKind.{LeafKind}
use Rattle.instant_net.specs.declared.parts.LeafKind.TheVariants as kinds
use Rattle.agent_core.specs.Occurrences.{Occurrence}
use Rattle.instant_net.specs.NamedLeaves.{Named, NamedGuard, Kind, Idle, Tells, StartsHence, StartsNext, NamedLeaf}

-- what a net is seen as
pub record Flat : Type 0 where
  pub instant : ℕ
  pub strata : ℕ
  pub cells : List NetCell
  pub guards : List NetGuard
  pub leaves : List NetLeaf

-- the cell at a place of the net, where there is one
abbrev pub named_at : Option NetCell → Atom → List Named
named_at None a = []
named_at (Some c) a = record { name = c.name; cell = c.cell; token = a.token } ∷ []

-- the atoms, with their cells by name
abbrev pub named_atoms : List NetCell → List Atom → List Named
named_atoms cells [] = []
named_atoms cells (a ∷ atoms) = named_at (slice_get cells a.cell) a ++ named_atoms cells atoms

abbrev pub named_guard : List NetCell → NetGuard → NamedGuard
named_guard cells g = record { negative = g.negative; ask = named_atoms cells g.ask }

abbrev pub named_kind : List NetCell → LeafKind → Kind
named_kind cells kinds.Idle = Idle
named_kind cells (kinds.Tells told) = Tells (named_atoms cells told)
named_kind cells (kinds.StartsHence closure) = StartsHence closure
named_kind cells (kinds.StartsNext closure) = StartsNext closure

-- PATHS: what the links to the guards above come to

abbrev pub path_to : List (List NamedGuard) → Option ℕ → List NamedGuard
path_to paths None = []
path_to paths (Some k) = slice_index_or paths k []

-- the path to each guard, itself the last of it, where these are the paths to the guards before
abbrev pub paths_from : List NetCell → List (List NamedGuard) → List NetGuard → List (List NamedGuard)
paths_from cells paths [] = paths
paths_from cells paths (g ∷ guards) = paths_from cells (paths ++ (path_to paths g.above ++ named_guard cells g ∷ []) ∷ []) guards

abbrev pub named_leaf : Flat → NetLeaf → NamedLeaf
named_leaf net l = record { kind = named_kind net.cells l.kind; path = path_to (paths_from net.cells [] net.guards) l.last }

-- the leaves of the net, with their paths and their cells by name
abbrev pub net_leaves : Flat → List NamedLeaf
net_leaves net = map (named_leaf net) net.leaves

abbrev pub named_occurrence : Flat → NetGuard → Occurrence NamedGuard
named_occurrence net g = record { guard = named_guard net.cells g; path = path_to (paths_from net.cells [] net.guards) g.above }

-- the guards of the net, each with those above it and its cells by name
abbrev pub net_occurrences : Flat → List (Occurrence NamedGuard)
net_occurrences net = map (named_occurrence net) net.guards

-- guard k is this one, or above it
pub data IsAtOrAbove (guards : List NetGuard) (k : ℕ) : Option ℕ → Type 0 where
  here : IsAtOrAbove guards k (Some k)
  above : (j : ℕ) → (g : NetGuard) → slice_get guards j ≡ Some g → IsAtOrAbove guards k g.above → IsAtOrAbove guards k (Some j)

-- WHOLE: each place that a part names is there

-- the atom's cell is there, and its token fits
abbrev pub AtomFits : List NetCell → Atom → Type 0
AtomFits cells a = (c : NetCell) × (slice_get cells a.cell ≡ Some c) × Fits c.cell a.token

abbrev pub IsLinkBelow : ℕ → Option ℕ → Type 0
IsLinkBelow k None = Unit {0}
IsLinkBelow k (Some j) = j < k

abbrev pub atoms_of : LeafKind → List Atom
atoms_of (kinds.Tells told) = told
atoms_of _ = []

-- a guard's atoms fit, and the guard above it comes before it
abbrev pub GuardIsWhole : Flat → ℕ → Type 0
GuardIsWhole net k = (g : NetGuard) → slice_get net.guards k ≡ Some g → All (AtomFits net.cells) g.ask × IsLinkBelow k g.above

-- a leaf's atoms fit, and its last guard is there
abbrev pub LeafIsWhole : Flat → NetLeaf → Type 0
LeafIsWhole net l = All (AtomFits net.cells) (atoms_of l.kind) × IsLinkBelow (length net.guards) l.last

pub record IsWholeNet (net : Flat) : Type 0 where
  pub guards : (k : ℕ) → GuardIsWhole net k
  pub leaves : All (LeafIsWhole net) net.leaves
