-- What holds of every surface that was read: its forms are one tree, each local cell has its new, each constraint is in
-- scope, and its names can be written and are not alike where both are in scope. This project's own.
use Rattle.std.specs.Prelude.{◌≡◌, ◌⊎◌, ℕ, ◌-◌, ◌<◌, ◌≤◌, List, [], ◌∷◌, ◌++◌, length, Some, slice_get}
use Rattle.program_lexemes.specs.declared.bytes.TextForm.{TextForm}
use Rattle.agent_core.specs.declared.node.CellDecl.{CellDecl}
use Rattle.agent_core.specs.Programs.{CoreProgram}
use Rattle.agent_core.specs.WellFormed.{IsAmong, IsConstraint, count_up}
use Rattle.agent_core.specs.CellNames.{name_at}
use Rattle.program_lexemes.specs.Names.{IsName}
use Rattle.agent_core.specs.Limits.{most_declared_cells}
use Rattle.tdcc_reader.specs.Surfaces.{SurfaceProgram}
use Rattle.tdcc_reader.specs.Trees.{Tree, Skip, Tell, Then, Else, Par, New, Hence, Next, Always, When, Watch, Time, form_listing}

-- the cells of a surface, as those of a program without nodes
abbrev pub bare : SurfaceProgram → CoreProgram
bare s = record { cells = s.cells; declared = s.declared; nodes = [] }

-- the cells of the new forms of a tree, in order
abbrev pub new_cells : Tree → List ℕ
new_cells Skip = []
new_cells (Tell ask) = []
new_cells (Then ask a) = new_cells a
new_cells (Else ask a) = new_cells a
new_cells (Par a b) = new_cells a ++ new_cells b
new_cells (New cell a) = cell ∷ new_cells a
new_cells (Hence a) = new_cells a
new_cells (Next a) = new_cells a
new_cells (Always a) = new_cells a
new_cells (When ask a) = new_cells a
new_cells (Watch a stop) = new_cells a
new_cells (Time a clock) = new_cells a

-- each constraint of the tree is one of this program, where these local cells are in scope around it
abbrev pub IsScopedTree : CoreProgram → List ℕ → Tree → Type 0
IsScopedTree p locals Skip = Unit {0}
IsScopedTree p locals (Tell ask) = IsConstraint p locals ask
IsScopedTree p locals (Then ask a) = IsConstraint p locals ask × IsScopedTree p locals a
IsScopedTree p locals (Else ask a) = IsConstraint p locals ask × IsScopedTree p locals a
IsScopedTree p locals (Par a b) = IsScopedTree p locals a × IsScopedTree p locals b
IsScopedTree p locals (New cell a) = IsScopedTree p (cell ∷ locals) a
IsScopedTree p locals (Hence a) = IsScopedTree p locals a
IsScopedTree p locals (Next a) = IsScopedTree p locals a
IsScopedTree p locals (Always a) = IsScopedTree p locals a
IsScopedTree p locals (When ask a) = IsConstraint p locals ask × IsScopedTree p locals a
IsScopedTree p locals (Watch a stop) = IsScopedTree p locals a × IsConstraint p locals stop
IsScopedTree p locals (Time a clock) = IsScopedTree p locals a × IsConstraint p locals clock

-- no cell that is declared or one of these local ones has the name of this cell
abbrev pub IsFreshName : CoreProgram → List ℕ → ℕ → Type 0
IsFreshName p locals cell = (c : ℕ) → (c < p.declared) ⊎ IsAmong locals c → name_at p.cells c ≡ name_at p.cells cell → ⊥

-- each new form has a name that no cell around it has
abbrev pub AreFreshInTree : CoreProgram → List ℕ → Tree → Type 0
AreFreshInTree p locals Skip = Unit {0}
AreFreshInTree p locals (Tell ask) = Unit {0}
AreFreshInTree p locals (Then ask a) = AreFreshInTree p locals a
AreFreshInTree p locals (Else ask a) = AreFreshInTree p locals a
AreFreshInTree p locals (Par a b) = AreFreshInTree p locals a × AreFreshInTree p locals b
AreFreshInTree p locals (New cell a) = IsFreshName p locals cell × AreFreshInTree p (cell ∷ locals) a
AreFreshInTree p locals (Hence a) = AreFreshInTree p locals a
AreFreshInTree p locals (Next a) = AreFreshInTree p locals a
AreFreshInTree p locals (Always a) = AreFreshInTree p locals a
AreFreshInTree p locals (When ask a) = AreFreshInTree p locals a
AreFreshInTree p locals (Watch a stop) = AreFreshInTree p locals a
AreFreshInTree p locals (Time a clock) = AreFreshInTree p locals a

-- the surface is well formed, with names of a text of this form
pub record IsWellFormedSurface (form : TextForm) (s : SurfaceProgram) : Type 0 where
  pub tree : Tree
  pub forms : s.forms ≡ form_listing 0 tree
  pub within : s.declared ≤ length s.cells
  pub few : s.declared ≤ most_declared_cells
  pub locals : new_cells tree ≡ count_up s.declared (length s.cells - s.declared)
  pub scoped : IsScopedTree (bare s) [] tree
  pub names : (n : ℕ) (d : CellDecl) → slice_get s.cells n ≡ Some d → IsName form d.name
  pub declared_fresh : (c d : ℕ) → c < d → d < s.declared → name_at s.cells c ≡ name_at s.cells d → ⊥
  pub fresh : AreFreshInTree (bare s) [] tree
