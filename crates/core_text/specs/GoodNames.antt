-- Programs whose core texts can be read back: each name can be written, and no two in one scope are alike. This project's own.
use Rattle.std.specs.Prelude.{◌≡◌, ◌⊎◌, ℕ, ◌<◌, List, [], ◌∷◌, Some, slice_get}
pub use Rattle.program_lexemes.specs.Names.{IsName, IsCoreName}
use Rattle.agent_core.specs.declared.node.CellDecl.{CellDecl}
use Rattle.agent_core.specs.Agents.{Agent, Skip, Tell, Then, Else, Par, New, Hence, Next, agent_at}
use Rattle.agent_core.specs.Programs.{CoreProgram}
use Rattle.agent_core.specs.WellFormed.{IsAmong}
use Rattle.agent_core.specs.CellNames.{name_at}

-- the cell is declared, or one of these local ones
abbrev pub IsVisible : CoreProgram → List ℕ → ℕ → Type 0
IsVisible p locals c = (c < p.declared) ⊎ IsAmong locals c

-- no cell in scope around a new node has the name of its cell
abbrev pub AreFresh : CoreProgram → List ℕ → Agent → Type 0
AreFresh p locals Skip = Unit {0}
AreFresh p locals (Tell ask) = Unit {0}
AreFresh p locals (Then ask a) = AreFresh p locals a
AreFresh p locals (Else ask a) = AreFresh p locals a
AreFresh p locals (Par a b) = AreFresh p locals a × AreFresh p locals b
AreFresh p locals (New cell a) = ((c : ℕ) → IsVisible p locals c → name_at p.cells c ≡ name_at p.cells cell → ⊥) × AreFresh p (cell ∷ locals) a
AreFresh p locals (Hence a) = AreFresh p locals a
AreFresh p locals (Next a) = AreFresh p locals a

pub record HasGoodNames (p : CoreProgram) : Type 0 where
  pub names : (n : ℕ) (d : CellDecl) → slice_get p.cells n ≡ Some d → IsCoreName d.name
  pub declared : (c d : ℕ) → c < d → d < p.declared → name_at p.cells c ≡ name_at p.cells d → ⊥
  pub locals : AreFresh p [] (agent_at p.nodes 0)
