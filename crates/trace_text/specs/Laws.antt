-- What is proved of the definitions themselves. This project's own.
use Rattle.std.specs.Prelude.{◌≡◌, ◌≢◌, ◌⊎◌, ℕ, ◌<◌, ◌≤◌, List, Some, All, IsTrue, length, slice_get}
use Rattle.std.specs.FinMap.{get}
use Rattle.token_system.specs.declared.name.CellName.TheVariants.{Declared}
use Rattle.token_system.specs.Texts.{is_name}
use Rattle.token_system.specs.Stores.{StoreMap}
use Rattle.agent_core.specs.declared.node.CellDecl.{CellDecl}
use Rattle.agent_core.specs.Programs.{CoreProgram}
use Rattle.agent_core.specs.Stores.{IsInput}
use Rattle.trace_text.specs.declared.fault.LineFault.{LineFault}
use Rattle.trace_text.specs.declared.fault.LineFault.TheVariants.{Memory}
use Rattle.trace_text.specs.Inputs.{GivesInput}
use Rattle.trace_text.specs.Refusals.{RefusesLine}

-- the line gives an input, or it has a fault other than out of memory
abbrev pub IsRead : CoreProgram → List ℕ → Type 0
IsRead p line = ((i : StoreMap) × GivesInput p line i) ⊎ ((f : LineFault) × (f ≢ Memory) × RefusesLine p line f)

-- the line gives one input, or it has one fault, and not both; out of memory aside
pub record HasOneReading (p : CoreProgram) (line : List ℕ) : Type 0 where
  pub read : IsRead p line
  pub one_input : (i j : StoreMap) → GivesInput p line i → GivesInput p line j → i ≡ j
  pub one_fault : (f g : LineFault) → f ≢ Memory → g ≢ Memory → RefusesLine p line f → RefusesLine p line g → f ≡ g
  pub not_both : (i : StoreMap) (f : LineFault) → f ≢ Memory → GivesInput p line i → RefusesLine p line f → ⊥

-- each declared cell has a name that can be written, and no two have the same
pub record HasOwnNames (p : CoreProgram) : Type 0 where
  pub names : (n : ℕ) (d : CellDecl) → n < p.declared → slice_get p.cells n ≡ Some d → IsTrue (is_name d.name)
  pub distinct : (m n : ℕ) (c d : CellDecl) → m < p.declared → n < p.declared → slice_get p.cells m ≡ Some c → slice_get p.cells n ≡ Some d → c.name ≡ d.name → m ≡ n

-- the input is the part of the store that is over the declared cells
pub record IsInputPart (p : CoreProgram) (v i : StoreMap) : Type 0 where
  pub input : IsInput p i
  pub same : (n : ℕ) → n < p.declared → get v (Declared n) ≡ get i (Declared n)

-- the bytes are one line, without a line feed, and at most so many
pub record IsLine (most : ℕ) (bytes : List ℕ) : Type 0 where
  pub no_feed : All (λ byte. byte ≢ 10) bytes
  pub short : length bytes ≤ most
