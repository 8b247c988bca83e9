-- What a store says of the declared cells: the part of an output that is written, while its local cells are nobody's to see. This project's own.
use Rattle.std.specs.Prelude.{◌≡◌, ℕ, List, length, Some, slice_get}
use Rattle.std.specs.FinMap.{get}
use Rattle.token_system.specs.declared.name.CellName.TheVariants.{Declared, Local}
use Rattle.token_system.specs.declared.cell.Value.{Value}
use Rattle.token_system.specs.Stores.{StoreMap}

-- the part keeps what the whole keeps of declared cells, and nothing else
pub record IsDeclaredPart (whole part : StoreMap) : Type 0 where
  pub declared : (k : ℕ) → get part (Declared k) ≡ get whole (Declared k)
  pub no_local : (node : ℕ) (births : List ℕ) (v : Value) → get part (Local node births) ≡ Some v → ⊥

-- each part is that of the store at its place
pub record AreDeclaredParts (wholes parts : List StoreMap) : Type 0 where
  pub long : length parts ≡ length wholes
  pub each : (n : ℕ) (whole part : StoreMap) → slice_get wholes n ≡ Some whole → slice_get parts n ≡ Some part → IsDeclaredPart whole part
