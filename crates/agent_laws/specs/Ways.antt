-- Stores on the way from an input to an output, stratum by stratum. This project's own.
use Rattle.std.specs.Prelude.{ℕ, ◌<◌, List, length, slice_index, IsTrue}
use Rattle.token_system.specs.declared.cell.Token.{Token}
use Rattle.token_system.specs.declared.name.CellName.{CellName}
use Rattle.token_system.specs.Tokens.{Fits}
use Rattle.token_system.specs.Stores.{StoreMap, store_entails}
use Rattle.agent_core.specs.declared.node.CellDecl.{CellDecl}
use Rattle.agent_core.specs.Programs.{CoreProgram}
use Rattle.agent_core.specs.Names.{Names, cell_named}
use Rattle.agent_core.specs.Stores.{IsStore, Below}

-- of the cells of strata below k, w entails each token that u entails
abbrev pub BelowUpto : CoreProgram → List ℕ → ℕ → StoreMap → StoreMap → Type 0
BelowUpto p table k u w =
    (n : CellName) → slice_index table (cell_named p n) < k
    → (d : CellDecl) (t : Token) → Names p n d → Fits d.cell t → IsTrue (store_entails u n d.cell t) → IsTrue (store_entails w n d.cell t)

-- each cell is of a stratum below s
abbrev pub AreBelow : CoreProgram → List ℕ → ℕ → Type 0
AreBelow p table s = (c : ℕ) → c < length p.cells → slice_index table c < s

-- w lies between the input and the output, and of the strata below k it has all that the output has
pub record IsOnWay (p : CoreProgram) (table : List ℕ) (input output : StoreMap) (k : ℕ) (w : StoreMap) : Type 0 where
  pub store : IsStore p w
  pub above : Below p input w
  pub below : Below p w output
  pub stands : BelowUpto p table k output w
