-- The stores of a program, and their order by what they entail. After the stores of a constraint system: here a store keeps one value for each cell.
use Rattle.std.specs.Prelude.{◌≡◌, ℕ, Some, IsTrue}
use Rattle.std.specs.FinMap.{get}
use Rattle.token_system.specs.declared.cell.Token.{Token}
use Rattle.token_system.specs.declared.cell.Value.{Value}
use Rattle.token_system.specs.declared.name.CellName.{CellName}
use Rattle.token_system.specs.declared.name.CellName.TheVariants.{Declared}
use Rattle.token_system.specs.Tokens.{Fits}
use Rattle.token_system.specs.Stores.{StoreMap, store_entails, IsKeptFor}
use Rattle.agent_core.specs.declared.node.CellDecl.{CellDecl}
use Rattle.agent_core.specs.Programs.{CoreProgram}
use Rattle.agent_core.specs.Names.{Names}

-- each name that the store keeps is one of the program's, with a value of its cell
abbrev pub IsStore : CoreProgram → StoreMap → Type 0
IsStore p s = (n : CellName) (v : Value) → get s n ≡ Some v → (d : CellDecl) × Names p n d × IsKeptFor d.cell v

-- an input is a store over the declared cells alone
pub record IsInput (p : CoreProgram) (s : StoreMap) : Type 0 where
  pub store : IsStore p s
  pub declared : (n : CellName) (v : Value) → get s n ≡ Some v → (k : ℕ) × (n ≡ Declared k)

-- u is below v: v entails every token that u entails
abbrev pub Below : CoreProgram → StoreMap → StoreMap → Type 0
Below p u v =
    (n : CellName) (d : CellDecl) (t : Token) → Names p n d → Fits d.cell t
    → IsTrue (store_entails u n d.cell t) → IsTrue (store_entails v n d.cell t)
