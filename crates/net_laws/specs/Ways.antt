-- Stores on the way from an input to an output of a net, stratum by stratum. This project's own.
use Rattle.std.specs.Prelude.{ℕ, ◌<◌, Bool, List, Contains, IsTrue}
use Rattle.token_system.specs.declared.cell.Token.{Token}
use Rattle.token_system.specs.Tokens.{Fits}
use Rattle.token_system.specs.Stores.{StoreMap, store_entails}
use Rattle.instant_net.specs.declared.parts.NetCell.{NetCell}
use Rattle.instant_net.specs.declared.parts.NetLeaf.{NetLeaf}
use Rattle.instant_net.specs.NamedLeaves.{named_entails}
use Rattle.instant_net.specs.Nets.{Flat, named_atoms, atoms_of}
use Rattle.instant_net.specs.Outputs.{IsStoreOf, IsNetStoreBelow}

-- of the cells of strata below k, w entails every token that u entails
abbrev pub IsNetStoreBelowUpto : List NetCell → ℕ → StoreMap → StoreMap → Type 0
IsNetStoreBelowUpto cells k u w =
    (c : NetCell) (t : Token) → Contains cells c → c.stratum < k → Fits c.cell t → IsTrue (store_entails u c.name c.cell t) → IsTrue (store_entails w c.name c.cell t)

-- w is a store of the net's cells that lies above the input and below the output, and of the cells of strata below k it entails all that the output does
pub record IsOnNetWay (net : Flat) (input output : StoreMap) (k : ℕ) (w : StoreMap) : Type 0 where
  pub store : IsStoreOf net.cells w
  pub above : IsNetStoreBelow net.cells input w
  pub below : IsNetStoreBelow net.cells w output
  pub stands : IsNetStoreBelowUpto net.cells k output w

-- the store entails each token that the leaf tells
abbrev pub has_told : Flat → StoreMap → NetLeaf → Bool
has_told net w l = named_entails w (named_atoms net.cells (atoms_of l.kind))
