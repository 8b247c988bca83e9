-- The outputs of a net, over its own names, and at the level of words. This project's own, after the stable stores of Default cc.
use Rattle.std.specs.Prelude.{◌≡◌, ℕ, ◌+◌, ◌≤◌, Bool, List, Contains, IsTrue, Some, slice_get, if◌then◌else◌}
use Rattle.std.specs.FinMap.{get}
use Rattle.token_system.specs.declared.cell.Token.{Token}
use Rattle.token_system.specs.declared.cell.Value.{Value}
use Rattle.token_system.specs.declared.name.CellName.{CellName}
use Rattle.token_system.specs.Tokens.{Fits}
use Rattle.token_system.specs.Stores.{StoreMap, store_entails, IsKeptFor}
use Rattle.instant_net.specs.declared.parts.Atom.{Atom}
use Rattle.instant_net.specs.declared.parts.NetCell.{NetCell}
use Rattle.instant_net.specs.declared.parts.NetGuard.{NetGuard}
use Rattle.instant_net.specs.declared.parts.NetLeaf.{NetLeaf}
use Rattle.instant_net.specs.NamedLeaves.{leaves_rest}
use Rattle.instant_net.specs.Nets.{Flat, net_leaves, IsAtOrAbove, atoms_of}
use Rattle.instant_net.specs.Words.{store_in}

-- each name that the store keeps is one of these cells', with a value of its cell
abbrev pub IsStoreOf : List NetCell → StoreMap → Type 0
IsStoreOf cells s = (n : CellName) (v : Value) → get s n ≡ Some v → (c : NetCell) × Contains cells c × (c.name ≡ n) × IsKeptFor c.cell v

-- of these cells, v entails every token that u entails
abbrev pub IsNetStoreBelow : List NetCell → StoreMap → StoreMap → Type 0
IsNetStoreBelow cells u v = (c : NetCell) (t : Token) → Contains cells c → Fits c.cell t → IsTrue (store_entails u c.name c.cell t) → IsTrue (store_entails v c.name c.cell t)

-- v is an output of the net on the input: it lies above the input and rests under itself as guess, and no smaller store above the input rests under that guess
pub record IsNetOutput (net : Flat) (input v : StoreMap) : Type 0 where
  pub given : IsStoreOf net.cells input
  pub store : IsStoreOf net.cells v
  pub above : IsNetStoreBelow net.cells input v
  pub rests : IsTrue (leaves_rest (net_leaves net) v v)
  pub least : (u : StoreMap) → IsStoreOf net.cells u → IsNetStoreBelow net.cells input u → IsNetStoreBelow net.cells u v → IsTrue (leaves_rest (net_leaves net) u v) → u ≡ v

-- the same of words: that words equal a store's means that the values do
abbrev pub IsOutputWords : Flat → List ℕ → List ℕ → Type 0
IsOutputWords net input out = IsNetOutput net (store_in net.cells input) (store_in net.cells out)

-- STRATA

-- a guard's cell and a cell told below it: the told one has at least its stratum, and a greater one where the guard is an else
abbrev pub StandsUnder : List NetCell → Bool → Atom → Atom → Type 0
StandsUnder cells negative asked told =
    (c d : NetCell) → slice_get cells asked.cell ≡ Some c → slice_get cells told.cell ≡ Some d → c.stratum + (if negative then 1 else 0) ≤ d.stratum

-- each told cell stands so under each cell of each guard above
abbrev pub IsStratified : Flat → Type 0
IsStratified net =
    (l : ℕ) (leaf : NetLeaf) (k : ℕ) (g : NetGuard) → slice_get net.leaves l ≡ Some leaf → slice_get net.guards k ≡ Some g → IsAtOrAbove net.guards k leaf.last
    → (asked told : Atom) → Contains g.ask asked → Contains (atoms_of leaf.kind) told → StandsUnder net.cells g.negative asked told
