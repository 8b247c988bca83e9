-- What looking at leaves does whose asks are noted. A leaf that the words run tells; those that its telling may let run wait, each below a guard that is due. This project's own.
use Rattle.std.specs.Prelude.{◌≡◌, ◌⊎◌, ℕ, ◌<◌, ◌≤◌, List, Contains, IsTrue, Some, slice_get}
use Rattle.instant_net.specs.declared.parts.NetLeaf.{NetLeaf}
use Rattle.instant_net.specs.NamedLeaves.{runs_named}
use Rattle.instant_net.specs.Nets.{Flat, named_leaf, IsAtOrAbove, atoms_of}
use Rattle.instant_net.specs.Outputs.{IsNetStoreBelow}
use Rattle.instant_net.specs.Readers.{least_stratum}
use Rattle.instant_net.specs.Words.{store_in, AreWords}
use Rattle.parked_asks.specs.Held.{Held}
use Rattle.settle.specs.Asking.{AreNoted, work_left}
use Rattle.net_laws.specs.Ways.{has_told}
use Rattle.settle.specs.Ways.{Advances}

-- a guard at or above the leaf is due
abbrev pub WaitsBelow : Flat → List ℕ → NetLeaf → Type 0
WaitsBelow net due l = (g : ℕ) × IsAtOrAbove net.guards g l.last × Contains due g

-- from these words and notes, leaves of levels up to stratum k were looked at
pub record Looks (net : Flat) (k : ℕ) (before after : List ℕ) (earlier later : Held) : Type 0 where
  pub words : AreWords net.cells after
  pub way : Advances net k k before after
  pub above : IsNetStoreBelow net.cells (store_in net.cells before) (store_in net.cells after)
  pub noted : AreNoted net after later
  pub runs : (n : ℕ) (l : NetLeaf) → slice_get net.leaves n ≡ Some l → IsTrue (runs_named (store_in net.cells after) (named_leaf net l)) → IsTrue (runs_named (store_in net.cells before) (named_leaf net l)) ⊎ WaitsBelow net later.due l
  pub due : (g : ℕ) → Contains earlier.due g → Contains later.due g
  pub work : work_left later ≤ work_left earlier

-- where the words run leaf n, and its level is at most k, it has told or waits
abbrev pub IsSeenTo : Flat → ℕ → List ℕ → List ℕ → ℕ → Type 0
IsSeenTo net k words due n =
    (l : NetLeaf) (level : ℕ) → slice_get net.leaves n ≡ Some l → least_stratum net.cells (atoms_of l.kind) ≡ Some level → level ≤ k
    → IsTrue (runs_named (store_in net.cells words) (named_leaf net l)) → IsTrue (has_told net (store_in net.cells words) l) ⊎ WaitsBelow net due l

-- so is each leaf of a level below this one
abbrev pub AreSeenTo : Flat → ℕ → List ℕ → List ℕ → Type 0
AreSeenTo net below words due =
    (n : ℕ) (l : NetLeaf) (level : ℕ) → slice_get net.leaves n ≡ Some l → least_stratum net.cells (atoms_of l.kind) ≡ Some level → level < below
    → IsTrue (runs_named (store_in net.cells words) (named_leaf net l)) → IsTrue (has_told net (store_in net.cells words) l) ⊎ WaitsBelow net due l
