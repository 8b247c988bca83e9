-- What the watch of a net is. This project's own.
use Rattle.std.specs.Prelude.{◌≡◌, ℕ, ◌<◌, Bool, false, ◌==◌, ◌||◌, List, [], ◌∷◌, ◌++◌, length, Option, None, Some, slice_index_or, if◌then◌else◌}
use Rattle.instant_net.specs.declared.parts.Atom.{Atom}
use Rattle.instant_net.specs.declared.parts.NetGuard.{NetGuard}
use Rattle.instant_net.specs.declared.parts.NetLeaf.{NetLeaf}
use Rattle.instant_net.specs.declared.parts.NetCell.{NetCell}
use Rattle.instant_net.specs.Nets.{Flat, atoms_of}
use Rattle.instant_net.specs.Readers.{least_stratum}
use Rattle.parked_asks.specs.declared.watch.Watch.{Watch}
use Rattle.parked_asks.specs.Numbers.{numbers_of}

-- some atom is of the cell
abbrev pub asks_for : ℕ → List Atom → Bool
asks_for cell [] = false
asks_for cell (a ∷ ask) = (a.cell == cell) || asks_for cell ask

-- the guard names the cell
abbrev pub names_cell : ℕ → NetGuard → Bool
names_cell cell g = asks_for cell g.ask

-- the guards that name the cell, ascending
abbrev pub watchers : Flat → ℕ → List ℕ
watchers net cell = numbers_of (names_cell cell) net.guards

abbrev pub is_that_level : ℕ → Option ℕ → Bool
is_that_level n None = false
is_that_level n (Some m) = m == n

-- the least stratum that the leaf tells is this one
abbrev pub has_level : List NetCell → ℕ → NetLeaf → Bool
has_level cells stratum l = is_that_level stratum (least_stratum cells (atoms_of l.kind))

-- under each cell of the net are the guards that name it
pub record ListsGuards (net : Flat) (index : List (List ℕ)) : Type 0 where
  pub keys : length index ≡ length net.cells
  pub each : (cell : ℕ) → cell < length net.cells → slice_index_or index cell [] ≡ watchers net cell

-- under each stratum are the leaves of this level
pub record ListsLeaves (net : Flat) (index : List (List ℕ)) : Type 0 where
  pub keys : length index ≡ net.strata
  pub each : (stratum : ℕ) → stratum < net.strata → slice_index_or index stratum [] ≡ numbers_of (has_level net.cells stratum) net.leaves

-- the watch is that of the net, whatever it notes
pub record IsWatchOf (net : Flat) (watch : Watch) : Type 0 where
  pub guards : ListsGuards net watch.guards
  pub leaves : ListsLeaves net watch.leaves
  pub asks : length watch.asks.held ≡ length net.guards

-- the number was added under each key that passes the test
pub record AddsAt (test : ℕ → Bool) (number : ℕ) (before after : List (List ℕ)) : Type 0 where
  pub keys : length after ≡ length before
  pub each : (key : ℕ) → key < length before → slice_index_or after key [] ≡ slice_index_or before key [] ++ (if test key then number ∷ [] else [])
