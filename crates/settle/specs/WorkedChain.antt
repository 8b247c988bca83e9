-- A worked example: `signal s0, s1, s2, s3; s0 || if s0 then s1 || if s1 then s2 || if s2 then s3`. This project's own.
use Rattle.std.specs.Prelude.{ℕ, ◌+◌, pos, false, refl, List, [], ◌∷◌, Option, None, Some}
use Rattle.token_system.specs.declared.cell.Kind.TheVariants as kinds
use Rattle.token_system.specs.declared.cell.Token.TheVariants.{On}
use Rattle.token_system.specs.declared.name.CellName.TheVariants.{Declared}
use Rattle.token_system.specs.Stores.{StoreMap}
use Rattle.instant_net.specs.declared.parts.NetCell.{NetCell}
use Rattle.instant_net.specs.declared.parts.NetGuard.{NetGuard}
use Rattle.instant_net.specs.declared.parts.NetLeaf.{NetLeaf}
use Rattle.instant_net.specs.declared.parts.LeafKind.TheVariants.{Tells}
use Rattle.instant_net.specs.Nets.{Flat}
use Rattle.instant_net.specs.Words.{store_in}

abbrev pub chain_cell : ℕ → NetCell
chain_cell k = record { name = Declared k; cell = record { kind = kinds.Signal; lo = pos 0; hi = pos 0; lawful = refl }; stratum = 0; first = k; word = 0 }

-- the ask for signal k, above leaf k + 1
abbrev pub chain_guard : ℕ → NetGuard
chain_guard k = record { negative = false; ask = record { cell = k; token = On } ∷ []; above = None; first = k + 1; past = k + 2 }

-- leaf k tells signal k
abbrev pub chain_leaf : ℕ → Option ℕ → NetLeaf
chain_leaf k last = record { kind = Tells (record { cell = k; token = On } ∷ []); last = last }

abbrev pub chain : Flat
chain = record {
  instant = 0;
  strata = 1;
  cells = chain_cell 0 ∷ chain_cell 1 ∷ chain_cell 2 ∷ chain_cell 3 ∷ [];
  guards = chain_guard 0 ∷ chain_guard 1 ∷ chain_guard 2 ∷ [];
  leaves = chain_leaf 0 None ∷ chain_leaf 1 (Some 0) ∷ chain_leaf 2 (Some 1) ∷ chain_leaf 3 (Some 2) ∷ [];
}

-- each of the four is on
abbrev pub chain_output : StoreMap
chain_output = store_in chain.cells (85 ∷ [])
