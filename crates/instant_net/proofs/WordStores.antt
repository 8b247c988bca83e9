-- The store that words are is one of the net's cells.
use Rattle.std.proofs.Common.{◌≡◌, ◌⊎◌, inl, inr, ℕ, List, Option, Some, None, IfSome, sym, ap, ◌∙◌, subst}
use Rattle.std.specs.Prelude.{Contains, slice_get}
use Rattle.std.specs.FinMap.{get}
use Rattle.token_system.specs.declared.cell.Value.{Value}
use Rattle.token_system.specs.Stores.{IsKeptFor}
use Rattle.instant_net.specs.declared.parts.NetCell.{NetCell}
use Rattle.instant_net.specs.Nets.{Flat}
use Rattle.instant_net.specs.Opened.{IsNet}
use Rattle.instant_net.specs.Outputs.{IsStoreOf}
use Rattle.instant_net.specs.Words.{value_in, store_in, AreWords}
use Rattle.instant_net.proofs.Lists.{same-elements}
use Rattle.instant_net.proofs.StoreLookups.{HasNone, kept, kept-IsKeptFor, cell_named_or_none, get-cell, get-none}
use Rattle.instant_net.proofs.TokenTells.{value_of_cell}

module _ (net : Flat) (is : IsNet net) where
  pub words-store : (words : List ℕ) → AreWords net.cells words → IsStoreOf net.cells (store_in net.cells words)
  words-store words are n v e = go (cell_named_or_none net.cells n)
    where
      kept_one : (c : NetCell) (o : Option Value) → IfSome o (IsKeptFor c.cell) → o ≡ Some v → IsKeptFor c.cell v
      kept_one c o h s = subst (λ (x : Option Value). IfSome x (IsKeptFor c.cell)) s h

      go : ((i : ℕ) × (c : NetCell) × (slice_get net.cells i ≡ Some c) × (c.name ≡ n)) ⊎ HasNone net.cells n → (c : NetCell) × Contains net.cells c × (c.name ≡ n) × IsKeptFor c.cell v
      go (inr none) = absurd (let f : None ≡ Some v = sym (get-none net.cells words n none) ∙ e in cc)
      go (inl (i, c, at, same)) = (
        c,
        same-elements net.cells c i at,
        same,
        kept_one c (kept c.cell (value_in words c)) (kept-IsKeptFor c.cell (value_in words c) (value_of_cell net.cells is.of.cells.laid_out words are i c at))
            (sym (get-cell net.cells words is.of.cells.order i c at) ∙ ap (get (store_in net.cells words)) same ∙ e),
      )
