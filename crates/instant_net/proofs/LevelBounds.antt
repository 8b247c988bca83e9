-- The strata of a net's cells, and so the levels of its leaves, are below their count.
use Rattle.std.proofs.Common.{◌≡◌, ℕ, zero, suc, ◌+◌, ◌<◌, ◌≤◌, List, [], ◌∷◌, length, Some, None, sym, ap, ◌∙◌, subst, arith}
use Rattle.std.specs.Prelude.{Option, Contains, slice_get, slice_index}
use Rattle.agent_core.specs.Names.{cell_named}
use Rattle.agent_core.specs.Strata.{Each}
use Rattle.agent_core.specs.StrataCounts.{strata_of}
use Rattle.agent_laws.proofs.Eachs.{all_each}
use Rattle.agent_laws.proofs.Instance.{cell_within}
use Rattle.instant_net.specs.declared.parts.Atom.{Atom}
use Rattle.instant_net.specs.declared.parts.NetCell.{NetCell}
use Rattle.instant_net.specs.Nets.{Flat, AtomFits}
use Rattle.instant_net.specs.Opened.{IsNet}
use Rattle.instant_net.specs.Readers.{leaf_tells_of, lesser, least_stratum, stratum_of}
use Rattle.instant_net.proofs.Lists.{same-elements}
use Rattle.instant_net.proofs.NetOutputs as outputs
use Rattle.instant_net.proofs.NetParts.{tells_fit}

-- each number of the table is below the count of strata
strata-above : (table : List ℕ) (k : ℕ) → k < length table → slice_index table k < strata_of table
strata-above [] k lt = absurd (omega arith)
strata-above (n ∷ table) zero lt = omega arith
strata-above (n ∷ table) (suc k) lt = let h = strata-above table k (omega arith) in omega arith

module _ (net : Flat) (is : IsNet net) where
  pub stratum-below : (c : NetCell) → Contains net.cells c → c.stratum < net.strata
  stratum-below c at =
      let one = outputs.cell-of is.program is.table is.roots net.instant net is.of c at in
      let within = cell_within is.program c.name one.decl one.named in
      let long = is.of.long in
      let low = strata-above is.table (cell_named is.program c.name) (omega arith) in
      let a = one.stratum in
      let b = is.of.strata in
      omega arith

  atoms-level : (atoms : List Atom) (level : ℕ) → Each (AtomFits net.cells) atoms → least_stratum net.cells atoms ≡ Some level → level < net.strata
  atoms-level [] level fits e = absurd (cc)
  atoms-level (a ∷ atoms) level fits e =
      let f = fits.0 in
      let low : stratum_of (slice_get net.cells a.cell) < net.strata =
      subst (λ (o : Option NetCell). stratum_of o < net.strata) (sym f.1) (stratum-below f.0 (same-elements net.cells f.0 a.cell f.1)) in
      let same : lesser (stratum_of (slice_get net.cells a.cell)) (least_stratum net.cells atoms) ≡ level = cc in
      let le = lesser-le (stratum_of (slice_get net.cells a.cell)) (least_stratum net.cells atoms) in
      omega arith
    where
      lesser-le : (n : ℕ) (o : Option ℕ) → lesser n o ≤ n
      lesser-le n None = omega arith
      lesser-le n (Some m) = omega arith

  -- the level of a leaf is a stratum of the net
  pub level-below : (leaf level : ℕ) → least_stratum net.cells (leaf_tells_of (slice_get net.leaves leaf)) ≡ Some level → level < net.strata
  level-below leaf level e = atoms-level (leaf_tells_of (slice_get net.leaves leaf)) level (all_each (AtomFits net.cells) _ (tells_fit net is leaf)) e
