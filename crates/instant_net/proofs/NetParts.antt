-- The parts of a net are whole: each atom fits a cell, and each guard above is there.
use Rattle.std.proofs.Common.{◌≡◌, ℕ, ◌+◌, ◌<◌, ◌≤◌, List, [], ◌∷◌, ◌++◌, length, get_or, take, Option, Some, None, refl, sym, ap, ◌∙◌, subst, arith, All, max}
use Rattle.std.specs.Prelude.{slice_get}
use Rattle.std.proofs.lemmas.Option.{slice_get_within, get_or_from_slice_get}
use Rattle.std.proofs.lemmas.List.Elements.{All-nil, All-get_or}
use Rattle.std.proofs.lemmas.List.{take_more, take_all}
use Rattle.instant_net.specs.declared.parts.Atom.{Atom}
use Rattle.instant_net.specs.declared.parts.NetCell.{NetCell}
use Rattle.instant_net.specs.declared.parts.NetGuard.{NetGuard}
use Rattle.instant_net.specs.declared.parts.NetLeaf.{NetLeaf}
use Rattle.instant_net.specs.Nets.{Flat, AtomFits, IsLinkBelow, LeafIsWhole}
use Rattle.instant_net.specs.Opened.{IsNet}
use Rattle.instant_net.specs.Readers.{guard_ask_of, above_of, leaf_tells_of, last_of, stratum_of, lesser, least_stratum, greatest_stratum}

module _ (net : Flat) (is : IsNet net) where
  pub ask_fits : (k : ℕ) → All (AtomFits net.cells) (guard_ask_of (slice_get net.guards k))
  ask_fits k = go (slice_get net.guards k) refl
    where
      go : (o : Option NetGuard) → slice_get net.guards k ≡ o → All (AtomFits net.cells) (guard_ask_of o)
      go None e = All-nil (AtomFits net.cells)
      go (Some g) e = (is.of.whole.guards k g e).0

  pub above_there : (k : ℕ) → k < length net.guards → IsLinkBelow k (above_of (slice_get net.guards k))
  above_there k h = go (slice_get net.guards k) refl
    where
      go : (o : Option NetGuard) → slice_get net.guards k ≡ o → IsLinkBelow k (above_of o)
      go None e = tt
      go (Some g) e = (is.of.whole.guards k g e).1

  leaf_whole : (k : ℕ) (l : NetLeaf) → slice_get net.leaves k ≡ Some l → LeafIsWhole net l
  leaf_whole k l e = subst (LeafIsWhole net) (get_or_from_slice_get net.leaves k l l e) (All-get_or (LeafIsWhole net) net.leaves k l (slice_get_within net.leaves k l e) is.of.whole.leaves)

  pub tells_fit : (k : ℕ) → All (AtomFits net.cells) (leaf_tells_of (slice_get net.leaves k))
  tells_fit k = go (slice_get net.leaves k) refl
    where
      go : (o : Option NetLeaf) → slice_get net.leaves k ≡ o → All (AtomFits net.cells) (leaf_tells_of o)
      go None e = All-nil (AtomFits net.cells)
      go (Some l) e = (leaf_whole k l e).0

  pub last_there : (k : ℕ) → IsLinkBelow (length net.guards) (last_of (slice_get net.leaves k))
  last_there k = go (slice_get net.leaves k) refl
    where
      go : (o : Option NetLeaf) → slice_get net.leaves k ≡ o → IsLinkBelow (length net.guards) (last_of o)
      go None e = tt
      go (Some l) e = (leaf_whole k l e).1

-- the atom that was read fits
pub atom_read : (cells : List NetCell) (atoms items : List Atom) (i : ℕ) (d : Atom) → All (AtomFits cells) atoms → items ≡ atoms → i < length items → AtomFits cells (get_or items i d)
atom_read cells atoms items i d all same h = All-get_or (AtomFits cells) items i d h (subst (All (AtomFits cells)) (sym same) all)

-- its cell is there
pub cell_there : (cells : List NetCell) (a : Atom) → AtomFits cells a → a.cell < length cells
cell_there cells a f = slice_get_within cells a.cell f.0 f.1

-- STRATA, ATOM BY ATOM

greatest_push : (cells : List NetCell) (atoms : List Atom) (a : Atom) → greatest_stratum cells (atoms ++ a ∷ []) ≡ max (stratum_of (slice_get cells a.cell)) (greatest_stratum cells atoms)
greatest_push cells [] a = refl
greatest_push cells (x ∷ atoms) a = let rest = greatest_push cells atoms a in omega arith

pub greatest_more : (cells : List NetCell) (items : List Atom) (i : ℕ) (d : Atom) → i < length items
    → greatest_stratum cells (take (i + 1) items) ≡ max (stratum_of (slice_get cells (get_or items i d).cell)) (greatest_stratum cells (take i items))
greatest_more cells items i d h = ap (greatest_stratum cells) (take_more items i d h) ∙ greatest_push cells (take i items) (get_or items i d)

lesser_twice : (m n : ℕ) (o : Option ℕ) → Some (lesser m (Some (lesser n o))) ≡ Some (lesser n (Some (lesser m o)))
lesser_twice m n None = ap Some (omega arith)
lesser_twice m n (Some k) = ap Some (omega arith)

least_push : (cells : List NetCell) (atoms : List Atom) (a : Atom) → least_stratum cells (atoms ++ a ∷ []) ≡ Some (lesser (stratum_of (slice_get cells a.cell)) (least_stratum cells atoms))
least_push cells [] a = refl
least_push cells (x ∷ atoms) a =
    ap (λ o. Some (lesser (stratum_of (slice_get cells x.cell)) o)) (least_push cells atoms a)
    ∙ lesser_twice (stratum_of (slice_get cells x.cell)) (stratum_of (slice_get cells a.cell)) (least_stratum cells atoms)

pub least_more : (cells : List NetCell) (items : List Atom) (i : ℕ) (d : Atom) → i < length items
    → least_stratum cells (take (i + 1) items) ≡ Some (lesser (stratum_of (slice_get cells (get_or items i d).cell)) (least_stratum cells (take i items)))
least_more cells items i d h = ap (least_stratum cells) (take_more items i d h) ∙ least_push cells (take i items) (get_or items i d)

-- past the last atom all are taken
pub greatest_all : (cells : List NetCell) (items : List Atom) (i : ℕ) → length items ≤ i → greatest_stratum cells (take i items) ≡ greatest_stratum cells items
greatest_all cells items i h = ap (greatest_stratum cells) (take_all i items h)

pub least_all : (cells : List NetCell) (items : List Atom) (i : ℕ) → length items ≤ i → least_stratum cells (take i items) ≡ least_stratum cells items
least_all cells items i h = ap (least_stratum cells) (take_all i items h)
