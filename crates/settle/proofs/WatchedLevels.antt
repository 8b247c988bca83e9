-- Level by level: where each leaf of the levels so far has told that the words run, the strata so far stand.
use Rattle.std.proofs.Common.{◌≡◌, ◌⊎◌, inl, inr, ℕ, suc, ◌+◌, ◌<◌, ◌≤◌, max, Bool, true, false, List, [], ◌∷◌, length, Some, refl, sym, ap, ◌∙◌, subst, arith}
use Rattle.std.specs.Prelude.{IsTrue, nat_lt, slice_get}
use Rattle.std.proofs.lemmas.Bool.Decides.{nat_tests}
use Rattle.token_system.specs.Stores.{StoreMap}
use Rattle.instant_net.specs.declared.parts.Atom.{Atom}
use Rattle.instant_net.specs.declared.parts.NetLeaf.{NetLeaf}
use Rattle.instant_net.specs.NamedLeaves.{named_entails, runs_named}
use Rattle.instant_net.specs.Nets.{Flat, named_atoms, named_leaf, atoms_of}
use Rattle.instant_net.specs.Opened.{IsNet}
use Rattle.instant_net.specs.Readers.{least_stratum}
use Rattle.instant_net.specs.Words.{store_in}
use Rattle.settle.specs.Looking.{WaitsBelow, AreSeenTo}
use Rattle.net_laws.specs.Ways.{IsOnNetWay, has_told}
use Rattle.settle.specs.Ways.{Advances}
use Rattle.net_laws.proofs.NetSystem.{level_of, level_or}
use Rattle.net_laws.proofs.Settling.{stratum-on_way}

-- what is not told has a level
told-or-level : (net : Flat) (w : StoreMap) (atoms : List Atom) → IsTrue (named_entails w (named_atoms net.cells atoms)) ⊎ ((m : ℕ) × (least_stratum net.cells atoms ≡ Some m))
told-or-level net w [] = inl refl
told-or-level net w (a ∷ atoms) = inr (_, refl)

nobody-waits : (net : Flat) (w : StoreMap) (l : NetLeaf) → IsTrue (has_told net w l) ⊎ WaitsBelow net [] l → IsTrue (has_told net w l)
nobody-waits net w l (inl h) = h
nobody-waits net w l (inr h) = absurd (let lt = h.2.1 in omega arith)

all-told : (net : Flat) (level k : ℕ) (words : List ℕ) → k ≤ level → AreSeenTo net (level + 1) words []
    → (n : ℕ) (l : NetLeaf) → slice_get net.leaves n ≡ Some l → level_of net l ≤ k → IsTrue (runs_named (store_in net.cells words) (named_leaf net l)) → IsTrue (has_told net (store_in net.cells words) l)
all-told net level k words low seen n l at le run = go (told-or-level net (store_in net.cells words) (atoms_of l.kind))
  where
    go : IsTrue (has_told net (store_in net.cells words) l) ⊎ ((m : ℕ) × (least_stratum net.cells (atoms_of l.kind) ≡ Some m)) → IsTrue (has_told net (store_in net.cells words) l)
    go (inl h) = h
    go (inr (m, e)) =
        let is : level_of net l ≡ m = ap (level_or net.strata) e in
        nobody-waits net (store_in net.cells words) l (seen n l m at e (omega arith) run)

module _ (net : Flat) (is : IsNet net) (from : ℕ) where
  -- the first level begins where the words are
  pub way-begins : (words : List ℕ) → Advances net from (max 0 from) words words
  way-begins words input output strat out h = subst (λ (k : ℕ). IsOnNetWay net input output k (store_in net.cells words)) (omega arith) h

  -- after a level the next one begins
  pub way-next : (level : ℕ) (before now : List ℕ) → Advances net from (max level from) before now → AreSeenTo net (level + 1) now [] → Advances net from (max (level + 1) from) before now
  way-next level before now way seen input output strat out h = go (nat_lt level from) refl
    where
      go : (b : Bool) → nat_lt level from ≡ b → IsOnNetWay net input output (max (level + 1) from) (store_in net.cells now)
      go true e =
          let lt : level < from = grind (arith, nat_tests) in
          subst (λ (k : ℕ). IsOnNetWay net input output k (store_in net.cells now)) (omega arith) (way input output strat out h)
      go false e =
          let le : from ≤ level = grind (arith, nat_tests) in
          subst (λ (k : ℕ). IsOnNetWay net input output k (store_in net.cells now)) (omega arith)
          (stratum-on_way net is strat input output out (max level from) (store_in net.cells now) (way input output strat out h) (all-told net level (max level from) now (omega arith) seen))
