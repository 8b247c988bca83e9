-- How a stratified net is completed to its output: what a loop over strata and a pass over leaves need to know.
use Rattle.std.proofs.Common.{◌≡◌, ℕ, suc, ◌≤◌, Bool, true, false, ◌&&◌, not, cond, List, [], ◌∷◌, map, Some, refl, sym, ap, ◌∙◌, arith}
use Rattle.std.specs.Prelude.{IsTrue, slice_get}
use Rattle.std.specs.List.{list_all}
use Rattle.token_system.specs.Stores.{StoreMap}
use Rattle.token_system.proofs.Alike.{true_false}
use Rattle.agent_core.specs.Rests.{◌⇒◌}
use Rattle.agent_core.specs.Strata.{Each}
use Rattle.agent_core.proofs.Bools.{both, first_of_both, second_of_both, implied, by_premise}
use Rattle.agent_laws.proofs.Eachs.{each_at, each_true, true_each}
use Rattle.agent_laws.proofs.System.{System}
use Rattle.agent_laws.proofs.Fixpoint as flat
use Rattle.agent_laws.proofs.Settling as settling
use Rattle.instant_net.specs.declared.parts.NetLeaf.{NetLeaf}
use Rattle.instant_net.specs.declared.parts.LeafKind.{LeafKind}
use Rattle.instant_net.specs.declared.parts.LeafKind.TheVariants as kinds
use Rattle.instant_net.specs.NamedLeaves.{NamedGuard, told_by, named_entails, named_asked, named_free, allowed, allows_named, runs_named, named_leaf_rests, leaves_rest, tell_named}
use Rattle.instant_net.specs.Nets.{Flat, named_atoms, named_kind, named_leaf, net_leaves, atoms_of}
use Rattle.instant_net.specs.Opened.{IsNet}
use Rattle.instant_net.specs.Outputs.{IsNetStoreBelow, IsNetOutput, IsStratified}
use Rattle.net_laws.specs.Ways.{IsNetStoreBelowUpto, IsOnNetWay, has_told}
use Rattle.net_laws.proofs.NetSystem.{level_of, tells, LeafStands, system, leaves-stand, each-by_get, of_upto}

-- TO RUN A LEAF IS TO FREE ITS PATH AND TO ANSWER ITS ASKS

pub runs-parts : (v : StoreMap) (path : List NamedGuard) → IsTrue (list_all (allows_named v) path) → IsTrue (list_all (named_free v) path) × IsTrue (list_all (named_asked v) path)
runs-parts v [] h = (refl, refl)
runs-parts v (g ∷ path) h =
    let rest = runs-parts v path (second_of_both (allows_named v g) (list_all (allows_named v) path) h) in
    let one = go g.negative (named_entails v g.ask) (first_of_both (allows_named v g) (list_all (allows_named v) path) h) in
    (both _ _ one.0 rest.0, both _ _ one.1 rest.1)
  where
    go : (b e : Bool) → IsTrue (allowed b e) → IsTrue (cond b (not e) true) × IsTrue (cond b true e)
    go true e x = (x, refl)
    go false e x = (refl, x)

pub parts-run : (v : StoreMap) (path : List NamedGuard) → IsTrue (list_all (named_free v) path) → IsTrue (list_all (named_asked v) path) → IsTrue (list_all (allows_named v) path)
parts-run v [] f a = refl
parts-run v (g ∷ path) f a =
    both _ _ (go g.negative (named_entails v g.ask) (first_of_both (named_free v g) (list_all (named_free v) path) f) (first_of_both (named_asked v g) (list_all (named_asked v) path) a))
    (parts-run v path (second_of_both (named_free v g) (list_all (named_free v) path) f) (second_of_both (named_asked v g) (list_all (named_asked v) path) a))
  where
    go : (b e : Bool) → IsTrue (cond b (not e) true) → IsTrue (cond b true e) → IsTrue (allowed b e)
    go true e x y = x
    go false e x y = y

freed : (f : Bool) → IsTrue f → not f ≡ false
freed true h = refl
freed false h = absurd (true_false (sym h))

unfreed : (f : Bool) → not f ≡ false → IsTrue f
unfreed true h = refl
unfreed false h = absurd (true_false h)

-- THE TEST OF A LEAF, AND THE FACTS THAT IT STANDS FOR

told_as-named : (net : Flat) (k : LeafKind) (u : StoreMap) → named_entails u (told_by (named_kind net.cells k)) ≡ named_entails u (named_atoms net.cells (atoms_of k))
told_as-named net (kinds.Tells told) u = refl
told_as-named net kinds.Idle u = refl
told_as-named net (kinds.StartsHence c) u = refl
told_as-named net (kinds.StartsNext c) u = refl

rest_facts : (f a b x y x' y' : Bool) → x ≡ x' → y ≡ y' → IsTrue (f ⇒ ((a ⇒ x) && (b ⇒ y))) → not f ≡ false → (IsTrue a → IsTrue x') × (IsTrue b → IsTrue y')
rest_facts f a b x y x' y' ex ey h e =
    let r = by_premise f ((a ⇒ x) && (b ⇒ y)) h (unfreed f e) in
    (λ i. sym ex ∙ by_premise a x (first_of_both (a ⇒ x) (b ⇒ y) r) i, λ i. sym ey ∙ by_premise b y (second_of_both (a ⇒ x) (b ⇒ y) r) i)

rest_test : (f a b x y x' y' : Bool) → x ≡ x' → y ≡ y' → (not f ≡ false → (IsTrue a → IsTrue x') × (IsTrue b → IsTrue y')) → IsTrue (f ⇒ ((a ⇒ x) && (b ⇒ y)))
rest_test f a b x y x' y' ex ey h = implied f _ (λ i. let r = h (freed f i) in both _ _ (implied a x (λ j. ex ∙ r.0 j)) (implied b y (λ j. ey ∙ r.1 j)))

list_all-map : {X Y : Type 0} (f : Y → Bool) (g : X → Y) (xs : List X) → list_all f (map g xs) ≡ list_all (λ x. f (g x)) xs
list_all-map f g [] = refl
list_all-map f g (x ∷ xs) = ap (λ b. f (g x) && b) (list_all-map f g xs)

module _ (net : Flat) (is : IsNet net) (strat : IsStratified net) where
  abbrev pub sys : System
  sys = system net is strat

  to_leaves : (u v : StoreMap) → IsTrue (leaves_rest (net_leaves net) u v) → Each (flat.LeafRests sys v u) net.leaves
  to_leaves u v h =
      each_true (λ l. named_leaf_rests u v (named_leaf net l)) (flat.LeafRests sys v u)
      (λ l r. rest_facts _ _ _ _ _ _ _ (told_as-named net l.kind u) (told_as-named net l.kind v) r) net.leaves
      (sym (list_all-map (named_leaf_rests u v) (named_leaf net) net.leaves) ∙ h)

  from_leaves : (u v : StoreMap) → Each (flat.LeafRests sys v u) net.leaves → IsTrue (leaves_rest (net_leaves net) u v)
  from_leaves u v h =
      list_all-map (named_leaf_rests u v) (named_leaf net) net.leaves
      ∙ true_each (λ l. named_leaf_rests u v (named_leaf net l)) (flat.LeafRests sys v u)
      (λ l r. rest_test _ _ _ _ _ _ _ (told_as-named net l.kind u) (told_as-named net l.kind v) r) net.leaves h

  by_strata : (u w : StoreMap) → IsNetStoreBelow net.cells u w → (k : ℕ) → IsNetStoreBelowUpto net.cells k u w
  by_strata u w h k c t at lt = h c t at

  module _ (i v : StoreMap) (out : IsNetOutput net i v) where
    pub of_leaves : flat.IsOutput sys net.leaves i v
    of_leaves = record {
      store = out.store;
      above = by_strata i v out.above;
      rests = to_leaves v v out.rests;
      least = λ u iu low high h. out.least u iu (of_upto net is i u low) (of_upto net is u v high) (from_leaves u v h);
    }

    abbrev Way : ℕ → StoreMap → Type 0
    Way k w = settling.IsWay sys net.leaves i (leaves-stand net is strat) out.given v of_leaves k w

    to_way : (k : ℕ) (w : StoreMap) → IsOnNetWay net i v k w → Way k w
    to_way k w h = record { store = h.store; above = by_strata i w h.above; below = by_strata w v h.below; stands = h.stands }

    of_way : (k : ℕ) (w : StoreMap) → Way k w → IsOnNetWay net i v k w
    of_way k w h = record { store = h.store; above = of_upto net is i w h.above; below = of_upto net is w v h.below; stands = h.stands }

    -- a leaf of level at most k that the store runs may tell
    pub tell-on_way : (k : ℕ) (w : StoreMap) (n : ℕ) (l : NetLeaf) → IsOnNetWay net i v k w → slice_get net.leaves n ≡ Some l → level_of net l ≤ k → IsTrue (runs_named w (named_leaf net l))
        → IsOnNetWay net i v k (tell_named (tells net l) w)
    tell-on_way k w n l h at le run =
        let r = runs-parts w (named_leaf net l).path run in
        of_way k _ (settling.tell-way sys net.leaves i (leaves-stand net is strat) out.given v of_leaves k w l (to_way k w h)
        (each_at (LeafStands net) net.leaves n l (leaves-stand net is strat) at) (each_at (flat.LeafRests sys v v) net.leaves n l of_leaves.rests at) le (freed _ r.0) r.1)

    -- where each leaf of level at most k that the store runs has told, stratum k stands too
    pub stratum-on_way : (k : ℕ) (w : StoreMap) → IsOnNetWay net i v k w → ((n : ℕ) (l : NetLeaf) → slice_get net.leaves n ≡ Some l → level_of net l ≤ k → IsTrue (runs_named w (named_leaf net l)) → IsTrue (has_told net w l))
        → IsOnNetWay net i v (suc k) w
    stratum-on_way k w h told =
        of_way (suc k) w (settling.stratum-way sys net.leaves i (leaves-stand net is strat) out.given v of_leaves k w (to_way k w h)
        (each-by_get (flat.CalmUpto sys (suc k) w w) net.leaves (λ n l at lt off on. told n l at (omega arith) (parts-run w (named_leaf net l).path (unfreed _ off) on))))

    -- where all strata stand it is the output
    pub end-on_way : (k : ℕ) (w : StoreMap) → net.strata ≤ k → IsOnNetWay net i v k w → w ≡ v
    end-on_way k w le h =
        settling.end-way sys net.leaves i (leaves-stand net is strat) out.given v of_leaves w
        (record { store = h.store; above = by_strata i w h.above; below = by_strata w v h.below; stands = λ c t at lt. h.stands c t at (omega arith) })
