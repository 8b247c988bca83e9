-- How many evaluations a leaf's telling pays for, and that each leaf pays once.
use Rattle.std.proofs.Common.{◌≡◌, ℕ, zero, suc, ◌+◌, ◌<◌, ◌≤◌, Bool, true, false, not, cond, List, [], ◌∷◌, ◌++◌, length, get_or, take, Option, Some, None, refl, sym, ap, ◌∙◌, subst, arith}
use Rattle.std.specs.Prelude.{◌&&◌, IsTrue, slice_get}
use Rattle.std.proofs.lemmas.List.{take_more, take_all}
use Rattle.token_system.specs.Stores.{StoreMap}
use Rattle.token_system.proofs.Alike.{true_false}
use Rattle.agent_core.specs.Strata.{Each}
use Rattle.agent_laws.proofs.Eachs.{each_at}
use Rattle.instant_net.specs.declared.parts.Atom.{Atom}
use Rattle.instant_net.specs.declared.parts.NetLeaf.{NetLeaf}
use Rattle.instant_net.specs.NamedLeaves.{runs_named}
use Rattle.instant_net.specs.Nets.{Flat, named_leaf, atoms_of}
use Rattle.instant_net.specs.Opened.{IsNet}
use Rattle.instant_net.specs.Outputs.{IsNetStoreBelow, IsNetOutput, IsStratified}
use Rattle.instant_net.specs.Words.{store_in}
use Rattle.parked_asks.specs.Watches.{watchers}
use Rattle.settle.specs.Evaluations.{watch_count, watching_told, watching_left, Evaluates}
use Rattle.net_laws.specs.Ways.{IsOnNetWay, has_told}
use Rattle.settle.specs.Ways.{Advances}
use Rattle.settle.proofs.LeafPasses.{leaf-fits}
use Rattle.net_laws.proofs.NetTells.{entails-above}
use Rattle.net_laws.proofs.NetSystem.{LeafStands, level_of, tells, asked-up, free-down, each-by_get, leaves-stand}
use Rattle.net_laws.proofs.Settling.{runs-parts, parts-run}

-- ATOM BY ATOM

watching-push : (net : Flat) (atoms : List Atom) (a : Atom) → watch_count net (atoms ++ a ∷ []) ≡ watch_count net atoms + length (watchers net a.cell)
watching-push net [] a = omega arith
watching-push net (x ∷ atoms) a = let ih = watching-push net atoms a in omega arith

pub watching-next : (net : Flat) (items : List Atom) (i : ℕ) (d : Atom) → i < length items → watch_count net (take (i + 1) items) ≡ watch_count net (take i items) + length (watchers net (get_or items i d).cell)
watching-next net items i d lt = ap (watch_count net) (take_more items i d lt) ∙ watching-push net (take i items) (get_or items i d)

pub watching-all : (net : Flat) (items atoms : List Atom) (i : ℕ) → items ≡ atoms → length items ≤ i → watch_count net (take i items) ≡ watch_count net atoms
watching-all net items atoms i same le = ap (watch_count net) (take_all i items le ∙ same)

-- WHAT IS LEFT

abbrev Rises : Flat → StoreMap → StoreMap → NetLeaf → Type 0
Rises net u w l = IsTrue (has_told net u l) → IsTrue (has_told net w l)

-- nobody has more left than it runs
pub left-most : (net : Flat) (v w : StoreMap) (ls : List NetLeaf) → watching_left net v w ls ≤ watching_told net v ls
left-most net v w [] = omega arith
left-most net v w (l ∷ ls) = let ih = left-most net v w ls in go (runs_named v (named_leaf net l)) (has_told net w l) ih
  where
    go : (r t : Bool) → watching_left net v w ls ≤ watching_told net v ls
        → cond (r && not t) (watch_count net (atoms_of l.kind)) 0 + watching_left net v w ls ≤ cond r (watch_count net (atoms_of l.kind)) 0 + watching_told net v ls
    go true true le = omega arith
    go true false le = omega arith
    go false t le = omega arith

-- nothing more is left where more was told
left-le : (net : Flat) (v u w : StoreMap) (ls : List NetLeaf) → Each (Rises net u w) ls → watching_left net v w ls ≤ watching_left net v u ls
left-le net v u w [] h = omega arith
left-le net v u w (l ∷ ls) h = let ih = left-le net v u w ls h.1 in go (runs_named v (named_leaf net l)) (has_told net u l) (has_told net w l) h.0 ih
  where
    go : (r a b : Bool) → (IsTrue a → IsTrue b) → watching_left net v w ls ≤ watching_left net v u ls
        → cond (r && not b) (watch_count net (atoms_of l.kind)) 0 + watching_left net v w ls ≤ cond (r && not a) (watch_count net (atoms_of l.kind)) 0 + watching_left net v u ls
    go false a b f le = omega arith
    go true true true f le = omega arith
    go true true false f le = absurd (true_false (sym (f refl)))
    go true false true f le = omega arith
    go true false false f le = omega arith

-- and what one leaf watches is paid, once it has told
left-less : (net : Flat) (v u w : StoreMap) (ls : List NetLeaf) (n : ℕ) (l : NetLeaf) → Each (Rises net u w) ls → slice_get ls n ≡ Some l → IsTrue (runs_named v (named_leaf net l)) → has_told net u l ≡ false → has_told net w l ≡ true
    → watching_left net v w ls + watch_count net (atoms_of l.kind) ≤ watching_left net v u ls
left-less net v u w [] n l h at r e f = absurd (cc)
left-less net v u w (x ∷ ls) zero l h at r e f =
    let same : x ≡ l = cc in
    go (runs_named v (named_leaf net x)) (has_told net u x) (has_told net w x) (ap (λ (y : NetLeaf). runs_named v (named_leaf net y)) same ∙ r) (ap (has_told net u) same ∙ e) (ap (has_told net w) same ∙ f)
    (ap (λ (y : NetLeaf). watch_count net (atoms_of y.kind)) same) (left-le net v u w ls h.1)
  where
    go : (r a b : Bool) → r ≡ true → a ≡ false → b ≡ true → watch_count net (atoms_of x.kind) ≡ watch_count net (atoms_of l.kind) → watching_left net v w ls ≤ watching_left net v u ls
        → cond (r && not b) (watch_count net (atoms_of x.kind)) 0 + watching_left net v w ls + watch_count net (atoms_of l.kind) ≤ cond (r && not a) (watch_count net (atoms_of x.kind)) 0 + watching_left net v u ls
    go true false true p q s same le = omega arith
    go true true b p q s same le = absurd (true_false q)
    go true false false p q s same le = absurd (true_false (sym s))
    go false a b p q s same le = absurd (true_false (sym p))
left-less net v u w (x ∷ ls) (suc n) l h at r e f =
    let ih = left-less net v u w ls n l h.1 at r e f in go (runs_named v (named_leaf net x)) (has_told net u x) (has_told net w x) h.0 ih
  where
    go : (r a b : Bool) → (IsTrue a → IsTrue b) → watching_left net v w ls + watch_count net (atoms_of l.kind) ≤ watching_left net v u ls
        → cond (r && not b) (watch_count net (atoms_of x.kind)) 0 + watching_left net v w ls + watch_count net (atoms_of l.kind) ≤ cond (r && not a) (watch_count net (atoms_of x.kind)) 0 + watching_left net v u ls
    go false a b g le = omega arith
    go true true true g le = omega arith
    go true true false g le = absurd (true_false (sym (g refl)))
    go true false true g le = omega arith
    go true false false g le = omega arith

module _ (net : Flat) (is : IsNet net) where
  -- a leaf that words on the way run is run by the output
  runs-output : (strat : IsStratified net) (k n : ℕ) (l : NetLeaf) (input output w : StoreMap) → IsOnNetWay net input output k w → slice_get net.leaves n ≡ Some l → level_of net l ≤ k → IsTrue (runs_named w (named_leaf net l))
      → IsTrue (runs_named output (named_leaf net l))
  runs-output strat k n l input output w way at le run =
      let stands = each_at (LeafStands net) net.leaves n l (leaves-stand net is strat) at in
      let parts = runs-parts w (named_leaf net l).path run in
      parts-run output (named_leaf net l).path
      (free-down net.cells k (level_of net l) output w way.stands (named_leaf net l).path le stands.path parts.0)
      (asked-up net.cells (suc (level_of net l)) (level_of net l) w output (λ c t within lt. way.below c t within) (named_leaf net l).path (omega arith) stands.path parts.1)

  rises : (u w : StoreMap) → IsNetStoreBelow net.cells u w → Each (Rises net u w) net.leaves
  rises u w above = each-by_get (Rises net u w) net.leaves (λ m x s. entails-above net.cells u w (tells net x) (leaf-fits net is m x s) above)

  -- LOOKING ON

  pub evaluates-none : (k : ℕ) (words : List ℕ) (steps more : ℕ) → more ≤ steps → Evaluates net k words words steps more
  evaluates-none k words steps more le input output strat out h = omega arith

  pub evaluates-then : (k m : ℕ) (a b c : List ℕ) (x y z : ℕ) → Advances net k m a b → Evaluates net k a b x y → Evaluates net m b c y z → Evaluates net k a c x z
  evaluates-then k m a b c x y z way first second input output strat out h =
      let p = first input output strat out h in
      let q = second input output strat out (way input output strat out h) in
      omega arith

  pub evaluates-told : (k n : ℕ) (l : NetLeaf) → slice_get net.leaves n ≡ Some l → level_of net l ≤ k → (before after : List ℕ) (steps more : ℕ) → IsNetStoreBelow net.cells (store_in net.cells before) (store_in net.cells after)
      → IsTrue (runs_named (store_in net.cells before) (named_leaf net l)) → has_told net (store_in net.cells before) l ≡ false → has_told net (store_in net.cells after) l ≡ true
      → more ≤ steps + watch_count net (atoms_of l.kind) → Evaluates net k before after steps more
  evaluates-told k n l at le before after steps more above run fresh told cost input output strat out h =
      let less = left-less net output (store_in net.cells before) (store_in net.cells after) net.leaves n l (rises (store_in net.cells before) (store_in net.cells after) above) at
      (runs-output strat k n l input output (store_in net.cells before) h at le run) fresh told in
      omega arith
