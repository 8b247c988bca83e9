-- What a pass over the leaves of a net does, leaf by leaf.
use Rattle.std.proofs.Common.{◌≡◌, ◌⊎◌, inl, inr, ℕ, zero, suc, ◌+◌, ◌<◌, ◌≤◌, Bool, true, false, ◌&&◌, not, cond, List, [], ◌∷◌, length, get_or, Some, None, refl, sym, ap, ◌∙◌, subst, arith}
use Rattle.std.specs.Prelude.{Option, IsTrue, All, slice_get, nat_lt}
use Rattle.std.proofs.lemmas.Bool.Decides.{nat_tests}
use Rattle.std.proofs.lemmas.Option.{slice_get_cases, slice_get_within}
use Rattle.token_system.specs.Stores.{StoreMap}
use Rattle.token_system.proofs.Alike.{true_false}
use Rattle.agent_core.specs.Strata.{Each}
use Rattle.agent_core.proofs.Bools.{first_of_both, second_of_both}
use Rattle.agent_laws.proofs.Eachs.{all_each, each_all, each_at}
use Rattle.instant_net.specs.declared.parts.Atom.{Atom}
use Rattle.instant_net.specs.declared.parts.NetLeaf.{NetLeaf}
use Rattle.instant_net.specs.NamedLeaves.{named_entails, runs_named, tell_named}
use Rattle.instant_net.specs.Nets.{Flat, named_atoms, named_leaf, AtomFits, LeafIsWhole, atoms_of}
use Rattle.instant_net.specs.Opened.{IsNet}
use Rattle.instant_net.specs.Outputs.{IsStoreOf}
use Rattle.instant_net.specs.Readers.{least_stratum, leaf_tells_of}
use Rattle.instant_net.specs.Words.{store_in, AreWords}
use Rattle.instant_net.proofs.WordStores.{words-store}
use Rattle.net_laws.specs.Ways.{IsOnNetWay, has_told}
use Rattle.net_laws.proofs.NetTells.{NamedFits, entails-above, named-fits, tell-all}
use Rattle.net_laws.proofs.NetSystem.{level_or, level_of, tells, each-by_get}
use Rattle.net_laws.proofs.Settling.{tell-on_way, stratum-on_way}
use Rattle.settle.specs.Ways.{Advances, is_level_upto, is_leaf_due, untold}

-- WHICH LEAVES ARE DUE

pub upto_level : (s k : ℕ) (o : Option ℕ) → IsTrue (is_level_upto k o) → level_or s o ≤ k
upto_level s k None h = absurd (true_false (sym h))
upto_level s k (Some m) h = grind (arith, nat_tests)

upto_test : (s k : ℕ) (o : Option ℕ) → level_or s o ≤ k → (o ≡ None) ⊎ IsTrue (is_level_upto k o)
upto_test s k None h = inl refl
upto_test s k (Some m) h = inr (grind (arith, nat_tests))

-- a leaf that is not due has told, where its level is low enough and the store runs it
not_due : (net : Flat) (k : ℕ) (w : StoreMap) (l : NetLeaf) → is_leaf_due net k w l ≡ false → level_of net l ≤ k → IsTrue (runs_named w (named_leaf net l)) → IsTrue (has_told net w l)
not_due net k w l h le run = go (atoms_of l.kind) h le
  where
    all_but : (a b c : Bool) → (a && (b && not c)) ≡ false → IsTrue a → IsTrue b → IsTrue c
    all_but true true true e x y = refl
    all_but true true false e x y = absurd (true_false e)
    all_but true false c e x y = absurd (true_false (sym y))
    all_but false b c e x y = absurd (true_false (sym x))

    go : (atoms : List Atom) → (is_level_upto k (least_stratum net.cells atoms) && (runs_named w (named_leaf net l) && not (named_entails w (named_atoms net.cells atoms)))) ≡ false
        → level_or net.strata (least_stratum net.cells atoms) ≤ k → IsTrue (named_entails w (named_atoms net.cells atoms))
    go [] h le = refl
    go (a ∷ atoms) h le = elim (upto_test net.strata k (least_stratum net.cells (a ∷ atoms)) le) [
      | inl none ↦ absurd (cc)
      | inr low ↦ all_but (is_level_upto k (least_stratum net.cells (a ∷ atoms))) (runs_named w (named_leaf net l)) (named_entails w (named_atoms net.cells (a ∷ atoms))) h low run
    ]

-- HOW MANY LEAVES ARE LEFT

abbrev Rises : Flat → StoreMap → StoreMap → NetLeaf → Type 0
Rises net u w l = IsTrue (has_told net u l) → IsTrue (has_told net w l)

untold-le : (net : Flat) (u w : StoreMap) (ls : List NetLeaf) → Each (Rises net u w) ls → untold net w ls ≤ untold net u ls
untold-le net u w [] h = omega arith
untold-le net u w (l ∷ ls) h = let ih = untold-le net u w ls h.1 in go (has_told net u l) (has_told net w l) h.0 ih
  where
    go : (a b : Bool) → (IsTrue a → IsTrue b) → untold net w ls ≤ untold net u ls → cond b 0 1 + untold net w ls ≤ cond a 0 1 + untold net u ls
    go true true f le = omega arith
    go true false f le = absurd (true_false (sym (f refl)))
    go false true f le = omega arith
    go false false f le = omega arith

untold-less : (net : Flat) (u w : StoreMap) (ls : List NetLeaf) (n : ℕ) (l : NetLeaf) → Each (Rises net u w) ls → slice_get ls n ≡ Some l → has_told net u l ≡ false → has_told net w l ≡ true → untold net w ls + 1 ≤ untold net u ls
untold-less net u w [] n l h at e f = absurd (cc)
untold-less net u w (x ∷ ls) zero l h at e f =
    let same : x ≡ l = cc in
    go (has_told net u x) (has_told net w x) (ap (has_told net u) same ∙ e) (ap (has_told net w) same ∙ f) (untold-le net u w ls h.1)
  where
    go : (a b : Bool) → a ≡ false → b ≡ true → untold net w ls ≤ untold net u ls → cond b 0 1 + untold net w ls + 1 ≤ cond a 0 1 + untold net u ls
    go true b p q le = absurd (true_false p)
    go false true p q le = omega arith
    go false false p q le = absurd (true_false (sym q))
untold-less net u w (x ∷ ls) (suc n) l h at e f =
    let ih = untold-less net u w ls n l h.1 at e f in go (has_told net u x) (has_told net w x) h.0 ih
  where
    go : (a b : Bool) → (IsTrue a → IsTrue b) → untold net w ls + 1 ≤ untold net u ls → cond b 0 1 + untold net w ls + 1 ≤ cond a 0 1 + untold net u ls
    go true true g le = omega arith
    go true false g le = absurd (true_false (sym (g refl)))
    go false true g le = omega arith
    go false false g le = omega arith

module _ (net : Flat) (is : IsNet net) where
  pub leaf-fits : (n : ℕ) (l : NetLeaf) → slice_get net.leaves n ≡ Some l → Each (NamedFits net.cells) (tells net l)
  leaf-fits n l at = named-fits net.cells (atoms_of l.kind) (all_each (AtomFits net.cells) (atoms_of l.kind) (each_at (LeafIsWhole net) net.leaves n l (all_each (LeafIsWhole net) net.leaves is.of.whole.leaves) at).0)

  -- telling what one leaf tells leaves fewer
  told-fewer : (w : StoreMap) (n : ℕ) (l : NetLeaf) → IsStoreOf net.cells w → slice_get net.leaves n ≡ Some l → has_told net w l ≡ false → untold net (tell_named (tells net l) w) net.leaves + 1 ≤ untold net w net.leaves
  told-fewer w n l iw at e =
      let after = tell-all net is (tells net l) w (leaf-fits n l at) iw in
      untold-less net w (tell_named (tells net l) w) net.leaves n l
      (each-by_get (Rises net w (tell_named (tells net l) w)) net.leaves (λ m x s. entails-above net.cells w (tell_named (tells net l) w) (tells net x) (leaf-fits m x s) after.above))
      at e after.entails

-- PASSES

-- the words before the pass, and those at leaf i
pub record IsPass (net : Flat) (k : ℕ) (before now : List ℕ) (i : ℕ) (told : Bool) : Type 0 where
  pub words : AreWords net.cells now
  pub way : Advances net k k before now
  pub fewer : untold net (store_in net.cells now) net.leaves + cond told 1 0 ≤ untold net (store_in net.cells before) net.leaves
  pub calm : told ≡ false → (n : ℕ) (l : NetLeaf) → n < i → slice_get net.leaves n ≡ Some l → is_leaf_due net k (store_in net.cells now) l ≡ false

pub pass-start : (net : Flat) (k : ℕ) (words : List ℕ) → AreWords net.cells words → IsPass net k words words 0 false
pass-start net k words are = record { words = are; way = λ input output strat out h. h; fewer = omega arith; calm = λ e n l lt. absurd (omega arith) }

module _ (net : Flat) (k : ℕ) (before now : List ℕ) (i : ℕ) (told : Bool) (p : IsPass net k before now i told) (b : Bool)
    (due : (l : NetLeaf) → slice_get net.leaves i ≡ Some l → b ≡ is_leaf_due net k (store_in net.cells now) l) where
  pub pass-skip : b ≡ false → IsPass net k before now (i + 1) told
  pass-skip e = record { words = p.words; way = p.way; fewer = p.fewer; calm = calm }
    where
      calm : told ≡ false → (n : ℕ) (l : NetLeaf) → n < i + 1 → slice_get net.leaves n ≡ Some l → is_leaf_due net k (store_in net.cells now) l ≡ false
      calm f n l lt at = go (nat_lt n i) refl
        where
          go : (c : Bool) → nat_lt n i ≡ c → is_leaf_due net k (store_in net.cells now) l ≡ false
          go true s = p.calm f n l (grind (arith, nat_tests)) at
          go false s = let same : n ≡ i = grind (arith, nat_tests) in sym (due l (ap (slice_get net.leaves) (sym same) ∙ at)) ∙ e

  pub pass-tell : IsNet net → b ≡ true → i < length net.leaves → (after : List ℕ) → AreWords net.cells after
      → store_in net.cells after ≡ tell_named (named_atoms net.cells (leaf_tells_of (slice_get net.leaves i))) (store_in net.cells now) → IsPass net k before after (i + 1) true
  pass-tell is e lt after are store = go (slice_get_cases net.leaves i).1
    where
      found : (l : NetLeaf) → slice_get net.leaves i ≡ Some l → IsPass net k before after (i + 1) true
      found l at =
          let w : StoreMap = store_in net.cells now in
          let iw = words-store net is now p.words in
          let same : store_in net.cells after ≡ tell_named (tells net l) w = store ∙ ap (λ o. tell_named (named_atoms net.cells (leaf_tells_of o)) w) at in
          let now_due : IsTrue (is_leaf_due net k w l) = sym (due l at) ∙ e in
          let low = first_of_both (is_level_upto k (least_stratum net.cells (atoms_of l.kind))) _ now_due in
          let more : IsTrue (runs_named w (named_leaf net l) && not (has_told net w l)) = second_of_both (is_level_upto k (least_stratum net.cells (atoms_of l.kind))) _ now_due in
          let run = first_of_both (runs_named w (named_leaf net l)) (not (has_told net w l)) more in
          let fresh = is_false (has_told net w l) (second_of_both (runs_named w (named_leaf net l)) (not (has_told net w l)) more) in
          let less = told-fewer net is w i l iw at fresh in
          let count : untold net (store_in net.cells after) net.leaves ≡ untold net (tell_named (tells net l) w) net.leaves = ap (λ x. untold net x net.leaves) same in
          let had = p.fewer in
          record {
            words = are;
            way = λ input output strat out h.
                subst (IsOnNetWay net input output k) (sym same)
                (tell-on_way net is strat input output out k w i l (p.way input output strat out h) at (upto_level net.strata k (least_stratum net.cells (atoms_of l.kind)) low) run);
            fewer = fewer_than told had less count;
            calm = λ f. absurd (true_false f);
          }
        where
          is_false : (c : Bool) → IsTrue (not c) → c ≡ false
          is_false true h = absurd (true_false (sym h))
          is_false false h = refl

          fewer_than : (c : Bool) {x y z v : ℕ} → y + cond c 1 0 ≤ v → z + 1 ≤ y → x ≡ z → x + 1 ≤ v
          fewer_than true h g f = omega arith
          fewer_than false h g f = omega arith

      go : ((l : NetLeaf) × (i < length net.leaves) × (slice_get net.leaves i ≡ Some l) × (get_or net.leaves i l ≡ l)) ⊎ ((length net.leaves ≤ i) × (slice_get net.leaves i ≡ None)) → IsPass net k before after (i + 1) true
      go (inl (l, within, at, read)) = found l at
      go (inr (past, none)) = absurd (omega arith)

-- at the end of a pass that told nothing no leaf is due
pub pass-calm : (net : Flat) (k : ℕ) (before now : List ℕ) (i : ℕ) (told : Bool) → IsPass net k before now i told → length net.leaves ≤ i → told ≡ false
    → All (λ l. is_leaf_due net k (store_in net.cells now) l ≡ false) net.leaves
pass-calm net k before now i told p long e =
    each_all (λ l. is_leaf_due net k (store_in net.cells now) l ≡ false) net.leaves
    (each-by_get (λ l. is_leaf_due net k (store_in net.cells now) l ≡ false) net.leaves (λ n l at. let lt = slice_get_within net.leaves n l at in p.calm e n l (omega arith) at))

-- and where no leaf is due, the stratum stands
pub stratum-done : (net : Flat) (k : ℕ) (before now : List ℕ) → IsNet net → Advances net k k before now → All (λ l. is_leaf_due net k (store_in net.cells now) l ≡ false) net.leaves → Advances net k (k + 1) before now
stratum-done net k before now is way calm input output strat out h =
    let next : suc k ≡ k + 1 = omega arith in
    subst (λ (m : ℕ). IsOnNetWay net input output m (store_in net.cells now)) next
    (stratum-on_way net is strat input output out k (store_in net.cells now) (way input output strat out h)
    (λ n l at le run. not_due net k (store_in net.cells now) l (each_at (λ x. is_leaf_due net k (store_in net.cells now) x ≡ false) net.leaves n l (all_each (λ x. is_leaf_due net k (store_in net.cells now) x ≡ false) net.leaves calm) at) le run))
