-- Below an output: what may be told, when a stratum stands, and what the output is made of.
use Rattle.std.proofs.Common.{◌≡◌, ℕ, suc, ◌≤◌, Bool, true, false, ◌&&◌, not, cond, List, [], ◌∷◌, refl, sym, ap, ◌∙◌, subst, arith}
use Rattle.std.specs.Prelude.{IsTrue}
use Rattle.token_system.proofs.Alike.{true_false}
use Rattle.agent_core.specs.Strata.{Each}
use Rattle.agent_laws.proofs.Eachs.{Each-both}
use Rattle.agent_laws.proofs.System.{System}
use Rattle.agent_laws.proofs.Fixpoint.{Below, CalmUpto, LeafRests, IsOutput, closed, output-is_fixed}

module _ (s : System) (ls : List s.Leaf) (i : s.Store) (is : Each s.IsLeaf ls) (ii : s.IsStore i) (v : s.Store) (out : IsOutput s ls i v) where
  -- The output is the least of the stores above the input in which what it runs is told, stratum by stratum.
  pub output-least : (k : ℕ) (w : s.Store) → s.IsStore w → s.Upto k i w → Each (CalmUpto s k v w) ls → s.Upto k v w
  output-least k w iw above calm =
      let e = output-is_fixed s ls i is ii v out in
      subst (λ (x : s.Store). s.Upto k x w) e ((closed s v ls i is ii).least k w iw above calm)

  -- a store on the way to the output, whose strata below k are the output's
  pub record IsWay (k : ℕ) (w : s.Store) : Type 0 where
    pub store : s.IsStore w
    pub above : Below s i w
    pub below : Below s w v
    pub stands : s.Upto k v w

  free_there : (k : ℕ) (w : s.Store) (l : s.Leaf) → IsWay k w → s.IsLeaf l → s.level l ≤ k → s.off l w ≡ false → (b : Bool) → s.off l v ≡ b → b ≡ false
  free_there k w l way il le e true eb = absurd (true_false (sym (s.off-up l k v w il le way.stands eb) ∙ e))
  free_there k w l way il le e false eb = refl

  -- a leaf of level at most k that the store runs is run by the output
  pub runs_there : (k : ℕ) (w : s.Store) (l : s.Leaf) → IsWay k w → s.IsLeaf l → LeafRests s v v l → s.level l ≤ k → s.off l w ≡ false → IsTrue (s.on l w)
      → (s.off l v ≡ false) × IsTrue (s.on l v) × IsTrue (s.told l v)
  runs_there k w l way il rests le off on =
      let free : s.off l v ≡ false = free_there k w l way il le off (s.off l v) refl in
      let on_v = s.on-up l (suc (s.level l)) w v il (omega arith) (way.below (suc (s.level l))) on in
      (free, on_v, (rests free).1 on_v)

  -- so what it tells may be told
  pub tell-way : (k : ℕ) (w : s.Store) (l : s.Leaf) → IsWay k w → s.IsLeaf l → LeafRests s v v l → s.level l ≤ k → s.off l w ≡ false → IsTrue (s.on l w) → IsWay k (s.tell l w)
  tell-way k w l way il rests le off on =
      let r = runs_there k w l way il rests le off on in
      record {
        store = s.tell-store l w il way.store;
        above = λ j. s.Upto-trans j i w _ (way.above j) (s.tell-above l w il way.store j);
        below = λ j. s.tell-least l j w v il way.store out.store (way.below j) (λ lt. r.2);
        stands = s.Upto-trans k v w _ way.stands (s.tell-above l w il way.store k);
      }

  calm_there : (k : ℕ) (w : s.Store) (l : s.Leaf) → IsWay k w → s.IsLeaf l → CalmUpto s (suc k) w w l → CalmUpto s (suc k) v w l
  calm_there k w l way il calm lt off on = calm lt (go (s.off l w) refl) on
    where
      go : (b : Bool) → s.off l w ≡ b → b ≡ false
      go true eb = absurd (true_false (sym (s.off-up l (s.level l) w v il (omega arith) (way.below (s.level l)) eb) ∙ off))
      go false eb = refl

  -- where nothing is left to tell of the levels up to k, stratum k stands too
  pub stratum-way : (k : ℕ) (w : s.Store) → IsWay k w → Each (CalmUpto s (suc k) w w) ls → IsWay (suc k) w
  stratum-way k w way calm = record {
    store = way.store;
    above = way.above;
    below = way.below;
    stands = output-least (suc k) w way.store (way.above (suc k)) (Each-both s.IsLeaf (CalmUpto s (suc k) w w) (CalmUpto s (suc k) v w) (λ l il c. calm_there k w l way il c) ls is calm);
  }

  -- and where all strata stand it is the output
  pub end-way : (w : s.Store) → IsWay s.strata w → w ≡ v
  end-way w way = s.one w v way.store out.store way.below (s.Upto-all v w way.stands)

  abbrev pub runs : s.Leaf → Bool
  runs l = not (s.off l v) && s.on l v

  -- the input and what these leaves tell
  abbrev pub tell_run : List s.Leaf → s.Store → s.Store
  tell_run [] w = w
  tell_run (l ∷ rest) w = tell_run rest (cond (runs l) (s.tell l w) w)

  record Told (some : List s.Leaf) (w after : s.Store) : Type 0 where
    store : s.IsStore after
    above : Below s w after
    below : Below s after v
    told : Each (λ l. IsTrue (runs l) → IsTrue (s.told l after)) some

  told_next : (l : s.Leaf) (w : s.Store) → s.IsLeaf l → s.IsStore w → Below s w v → LeafRests s v v l → (off on : Bool) → s.off l v ≡ off → s.on l v ≡ on
      → s.IsStore (cond (not off && on) (s.tell l w) w) × Below s w (cond (not off && on) (s.tell l w) w) × Below s (cond (not off && on) (s.tell l w) w) v
      × (IsTrue (not off && on) → IsTrue (s.told l (cond (not off && on) (s.tell l w) w)))
  told_next l w il iw below rests true on eo en = (iw, λ k. s.Upto-refl k w, below, λ h. absurd (true_false (sym h)))
  told_next l w il iw below rests false false eo en = (iw, λ k. s.Upto-refl k w, below, λ h. absurd (true_false (sym h)))
  told_next l w il iw below rests false true eo en =
      (s.tell-store l w il iw, s.tell-above l w il iw, λ k. s.tell-least l k w v il iw out.store (below k) (λ lt. (rests eo).1 en), λ h. s.tell-told l w il iw)

  tell_run-told : (rest : List s.Leaf) (w : s.Store) → Each s.IsLeaf rest → Each (LeafRests s v v) rest → s.IsStore w → Below s w v → Told rest w (tell_run rest w)
  tell_run-told [] w il r iw below = record { store = iw; above = λ k. s.Upto-refl k w; below = below; told = tt }
  tell_run-told (l ∷ rest) w il r iw below =
      let n = told_next l w il.0 iw below r.0 (s.off l v) (s.on l v) refl refl in
      let more = tell_run-told rest (cond (runs l) (s.tell l w) w) il.1 r.1 n.0 n.2 in
      record {
        store = more.store;
        above = λ k. s.Upto-trans k w _ _ (n.1 k) (more.above k);
        below = more.below;
        told = (λ h. s.told-up l _ _ il.0 more.above (n.3 h), more.told);
      }

  runs_by : (l : s.Leaf) (off on : Bool) → off ≡ false → on ≡ true → IsTrue (not off && on)
  runs_by l off on eo en = ap (λ b. not b && on) eo ∙ en

  -- the output is the input with what the leaves that it runs tell, and no more
  pub output-told : tell_run ls i ≡ v
  output-told =
      let t = tell_run-told ls i is out.rests ii out.above in
      s.one (tell_run ls i) v t.store out.store t.below (λ k.
      output-least k (tell_run ls i) t.store (t.above k)
      (Each-both s.IsLeaf (λ l. IsTrue (runs l) → IsTrue (s.told l (tell_run ls i))) (CalmUpto s k v (tell_run ls i))
      (λ l il told lt off on. told (runs_by l (s.off l v) (s.on l v) off (s.on-up l (suc (s.level l)) (tell_run ls i) v il (omega arith) (t.below (suc (s.level l))) on))) ls is t.told))
