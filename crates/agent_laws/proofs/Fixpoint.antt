-- A stratified list of leaves has exactly one output: the one fixpoint of "the least store that rests under a guess".
use Rattle.std.proofs.Common.{◌≡◌, ℕ, zero, suc, ◌<◌, ◌≤◌, Bool, true, false, cond, List, [], ◌∷◌, refl, sym, ◌∙◌, subst, arith}
use Rattle.std.specs.Prelude.{IsTrue}
use Rattle.token_system.proofs.Alike.{true_false}
use Rattle.agent_core.specs.Strata.{Each}
use Rattle.agent_laws.proofs.Eachs.{Each-map, Each-both}
use Rattle.agent_laws.proofs.System.{System}

module _ (s : System) where
  abbrev pub Below : s.Store → s.Store → Type 0
  Below u w = (k : ℕ) → s.Upto k u w

  -- the leaf rests under u where the guess is g, as far as u is concerned
  abbrev pub Calm : s.Store → s.Store → s.Leaf → Type 0
  Calm g u l = s.off l g ≡ false → IsTrue (s.on l u) → IsTrue (s.told l u)

  -- the same of the levels below k alone
  abbrev pub CalmUpto : ℕ → s.Store → s.Store → s.Leaf → Type 0
  CalmUpto k g u l = s.level l < k → s.off l g ≡ false → IsTrue (s.on l u) → IsTrue (s.told l u)

  -- (u, g) rests for the leaf
  abbrev pub LeafRests : s.Store → s.Store → s.Leaf → Type 0
  LeafRests g u l = s.off l g ≡ false → (IsTrue (s.on l u) → IsTrue (s.told l u)) × (IsTrue (s.on l g) → IsTrue (s.told l g))

  -- v is an output of the leaves on i
  pub record IsOutput (ls : List s.Leaf) (i v : s.Store) : Type 0 where
    pub store : s.IsStore v
    pub above : Below i v
    pub rests : Each (LeafRests v v) ls
    pub least : (u : s.Store) → s.IsStore u → Below i u → Below u v → Each (LeafRests v u) ls → u ≡ v

  -- the least store above u that is calm for the guess
  abbrev pub close : s.Store → List s.Leaf → s.Store → s.Store
  close g [] u = u
  close g (l ∷ ls) u =
      let c = close g ls u in
      cond (s.off l g) c (cond (s.on l c) (close g ls (s.tell l c)) c)

  pub record Closed (g : s.Store) (ls : List s.Leaf) (u c : s.Store) : Type 0 where
    pub store : s.IsStore c
    pub above : Below u c
    pub calm : Each (Calm g c) ls
    pub least : (k : ℕ) (w : s.Store) → s.IsStore w → s.Upto k u w → Each (CalmUpto k g w) ls → s.Upto k c w

  step : (g : s.Store) (l : s.Leaf) (ls : List s.Leaf) (u c : s.Store) → s.IsLeaf l → Closed g ls u c
      → Closed g ls (s.tell l c) (close g ls (s.tell l c))
      → (off on : Bool) → s.off l g ≡ off → s.on l c ≡ on → Closed g (l ∷ ls) u (cond off c (cond on (close g ls (s.tell l c)) c))
  step g l ls u c is one two true on eo en = record {
    store = one.store;
    above = one.above;
    calm = (λ e h. absurd (true_false (sym eo ∙ e)), one.calm);
    least = λ k w iw below h. one.least k w iw below h.1;
  }
  step g l ls u c is one two false false eo en = record {
    store = one.store;
    above = one.above;
    calm = (λ e h. absurd (true_false (sym h ∙ en)), one.calm);
    least = λ k w iw below h. one.least k w iw below h.1;
  }
  step g l ls u c is one two false true eo en = record {
    store = two.store;
    above = λ k. s.Upto-trans k u c _ (one.above k) (s.Upto-trans k c (s.tell l c) _ (s.tell-above l c is one.store k) (two.above k));
    calm = (λ e h. s.told-up l (s.tell l c) _ is two.above (s.tell-told l c is one.store), two.calm);
    least = λ k w iw below h.
        let low = one.least k w iw below h.1 in
        two.least k w iw (s.tell-least l k c w is one.store iw low (λ lt. h.0 lt eo (s.on-up l k c w is lt low en))) h.1;
  }

  pub closed : (g : s.Store) (ls : List s.Leaf) (u : s.Store) → Each s.IsLeaf ls → s.IsStore u → Closed g ls u (close g ls u)
  closed g [] u is iu = record { store = iu; above = λ k. s.Upto-refl k u; calm = tt; least = λ k w iw below h. below }
  closed g (l ∷ ls) u is iu =
      let one = closed g ls u is.1 iu in
      let c : s.Store = close g ls u in
      step g l ls u c is.0 one (closed g ls (s.tell l c) is.1 (s.tell-store l c is.0 one.store)) (s.off l g) (s.on l c) refl refl

  module _ (ls : List s.Leaf) (i : s.Store) (is : Each s.IsLeaf ls) (ii : s.IsStore i) where
    -- what is told from a guess
    abbrev pub told_from : s.Store → s.Store
    told_from g = close g ls i

    still_off : (l : s.Leaf) (k : ℕ) (g h : s.Store) → s.IsLeaf l → s.level l < suc k → s.Upto k h g → s.off l g ≡ false → (b : Bool) → s.off l h ≡ b → b ≡ false
    still_off l k g h il lt hg e true eb =
        let le : s.level l ≤ k = omega arith in
        absurd (true_false (sym (s.off-up l k h g il le hg eb) ∙ e))
    still_off l k g h il lt hg e false eb = refl

    -- guesses that agree below stratum k tell the same below the next one
    pub agree : (k : ℕ) (g h : s.Store) → s.Upto k h g → s.Upto (suc k) (told_from g) (told_from h)
    agree k g h hg =
        let a = closed g ls i is ii in
        let b = closed h ls i is ii in
        a.least (suc k) (told_from h) b.store (b.above (suc k))
        (Each-both s.IsLeaf (Calm h (told_from h)) (CalmUpto (suc k) g (told_from h))
        (λ l il calm lt e on. calm (still_off l k g h il lt hg e (s.off l h) refl) on) ls is b.calm)

    -- after k rounds the strata below k stand
    abbrev pub rounds : ℕ → s.Store
    rounds zero = i
    rounds (suc k) = told_from (rounds k)

    rounds-store : (k : ℕ) → s.IsStore (rounds k)
    rounds-store zero = ii
    rounds-store (suc k) = (closed (rounds k) ls i is ii).store

    rounds-agree : (k : ℕ) → s.Upto k (rounds (suc k)) (rounds k) × s.Upto k (rounds k) (rounds (suc k))
    rounds-agree zero = (s.Upto-none _ _, s.Upto-none _ _)
    rounds-agree (suc k) =
        let h = rounds-agree k in
        (agree k (rounds (suc k)) (rounds k) h.1, agree k (rounds k) (rounds (suc k)) h.0)

    abbrev pub output : s.Store
    output = rounds s.strata

    pub output-fixed : told_from output ≡ output
    output-fixed =
        let h = rounds-agree s.strata in
        s.one (told_from output) output (rounds-store (suc s.strata)) (rounds-store s.strata)
        (s.Upto-all _ _ h.0) (s.Upto-all _ _ h.1)

    -- a fixpoint is an output
    pub fixed-output : (v : s.Store) → s.IsStore v → told_from v ≡ v → IsOutput ls i v
    fixed-output v iv e =
        let c = closed v ls i is ii in
        let calm : Each (Calm v v) ls = subst (λ (x : s.Store). Each (Calm v x) ls) e c.calm in
        record {
          store = iv;
          above = subst (λ (x : s.Store). Below i x) e c.above;
          rests = Each-map (Calm v v) (LeafRests v v) (λ l h off. (h off, h off)) ls calm;
          least = λ u iu low high h.
              s.one u v iu iv high (λ k.
              subst (λ (x : s.Store). s.Upto k x u) e
              (c.least k u iu (low k) (Each-map (LeafRests v u) (CalmUpto k v u) (λ l r lt off on. (r off).0 on) ls h)));
        }

    -- and an output is a fixpoint
    pub output-is_fixed : (v : s.Store) → IsOutput ls i v → told_from v ≡ v
    output-is_fixed v out =
        let c = closed v ls i is ii in
        out.least (told_from v) c.store c.above
        (λ k. c.least k v out.store (out.above k) (Each-map (LeafRests v v) (CalmUpto k v v) (λ l r lt off on. (r off).0 on) ls out.rests))
        (Each-both (Calm v (told_from v)) (LeafRests v v) (LeafRests v (told_from v)) (λ l calm r off. (calm off, (r off).1)) ls c.calm out.rests)

    fixed_agree : (v w : s.Store) → told_from v ≡ v → told_from w ≡ w → (k : ℕ) → s.Upto k v w × s.Upto k w v
    fixed_agree v w ev ew zero = (s.Upto-none v w, s.Upto-none w v)
    fixed_agree v w ev ew (suc k) =
        let h = fixed_agree v w ev ew k in (
          subst (λ (x : s.Store). s.Upto (suc k) x w) ev (subst (λ (x : s.Store). s.Upto (suc k) (told_from v) x) ew (agree k v w h.1)),
          subst (λ (x : s.Store). s.Upto (suc k) x v) ew (subst (λ (x : s.Store). s.Upto (suc k) (told_from w) x) ev (agree k w v h.0)),
        )

    pub has_output : IsOutput ls i output
    has_output = fixed-output output (rounds-store s.strata) output-fixed

    pub one_output : (v w : s.Store) → IsOutput ls i v → IsOutput ls i w → v ≡ w
    one_output v w ov ow =
        let h = fixed_agree v w (output-is_fixed v ov) (output-is_fixed w ow) in
        s.one v w ov.store ow.store (λ k. (h k).0) (λ k. (h k).1)
