-- The walk along numbers ends with the output exactly where they are those of a run, and at most one thing is the first that is wrong.
use Rattle.std.proofs.Common.{◌≡◌, ◌⊎◌, inl, inr, ℕ, ◌<◌, Bool, true, false, ◌&&◌, not, cond, List, [], ◌∷◌, Some, None, refl, sym, ap, ◌∙◌, subst, arith}
use Rattle.std.specs.Prelude.{IsTrue, Option, slice_get, nat_eq, ◌||◌}
use Rattle.std.specs.List.{list_all}
use Rattle.std.specs.declared.cmp.Ordering.{Ordering}
use Rattle.std.specs.declared.cmp.Ordering.TheVariants.{Less, Equal, Greater}
use Rattle.std.specs.Ordering.{ordering_reverse}
use Rattle.std.proofs.lemmas.Bool.{eqb-true}
use Rattle.token_system.specs.declared.name.CellName.{CellName}
use Rattle.token_system.specs.Names.{name_cmp, name_total, name_cmp-IsAntisymmetric}
use Rattle.token_system.specs.Stores.{StoreMap}
use Rattle.token_system.proofs.Alike.{true_false}
use Rattle.agent_core.specs.Programs.{CoreProgram}
use Rattle.agent_core.specs.Leaves.{Leaf}
use Rattle.agent_core.specs.Strata.{In}
use Rattle.agent_core.proofs.Bools.{both, first_of_both, second_of_both}
use Rattle.agent_laws.specs.LeafRests.{asked, free}
use Rattle.certificate_laws.specs.Justified.{is_tell, after_leaf, IsJustified}
use Rattle.certificate_laws.specs.Certificates.{Leads}
use Rattle.certificate_laws.specs.LeafNumbers.{StandAt, AreDistinct, AreListed, IsCertificate}
use Rattle.certificate_laws.specs.Reasons.{is_justified, is_listed, Walk, Stops, Ends, may_follow, told_after, walk, IsFirstDifference, IsUnlisted, IsLeastUnlisted, Wrong, Unjustified, NoJoin, NotListed, IsFirstWrong, HasExactReasons}

-- WHETHER A NUMBER IS LISTED

listed-in : (n : ℕ) (ns : List ℕ) → is_listed n ns ≡ true → In n ns
listed-in n [] e = absurd (true_false (sym e))
listed-in n (m ∷ ns) e = go (λ h. listed-in n ns h) (nat_eq n m) refl e
  where
    go : (is_listed n ns ≡ true → In n ns) → (b : Bool) → nat_eq n m ≡ b → (b || is_listed n ns) ≡ true → In n (m ∷ ns)
    go later true same h = inl (eqb-true n m same)
    go later false other h = inr (later h)

in-listed : (n : ℕ) (ns : List ℕ) → In n ns → is_listed n ns ≡ true
in-listed n [] i = absurd i
in-listed n (m ∷ ns) (inl e) = ap (λ b. b || is_listed n ns) (subst (λ (k : ℕ). nat_eq n k ≡ true) e (same n))
  where
    same : (k : ℕ) → nat_eq k k ≡ true
    same k = grind arith
in-listed n (m ∷ ns) (inr i) = go (nat_eq n m) (in-listed n ns i)
  where
    go : (b : Bool) → is_listed n ns ≡ true → (b || is_listed n ns) ≡ true
    go true h = refl
    go false h = h

-- a number of another part of a list
in_tail : (n m : ℕ) (ns : List ℕ) → In n (m ∷ ns) → (n ≡ m → ⊥) → In n ns
in_tail n m ns (inl e) off = absurd (off e)
in_tail n m ns (inr i) off = i

module _ (p : CoreProgram) (ls : List Leaf) (v : StoreMap) where
  justified-test : (u : StoreMap) (l : Leaf) → IsJustified p u v l → is_justified p u v l ≡ true
  justified-test u l j = (both (is_tell l.agent) _ j.tells (both (list_all (asked p u) l.path) (list_all (free p v) l.path) j.asked j.free))

  test-justified : (u : StoreMap) (l : Leaf) → IsTrue (is_justified p u v l) → IsJustified p u v l
  test-justified u l e =
      let path = second_of_both (is_tell l.agent) (list_all (asked p u) l.path && list_all (free p v) l.path) e in
      record {
        tells = first_of_both (is_tell l.agent) (list_all (asked p u) l.path && list_all (free p v) l.path) e;
        asked = first_of_both (list_all (asked p u) l.path) (list_all (free p v) l.path) path;
        free = second_of_both (list_all (asked p u) l.path) (list_all (free p v) l.path) path;
      }

  -- the numbers of a run, each once and none of those before, are walked to the end
  pub walk-ends : (before ns : List ℕ) (run : List Leaf) (u w : StoreMap) → StandAt ls ns run → Leads p v run u w → AreDistinct ns → ((n : ℕ) → In n ns → In n before → ⊥) → walk p ls v before ns u ≡ Ends w
  walk-ends before [] [] u w at leads once apart = ap Ends leads
  walk-ends before [] (l ∷ run) u w at leads once apart = absurd at
  walk-ends before (n ∷ ns) [] u w at leads once apart = absurd at
  walk-ends before (n ∷ ns) (l ∷ run) u w at leads once apart =
      ap (λ o. cond (may_follow p u v before n o) (walk p ls v (n ∷ before) ns (told_after p o u)) (Stops n)) at.0
      ∙ ap (λ b. cond b (walk p ls v (n ∷ before) ns (after_leaf p l u)) (Stops n)) (both (not (is_listed n before)) (is_justified p u v l) (new (is_listed n before) refl) (justified-test u l leads.0))
      ∙ walk-ends (n ∷ before) ns run (after_leaf p l u) w at.1 leads.1 once.1 later
    where
      new : (b : Bool) → is_listed n before ≡ b → not b ≡ true
      new true e = absurd (apart n (inl refl) (listed-in n before e))
      new false e = refl

      later : (m : ℕ) → In m ns → In m (n ∷ before) → ⊥
      later m i (inl e) = once.0 (subst (λ (k : ℕ). In k ns) e i)
      later m i (inr j) = apart m (inr i) j

  -- what a walk to the end shows
  pub record Walked (before ns : List ℕ) (u w : StoreMap) : Type 0 where
    pub run : List Leaf
    pub numbered : StandAt ls ns run
    pub leads : Leads p v run u w
    pub once : AreDistinct ns
    pub apart : (n : ℕ) → In n ns → In n before → ⊥

  abbrev WalkedOn : List ℕ → List ℕ → StoreMap → Type 0
  WalkedOn before ns w = (u : StoreMap) → walk p ls v before ns u ≡ Ends w → Walked before ns u w

  walked_on : (before : List ℕ) (n : ℕ) (ns : List ℕ) (l : Leaf) (u w : StoreMap) → slice_get ls n ≡ Some l → IsTrue (not (is_listed n before) && is_justified p u v l) → Walked (n ∷ before) ns (after_leaf p l u) w → Walked before (n ∷ ns) u w
  walked_on before n ns l u w at follow rest = record {
    run = l ∷ rest.run;
    numbered = (at, rest.numbered);
    leads = (test-justified u l (second_of_both (not (is_listed n before)) (is_justified p u v l) follow), rest.leads);
    once = (λ i. rest.apart n i (inl refl), rest.once);
    apart = sides;
  }
    where
      new : (b : Bool) → is_listed n before ≡ b → not b ≡ true → b ≡ true → ⊥
      new true e off on = true_false (sym off)
      new false e off on = true_false (sym on)

      sides : (m : ℕ) → In m (n ∷ ns) → In m before → ⊥
      sides m (inl e) j = new (is_listed n before) refl (first_of_both (not (is_listed n before)) (is_justified p u v l) follow) (in-listed n before (subst (λ (k : ℕ). In k before) e j))
      sides m (inr i) j = rest.apart m i (inr j)

  pub ends-walked : (before ns : List ℕ) (u w : StoreMap) → walk p ls v before ns u ≡ Ends w → Walked before ns u w
  ends-walked before [] u w e = record { run = []; numbered = tt; leads = (let same : u ≡ w = cc in same); once = tt; apart = λ n i j. absurd i }
  ends-walked before (n ∷ ns) u w e = go (λ x h. ends-walked (n ∷ before) ns x w h) (slice_get ls n) refl e
    where
      stopped : Stops n ≡ Ends w → ⊥
      stopped e = absurd (cc)

      tested : WalkedOn (n ∷ before) ns w → (l : Leaf) → slice_get ls n ≡ Some l → (b : Bool) → (not (is_listed n before) && is_justified p u v l) ≡ b → cond b (walk p ls v (n ∷ before) ns (after_leaf p l u)) (Stops n) ≡ Ends w → Walked before (n ∷ ns) u w
      tested more l at true f h = walked_on before n ns l u w at f (more (after_leaf p l u) h)
      tested more l at false f h = absurd (stopped h)

      go : WalkedOn (n ∷ before) ns w → (o : Option Leaf) → slice_get ls n ≡ o → cond (may_follow p u v before n o) (walk p ls v (n ∷ before) ns (told_after p o u)) (Stops n) ≡ Ends w → Walked before (n ∷ ns) u w
      go more None at h = absurd (stopped h)
      go more (Some l) at h = tested more l at (not (is_listed n before) && is_justified p u v l) refl h

-- AT MOST ONE

-- of two names at which stores first differ each is the other
one_difference : (v w : StoreMap) (m n : CellName) → IsFirstDifference v w m → IsFirstDifference v w n → m ≡ n
one_difference v w m n a b = go (name_cmp m n) refl
  where
    go : (o : Ordering) → name_cmp m n ≡ o → m ≡ n
    go Less e = absurd (a.differs (b.first m e))
    go Equal e = name_cmp-IsAntisymmetric m n e
    go Greater e = absurd (b.differs (a.first n (name_total.antisymm n m ∙ ap ordering_reverse e)))

no_difference : (v : StoreMap) (n : CellName) → IsFirstDifference v v n → ⊥
no_difference v n d = d.differs refl

module _ (p : CoreProgram) (ls : List Leaf) (i v : StoreMap) (numbers : List ℕ) where
  abbrev along : Walk
  along = walk p ls v [] numbers i

  stops-ends : (n : ℕ) (w : StoreMap) → along ≡ Stops n → along ≡ Ends w → ⊥
  stops-ends n w a b = let same : Stops n ≡ Ends w = sym a ∙ b in absurd (cc)

  stops-one : (m n : ℕ) → along ≡ Stops m → along ≡ Stops n → m ≡ n
  stops-one m n a b = let same : Stops m ≡ Stops n = sym a ∙ b in cc

  ends-one : (u w : StoreMap) → along ≡ Ends u → along ≡ Ends w → u ≡ w
  ends-one u w a b = let same : Ends u ≡ Ends w = sym a ∙ b in cc

  one_unlisted : (m n : ℕ) → IsLeastUnlisted p ls v numbers m → IsLeastUnlisted p ls v numbers n → m ≡ n
  one_unlisted m n a b = go (apart m n)
    where
      apart : (m n : ℕ) → (m < n) ⊎ ((n < m) ⊎ (m ≡ n))
      apart m n = grind arith

      go : (m < n) ⊎ ((n < m) ⊎ (m ≡ n)) → m ≡ n
      go (inl lt) = absurd (b.least m lt a.unlisted)
      go (inr (inl lt)) = absurd (a.least n lt b.unlisted)
      go (inr (inr e)) = e

  -- a store that is walked to is no other than v
  no_join-ends : (name : CellName) → IsFirstWrong p ls i v numbers (NoJoin name) → along ≡ Ends v → ⊥
  no_join-ends name wrong e = no_difference v name (subst (λ (w : StoreMap). IsFirstDifference v w name) (ends-one wrong.0 v wrong.1 e) wrong.2)

  one_wrong : (a b : Wrong) → IsFirstWrong p ls i v numbers a → IsFirstWrong p ls i v numbers b → a ≡ b
  one_wrong (Unjustified m) (Unjustified n) a b = ap Unjustified (stops-one m n a b)
  one_wrong (Unjustified m) (NoJoin n) a b = absurd (stops-ends m b.0 a b.1)
  one_wrong (Unjustified m) (NotListed n) a b = absurd (stops-ends m v a b.0)
  one_wrong (NoJoin m) (Unjustified n) a b = absurd (stops-ends n a.0 b a.1)
  one_wrong (NoJoin m) (NoJoin n) a b = ap NoJoin (one_difference v a.0 m n a.2 (subst (λ (w : StoreMap). IsFirstDifference v w n) (ends-one b.0 a.0 b.1 a.1) b.2))
  one_wrong (NoJoin m) (NotListed n) a b = absurd (no_join-ends m a b.0)
  one_wrong (NotListed m) (Unjustified n) a b = absurd (stops-ends n v b a.0)
  one_wrong (NotListed m) (NoJoin n) a b = absurd (no_join-ends n b a.0)
  one_wrong (NotListed m) (NotListed n) a b = ap NotListed (one_unlisted m n a.1 b.1)

  -- A CERTIFICATE, OR SOMETHING WRONG

  ends-v : IsCertificate p ls i v numbers → along ≡ Ends v
  ends-v c = walk-ends p ls v [] numbers c.run i v c.numbered c.leads c.once (λ n at none. none)

  never_both : IsCertificate p ls i v numbers → (wrong : Wrong) → IsFirstWrong p ls i v numbers wrong → ⊥
  never_both c (Unjustified n) h = stops-ends n v h (ends-v c)
  never_both c (NoJoin name) h = no_join-ends name h (ends-v c)
  never_both c (NotListed n) h = h.1.unlisted.missing (c.listed n h.1.unlisted.leaf h.1.unlisted.found h.1.unlisted.tells h.1.unlisted.runs)

  nothing_wrong : along ≡ Ends v → ((n : ℕ) → IsUnlisted p ls v numbers n → ⊥) → IsCertificate p ls i v numbers
  nothing_wrong e whole =
      let walked = ends-walked p ls v [] numbers i v e in
      record { once = walked.once; run = walked.run; numbered = walked.numbered; leads = walked.leads; listed = listed }
    where
      listed : AreListed p ls v numbers
      listed n l at e r = go (is_listed n numbers) refl
        where
          go : (b : Bool) → is_listed n numbers ≡ b → In n numbers
          go true t = listed-in n numbers t
          go false f = absurd (whole n (record { leaf = l; found = at; tells = e; runs = r; missing = λ i. true_false (sym (in-listed n numbers i) ∙ f) }))

  pub exact_reasons : HasExactReasons p ls i v numbers
  exact_reasons = record { certificate = nothing_wrong; not_both = never_both; one = one_wrong }
