-- A leaf that an agent leads to, which was started some instants ago, and what the agent observes where the leaf is run. Both
-- go down to the part of the agent from which the leaf comes.
use Rattle.std.proofs.Common.{◌≡◌, ◌⊎◌, inl, inr, ℕ, suc, ◌+◌, ◌-◌, true, ◌&&◌, not, List, [], ◌∷◌, ◌++◌, length, length-append, sym, ap, ◌∙◌, subst, arith, append_assoc}
use Rattle.std.specs.Prelude.{Contains, IsTrue}
use Rattle.std.specs.List.{list_all}
use Rattle.std.proofs.lemmas.List.{append-nil}
use Rattle.std.proofs.lemmas.List.Folds.{list_all-append}
use Rattle.std.proofs.lemmas.List.Elements.{Contains-append_cases, Contains-push}
use Rattle.token_system.specs.Stores.{StoreMap}
use Rattle.agent_core.specs.declared.node.Closure.{Closure}
use Rattle.agent_core.specs.Agents.{Agent, Constraint, Skip, Tell, Then, Else, Par, New, Hence, Next, agent_at}
use Rattle.agent_core.specs.Programs.{CoreProgram}
use Rattle.agent_core.specs.Listing.{size}
use Rattle.agent_core.specs.Rests.{◌⇒◌, entails, agent_rests}
use Rattle.agent_core.specs.RestsAfter.{suffixes, rests_after}
use Rattle.agent_core.specs.Closures.{closure, started}
use Rattle.agent_core.specs.Leaves.{Guard, Positive, Negative, Leaf, leaf, leaves_of, allows, runs}
use Rattle.agent_core.proofs.Bools.{first_of_both, second_of_both, by_premise}
use Rattle.expansion_laws.proofs.Members.{first_or, only_in, none_in, flat_in, then_in, else_in, all_in}

-- a suffix is what is left behind some front
suffix_of : (z y : List StoreMap) → Contains (suffixes z) y → (front : List StoreMap) × (z ≡ front ++ y)
suffix_of [] y c = ([], only_in [] y c)
suffix_of (w ∷ z) y c = go (suffix_of z y) (first_or (w ∷ z) y (suffixes z) c)
  where
    go : (Contains (suffixes z) y → (front : List StoreMap) × (z ≡ front ++ y)) → ((w ∷ z) ≡ y) ⊎ Contains (suffixes z) y → (front : List StoreMap) × ((w ∷ z) ≡ front ++ y)
    go rest (inl same) = ([], same)
    go rest (inr other) = let r = rest other in (w ∷ r.0, ap (λ (xs : List StoreMap). w ∷ xs) r.1)

module _ (p : CoreProgram) (l : Leaf) where
  -- the leaf is reached now from the agent of node n, which was started at s under births b, where these are the closed stores since s
  abbrev pub Comes : List StoreMap → Agent → ℕ → List ℕ → ℕ → Type 0
  Comes [] a n b s = (path : List Guard) × Contains (leaves_of s a n b path) l
  Comes (w ∷ y) a n b s = (r : Closure) × Contains (started p (w ∷ y) a n b s) r × Contains (leaves_of (s + length (w ∷ y)) (agent_at p.nodes r.node) r.node r.births []) l

  pub comes_started : (y : List StoreMap) (a : Agent) (n : ℕ) (b : List ℕ) (s t : ℕ) (r : Closure) → agent_at p.nodes n ≡ a → s + length y ≡ t
      → Contains (started p y a n b s) r → Contains (leaves_of t (agent_at p.nodes r.node) r.node r.births []) l → Comes y a n b s
  comes_started [] a n b s t r is e c k =
      let same : closure n b ≡ r = only_in (closure n b) r c in
      let at : Contains (leaves_of t (agent_at p.nodes n) n b []) l = subst (λ (q : Closure). Contains (leaves_of t (agent_at p.nodes q.node) q.node q.births []) l) (sym same) k in
      let now : t ≡ s = omega arith in
      ([], subst (λ (x : Agent). Contains (leaves_of s x n b []) l) is (subst (λ (m : ℕ). Contains (leaves_of m (agent_at p.nodes n) n b []) l) now at))
  comes_started (w ∷ y) a n b s t r is e c k = (r, c, subst (λ (m : ℕ). Contains (leaves_of m (agent_at p.nodes r.node) r.node r.births []) l) (sym e) k)

  -- the path to an agent begins the paths of its leaves
  pub passed : (a : Agent) (t n : ℕ) (b : List ℕ) (path : List Guard) → Contains (leaves_of t a n b path) l → (rest : List Guard) × (l.path ≡ path ++ rest)
  passed Skip t n b path c = ([], ap (λ (x : Leaf). x.path) (sym (only_in (leaf n Skip b path) l c)) ∙ sym (append-nil path))
  passed (Tell q) t n b path c = ([], ap (λ (x : Leaf). x.path) (sym (only_in (leaf n (Tell q) b path) l c)) ∙ sym (append-nil path))
  passed (Hence a) t n b path c = ([], ap (λ (x : Leaf). x.path) (sym (only_in (leaf n (Hence a) b path) l c)) ∙ sym (append-nil path))
  passed (Next a) t n b path c = ([], ap (λ (x : Leaf). x.path) (sym (only_in (leaf n (Next a) b path) l c)) ∙ sym (append-nil path))
  passed (Then q a) t n b path c = let r = passed a t (suc n) b (path ++ Positive b q ∷ []) c in (Positive b q ∷ r.0, r.1 ∙ append_assoc path (Positive b q ∷ []) r.0)
  passed (Else q a) t n b path c = let r = passed a t (suc n) b (path ++ Negative b q ∷ []) c in (Negative b q ∷ r.0, r.1 ∙ append_assoc path (Negative b q ∷ []) r.0)
  passed (New cell a) t n b path c = passed a t (suc n) (b ++ t ∷ []) path c
  passed (Par x y) t n b path c = go (passed x t (suc n) b path) (passed y t (suc n + size x) b path) (Contains-append_cases (leaves_of t x (suc n) b path) (leaves_of t y (suc n + size x) b path) l c)
    where
      go : (Contains (leaves_of t x (suc n) b path) l → (rest : List Guard) × (l.path ≡ path ++ rest)) → (Contains (leaves_of t y (suc n + size x) b path) l → (rest : List Guard) × (l.path ≡ path ++ rest))
          → Contains (leaves_of t x (suc n) b path) l ⊎ Contains (leaves_of t y (suc n + size x) b path) l → (rest : List Guard) × (l.path ≡ path ++ rest)
      go f g (inl left) = f left
      go f g (inr right) = g right

  -- a store that runs the leaf passes the last guard above an agent
  pub last_passed : (v : StoreMap) (a : Agent) (t n : ℕ) (b : List ℕ) (path : List Guard) (g : Guard) → Contains (leaves_of t a n b (path ++ g ∷ [])) l → IsTrue (runs p v l) → IsTrue (allows p v g)
  last_passed v a t n b path g c r =
      let rest = passed a t n b (path ++ g ∷ []) c in
      let whole : list_all (allows p v) l.path ≡ (list_all (allows p v) (path ++ g ∷ []) && list_all (allows p v) rest.0) =
      ap (list_all (allows p v)) rest.1 ∙ list_all-append (allows p v) (path ++ g ∷ []) rest.0 in
      let front = first_of_both (list_all (allows p v) (path ++ g ∷ [])) (list_all (allows p v) rest.0) (sym whole ∙ r) in
      let parts : IsTrue (list_all (allows p v) path && (allows p v g && true)) = sym (list_all-append (allows p v) path (g ∷ [])) ∙ front in
      first_of_both (allows p v g) true (second_of_both (list_all (allows p v) path) (allows p v g && true) parts)

module _ (p : CoreProgram) (v : StoreMap) where
  -- what a par observes both of its parts do
  pub both_observe : (y : List StoreMap) (a a' : Agent) (b : List ℕ) (s : ℕ) → IsTrue (rests_after p v v y (Par a a') b s) → IsTrue (rests_after p v v y a b s) × IsTrue (rests_after p v v y a' b s)
  both_observe [] a a' b s h = (first_of_both (agent_rests p s v a b v) (agent_rests p s v a' b v) h, second_of_both (agent_rests p s v a b v) (agent_rests p s v a' b v) h)
  both_observe (w ∷ y) a a' b s h =
      (first_of_both (rests_after p v v (w ∷ y) a b s) (rests_after p v v (w ∷ y) a' b s) h, second_of_both (rests_after p v v (w ∷ y) a b s) (rests_after p v v (w ∷ y) a' b s) h)

-- The leaf comes of the agent, which was started at s when all but these last stores were still to be closed; and where v
-- runs the leaf, the agent rests under v.
pub record Leads (p : CoreProgram) (z : List StoreMap) (v : StoreMap) (l : Leaf) (y : List StoreMap) (a : Agent) (n : ℕ) (b : List ℕ) (s : ℕ) : Type 0 where
  pub front : List StoreMap
  pub whole : z ≡ front ++ y
  pub long : length front ≡ s
  pub comes : Comes p l y a n b s
  pub rests : IsTrue (runs p v l) → IsTrue (rests_after p v v y a b s)

module _ (p : CoreProgram) (z : List StoreMap) (v : StoreMap) (l : Leaf) where
  abbrev pub Leaded : List StoreMap → Agent → ℕ → List ℕ → ℕ → Type 0
  Leaded = Leads p z v l

  pub leads_then : (y : List StoreMap) (c : Constraint) (a : Agent) (n : ℕ) (b : List ℕ) (s : ℕ) → Leaded y (Then c a) n b s → Leaded y a (suc n) b s
  leads_then [] c a n b s h = record {
    front = h.front;
    whole = h.whole;
    long = h.long;
    comes = (h.comes.0 ++ Positive b c ∷ [], h.comes.1);
    rests = λ r.
        by_premise (entails p b v c) (agent_rests p s v a b v)
        (first_of_both (entails p b v c ⇒ agent_rests p s v a b v) (entails p b v c ⇒ agent_rests p s v a b v) (h.rests r))
        (last_passed p l v a s (suc n) b h.comes.0 (Positive b c) h.comes.1 r);
  }
  leads_then (w ∷ y) c a n b s h =
      let k = h.comes in
      let t = then_in (entails p b w c) (started p (w ∷ y) a (suc n) b s) k.0 k.1 in
      record {
        front = h.front;
        whole = h.whole;
        long = h.long;
        comes = (k.0, t.1, k.2);
        rests = λ r. by_premise (entails p b w c) (rests_after p v v (w ∷ y) a b s) (h.rests r) t.0;
      }

  leads_else-now : (c : Constraint) (a : Agent) (n : ℕ) (b : List ℕ) (s : ℕ) (path : List Guard) → Contains (leaves_of s a (suc n) b (path ++ Negative b c ∷ [])) l
      → (IsTrue (runs p v l) → IsTrue (not (entails p b v c) ⇒ agent_rests p s v a b v)) → IsTrue (runs p v l) → IsTrue (agent_rests p s v a b v)
  leads_else-now c a n b s path k f r = by_premise (not (entails p b v c)) (agent_rests p s v a b v) (f r) (last_passed p l v a s (suc n) b path (Negative b c) k r)

  pub leads_else : (y : List StoreMap) (c : Constraint) (a : Agent) (n : ℕ) (b : List ℕ) (s : ℕ) → Leaded y (Else c a) n b s → Leaded y a (suc n) b s
  leads_else [] c a n b s h = record {
    front = h.front;
    whole = h.whole;
    long = h.long;
    comes = (h.comes.0 ++ Negative b c ∷ [], h.comes.1);
    rests = leads_else-now c a n b s h.comes.0 h.comes.1 h.rests;
  }
  leads_else (w ∷ y) c a n b s h =
      let k = h.comes in
      let t = else_in (entails p b w c) (started p (w ∷ y) a (suc n) b s) k.0 k.1 in
      record {
        front = h.front;
        whole = h.whole;
        long = h.long;
        comes = (k.0, t.1, k.2);
        rests = λ r. by_premise (not (entails p b w c)) (rests_after p v v (w ∷ y) a b s) (h.rests r) (ap not t.0);
      }

  pub leads_new : (y : List StoreMap) (cell : ℕ) (a : Agent) (n : ℕ) (b : List ℕ) (s : ℕ) → Leaded y (New cell a) n b s → Leaded y a (suc n) (b ++ s ∷ []) s
  leads_new [] cell a n b s h = record { front = h.front; whole = h.whole; long = h.long; comes = h.comes; rests = h.rests }
  leads_new (w ∷ y) cell a n b s h = record { front = h.front; whole = h.whole; long = h.long; comes = h.comes; rests = h.rests }

  pub leads_par : (y : List StoreMap) (a a' : Agent) (n : ℕ) (b : List ℕ) (s : ℕ) → Leaded y (Par a a') n b s → Leaded y a (suc n) b s ⊎ Leaded y a' (suc n + size a) b s
  leads_par y a a' n b s h = go (part_comes y h.comes)
    where
      part_comes : (y : List StoreMap) → Comes p l y (Par a a') n b s → Comes p l y a (suc n) b s ⊎ Comes p l y a' (suc n + size a) b s
      part_comes [] k = elim (Contains-append_cases (leaves_of s a (suc n) b k.0) (leaves_of s a' (suc n + size a) b k.0) l k.1) [
        | inl left ↦ inl (k.0, left)
        | inr right ↦ inr (k.0, right)
      ]
      part_comes (w ∷ y) k = elim (Contains-append_cases (started p (w ∷ y) a (suc n) b s) (started p (w ∷ y) a' (suc n + size a) b s) k.0 k.1) [
        | inl left ↦ inl (k.0, left, k.2)
        | inr right ↦ inr (k.0, right, k.2)
      ]

      go : Comes p l y a (suc n) b s ⊎ Comes p l y a' (suc n + size a) b s → Leaded y a (suc n) b s ⊎ Leaded y a' (suc n + size a) b s
      go (inl k) = inl (record { front = h.front; whole = h.whole; long = h.long; comes = k; rests = λ r. (both_observe p v y a a' b s (h.rests r)).0 })
      go (inr k) = inr (record { front = h.front; whole = h.whole; long = h.long; comes = k; rests = λ r. (both_observe p v y a a' b s (h.rests r)).1 })

  -- A tell is no leaf of the instant at which a hence or a next above it is started; so it comes of the body, started later.
  module _ (told : Constraint) (tells : l.agent ≡ Tell told) where
    pub leads_next : (y : List StoreMap) (a : Agent) (n : ℕ) (b : List ℕ) (s : ℕ) → agent_at p.nodes (suc n) ≡ a → Leaded y (Next a) n b s → (x : List StoreMap) × (t : ℕ) × Leaded x a (suc n) b t
    leads_next [] a n b s is h = absurd (let e : leaf n (Next a) b h.comes.0 ≡ l = only_in _ l h.comes.1 in let f : Next a ≡ Tell told = ap (λ (x : Leaf). x.agent) e ∙ tells in cc)
    leads_next (w ∷ y) a n b s is h =
        let k = h.comes in
        let long = h.long in (
          y,
          s + 1,
          record {
            front = h.front ++ w ∷ [];
            whole = h.whole ∙ sym (append_assoc h.front (w ∷ []) y);
            long = omega (arith, length-append h.front (w ∷ []));
            comes = comes_started p l y a (suc n) b (s + 1) (s + length (w ∷ y)) k.0 is (omega arith) k.1 k.2;
            rests = h.rests;
          },
        )

    pub leads_hence : (y : List StoreMap) (a : Agent) (n : ℕ) (b : List ℕ) (s : ℕ) → agent_at p.nodes (suc n) ≡ a → Leaded y (Hence a) n b s → (x : List StoreMap) × (t : ℕ) × Leaded x a (suc n) b t
    leads_hence [] a n b s is h = absurd (let e : leaf n (Hence a) b h.comes.0 ≡ l = only_in _ l h.comes.1 in let f : Hence a ≡ Tell told = ap (λ (x : Leaf). x.agent) e ∙ tells in cc)
    leads_hence (w ∷ y) a n b s is h =
        let k = h.comes in
        let long = h.long in
        let begun : List StoreMap → ℕ = λ x. s + 1 + length y - length x in
        let from = flat_in (λ x. started p x a (suc n) b (begun x)) k.0 (suffixes y) k.1 in
        let x : List StoreMap = from.0 in
        let skipped = suffix_of y x from.1 in
        let many : length y ≡ length skipped.0 + length x = ap length skipped.1 ∙ length-append skipped.0 x in (
          x,
          begun x,
          record {
            front = h.front ++ w ∷ skipped.0;
            whole = h.whole ∙ ap (λ (xs : List StoreMap). h.front ++ w ∷ xs) skipped.1 ∙ sym (append_assoc h.front (w ∷ skipped.0) x);
            long = omega (arith, length-append h.front (w ∷ skipped.0));
            comes = comes_started p l x a (suc n) b (begun x) (s + length (w ∷ y)) k.0 is (omega arith) from.2 k.2;
            rests = λ r. all_in (λ z. rests_after p v v z a b (begun z)) x (suffixes y) (h.rests r) from.1;
          },
        )

    pub leads_skip : (y : List StoreMap) (n : ℕ) (b : List ℕ) (s : ℕ) → Leaded y Skip n b s → ⊥
    leads_skip [] n b s h = let e : leaf n Skip b h.comes.0 ≡ l = only_in _ l h.comes.1 in let f : Skip ≡ Tell told = ap (λ (x : Leaf). x.agent) e ∙ tells in cc
    leads_skip (w ∷ y) n b s h = none_in _ h.comes.1

  -- a tell is a leaf of its own
  pub leads_tell : (y : List StoreMap) (c : Constraint) (n : ℕ) (b : List ℕ) (s : ℕ) → Leaded y (Tell c) n b s → (l.node ≡ n) × (l.agent ≡ Tell c)
  leads_tell [] c n b s h = let e : leaf n (Tell c) b h.comes.0 ≡ l = only_in _ l h.comes.1 in (ap (λ (x : Leaf). x.node) (sym e), ap (λ (x : Leaf). x.agent) (sym e))
  leads_tell (w ∷ y) c n b s h = absurd (none_in _ h.comes.1)

  -- right below an else
  pub leads_denied : (y : List StoreMap) (q c : Constraint) (n : ℕ) (b : List ℕ) (s : ℕ) → Leaded y (Else q (Tell c)) n b s → (l.births ≡ b) × Contains l.path (Negative b q)
  leads_denied [] q c n b s h =
      let e : leaf (suc n) (Tell c) b (h.comes.0 ++ Negative b q ∷ []) ≡ l = only_in _ l h.comes.1 in (
        ap (λ (x : Leaf). x.births) (sym e),
        subst (λ (x : Leaf). Contains x.path (Negative b q)) e (Contains-push h.comes.0 (Negative b q)),
      )
  leads_denied (w ∷ y) q c n b s h = absurd (none_in _ (else_in (entails p b w q) [] h.comes.0 h.comes.1).1)
