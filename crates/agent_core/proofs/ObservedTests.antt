-- The test whether a node rests after closed stores, by the kind of the node.
use Rattle.std.proofs.Common.{◌≡◌, ℕ, ◌+◌, ◌-◌, ◌<◌, ◌≤◌, Bool, true, false, ◌&&◌, not, List, [], ◌∷◌, ◌++◌, Some, length, drop, refl, sym, ap, ◌∙◌, arith, length-drop, ◌⊎◌, inl, inr}
use Rattle.std.specs.Prelude.{slice_get}
use Rattle.std.specs.List.{list_all}
use Rattle.std.specs.FinMap.{empty}
use Rattle.std.proofs.lemmas.List.{drop_more, drop_all}
use Rattle.token_system.specs.Stores.{StoreMap}
use Rattle.agent_core.specs.declared.node.Node.{Node}
use Rattle.agent_core.specs.declared.node.Node.TheVariants as nodes
use Rattle.agent_core.specs.Programs.{CoreProgram}
use Rattle.agent_core.specs.Agents.{Agent, Constraint, agent_of, agent_at}
use Rattle.agent_core.specs.Names.{IsClosure}
use Rattle.agent_core.specs.WellFormed.{IsWellFormed}
use Rattle.agent_core.specs.Rests.{◌⇒◌, entails, rests}
use Rattle.agent_core.specs.RestsAfter.{suffixes, rests_after, obs}
use Rattle.agent_core.proofs.RestTests.{facts}

-- with no store closed, to rest is to rest now
pub just_started : (p : CoreProgram) (n : ℕ) (b : List ℕ) (s : ℕ) (z : List StoreMap) (u v : StoreMap) → length z ≡ 0 → rests p n b s u v ≡ obs p n b s z u v
just_started p n b s [] u v e = refl
just_started p n b s (w ∷ z) u v e = absurd (omega arith)

-- after the closed stores w ∷ z
module _ (p : CoreProgram) (is : IsWellFormed p) (n : ℕ) (b : List ℕ) (closure : IsClosure p n b) (s : ℕ) (closed : List StoreMap) (w : StoreMap) (z : List StoreMap) (split : closed ≡ w ∷ z) (u v : StoreMap) where
  -- a node rests as the agent that it stands for
  obs-node : (node : Node) → slice_get p.nodes n ≡ Some node → rests_after p u v (w ∷ z) (agent_of (agent_at p.nodes) node) b s ≡ obs p n b s closed u v
  obs-node node found =
      ap (λ (a : Agent). rests_after p u v (w ∷ z) a b s) (sym (facts p is n b closure node found).tree)
      ∙ ap (λ (y : List StoreMap). rests_after p u v y (agent_at p.nodes n) b s) (sym split)

  -- what a part says after the same stores
  part : (m : ℕ) (births : List ℕ) → obs p m births s closed u v ≡ rests_after p u v (w ∷ z) (agent_at p.nodes m) births s
  part m births = ap (λ (y : List StoreMap). obs p m births s y u v) split

  pub always-obs : (d : Node) → slice_get p.nodes n ≡ Some d → (d ≡ nodes.Skip) ⊎ ((c : Constraint) × (d ≡ nodes.Tell c)) → true ≡ obs p n b s closed u v
  always-obs d found (inl e) = obs-node nodes.Skip (found ∙ ap Some e)
  always-obs d found (inr e) = obs-node (nodes.Tell e.0) (found ∙ ap Some e.1)

  pub left-not : (left right : ℕ) → slice_get p.nodes n ≡ Some (nodes.Par left right) → false ≡ obs p left b s closed u v → false ≡ obs p n b s closed u v
  left-not left right found l = ap (λ (x : Bool). x && rests_after p u v (w ∷ z) (agent_at p.nodes right) b s) (l ∙ part left b) ∙ obs-node (nodes.Par left right) found

  pub right-decides : (left right : ℕ) → slice_get p.nodes n ≡ Some (nodes.Par left right) → true ≡ obs p left b s closed u v → obs p right b s closed u v ≡ obs p n b s closed u v
  right-decides left right found l = part right b ∙ ap (λ (x : Bool). x && rests_after p u v (w ∷ z) (agent_at p.nodes right) b s) (l ∙ part left b) ∙ obs-node (nodes.Par left right) found

  pub then-waits : (c : Constraint) (m : ℕ) → slice_get p.nodes n ≡ Some (nodes.Then c m) → false ≡ entails p b w c → true ≡ obs p n b s closed u v
  then-waits c m found e = ap (λ (x : Bool). x ⇒ rests_after p u v (w ∷ z) (agent_at p.nodes m) b s) e ∙ obs-node (nodes.Then c m) found

  pub then-decides : (c : Constraint) (m : ℕ) → slice_get p.nodes n ≡ Some (nodes.Then c m) → true ≡ entails p b w c → obs p m b s closed u v ≡ obs p n b s closed u v
  then-decides c m found e = part m b ∙ ap (λ (x : Bool). x ⇒ rests_after p u v (w ∷ z) (agent_at p.nodes m) b s) e ∙ obs-node (nodes.Then c m) found

  pub else-refuted : (c : Constraint) (m : ℕ) → slice_get p.nodes n ≡ Some (nodes.Else c m) → true ≡ entails p b w c → true ≡ obs p n b s closed u v
  else-refuted c m found e = ap (λ (x : Bool). not x ⇒ rests_after p u v (w ∷ z) (agent_at p.nodes m) b s) e ∙ obs-node (nodes.Else c m) found

  pub else-decides : (c : Constraint) (m : ℕ) → slice_get p.nodes n ≡ Some (nodes.Else c m) → false ≡ entails p b w c → obs p m b s closed u v ≡ obs p n b s closed u v
  else-decides c m found e = part m b ∙ ap (λ (x : Bool). not x ⇒ rests_after p u v (w ∷ z) (agent_at p.nodes m) b s) e ∙ obs-node (nodes.Else c m) found

  pub new-obs : (cell m : ℕ) → slice_get p.nodes n ≡ Some (nodes.New cell m) → obs p m (b ++ s ∷ []) s closed u v ≡ obs p n b s closed u v
  new-obs cell m found = part m (b ++ s ∷ []) ∙ obs-node (nodes.New cell m) found

  pub next-obs : (m : ℕ) → slice_get p.nodes n ≡ Some (nodes.Next m) → obs p m b (s + 1) z u v ≡ obs p n b s closed u v
  next-obs m found = obs-node (nodes.Next m) found

  pub hence-obs : (m : ℕ) → slice_get p.nodes n ≡ Some (nodes.Hence m) → list_all (λ y. obs p m b (s + 1 + length z - length y) y u v) (suffixes z) ≡ obs p n b s closed u v
  hence-obs m found = obs-node (nodes.Hence m) found

-- A LOOP OVER SUFFIXES

-- what is asked of each suffix, one by one
suffixes-more : (test : List StoreMap → Bool) (z : List StoreMap) (k : ℕ) → k < length z → (test (drop k z) && list_all test (suffixes (drop (k + 1) z))) ≡ list_all test (suffixes (drop k z))
suffixes-more test z k lt =
    let more = drop_more z k empty lt in
    ap (λ (y : List StoreMap). test y && list_all test (suffixes (drop (k + 1) z))) more ∙ ap (λ (y : List StoreMap). list_all test (suffixes y)) (sym more)

-- the node is started at instant s and at each later one, and z are the closed stores since s
module _ (p : CoreProgram) (n : ℕ) (b : List ℕ) (s : ℕ) (z : List StoreMap) (u v : StoreMap) where
  abbrev pub started_since : List StoreMap → Bool
  started_since y = obs p n b (s + length z - length y) y u v

  -- the suffixes from the k-th on decide of all
  abbrev pub AreLeft : ℕ → Type 0
  AreLeft k = list_all started_since (suffixes (drop k z)) ≡ list_all started_since (suffixes z)

  -- the node that is started at the k-th of these instants
  this-one : (k : ℕ) → k < length z → obs p n b (s + k) (drop k z) u v ≡ started_since (drop k z)
  this-one k lt = let e : s + k ≡ s + length z - length (drop k z) = omega (arith, length-drop k z) in ap (λ (t : ℕ). obs p n b t (drop k z) u v) e

  pub one-not : (k : ℕ) → AreLeft k → k < length z → false ≡ obs p n b (s + k) (drop k z) u v → false ≡ list_all started_since (suffixes z)
  one-not k left lt e = ap (λ (x : Bool). x && list_all started_since (suffixes (drop (k + 1) z))) (e ∙ this-one k lt) ∙ suffixes-more started_since z k lt ∙ left

  pub AreLeft-next : (k : ℕ) → AreLeft k → k < length z → true ≡ obs p n b (s + k) (drop k z) u v → AreLeft (k + 1)
  AreLeft-next k left lt e = ap (λ (x : Bool). x && list_all started_since (suffixes (drop (k + 1) z))) (e ∙ this-one k lt) ∙ suffixes-more started_since z k lt ∙ left

  pub last-decides : (k : ℕ) → AreLeft k → length z ≤ k → rests p n b (s + length z) u v ≡ list_all started_since (suffixes z)
  last-decides k left le =
      let none = drop_all k z le in
      let e : s + length z ≡ s + length z - 0 = omega arith in
      ap (λ (t : ℕ). obs p n b t [] u v) e ∙ itself (started_since []) ∙ ap (λ (y : List StoreMap). list_all started_since (suffixes y)) (sym none) ∙ left
    where
      itself : (x : Bool) → x ≡ (x && true)
      itself true = refl
      itself false = refl
