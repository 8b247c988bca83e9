-- Which leaf tells first below a node, by the kind of the node.
use Rattle.std.proofs.Common.{◌≡◌, ◌⊎◌, inl, inr, ℕ, suc, ◌+◌, Bool, true, false, not, List, [], ◌∷◌, ◌++◌, Some, refl, sym, ap, ◌∙◌, subst}
use Rattle.std.specs.Prelude.{Result, IfOk, IsTrue, slice_get}
use Rattle.std.specs.List.{list_all}
use Rattle.std.proofs.lemmas.Result.{IfOk-weaker}
use Rattle.token_system.specs.Stores.{StoreMap}
use Rattle.agent_core.specs.declared.node.Node.{Node}
use Rattle.agent_core.specs.declared.node.Node.TheVariants as nodes
use Rattle.agent_core.specs.Programs.{CoreProgram}
use Rattle.agent_core.specs.Agents.{Agent, Constraint, Skip, Hence, Next, agent_of, agent_at}
use Rattle.agent_core.specs.Listing.{size}
use Rattle.agent_core.specs.Names.{IsClosure}
use Rattle.agent_core.specs.WellFormed.{IsWellFormed}
use Rattle.agent_core.specs.Stores.{IsStore}
use Rattle.agent_core.specs.Rests.{entails}
use Rattle.agent_core.specs.Leaves.{Guard, Positive, Negative, Leaf, leaf, leaves_of, allows}
use Rattle.agent_core.proofs.RestTests.{facts}
use Rattle.denotation_laws.specs.Dues.{Tells, TellsOne, TellsBelow}
use Rattle.denotation_laws.proofs.Steps.{one-left, one-right, one-store, one-tell, blocked, quiet, allowed_more, refused_more}

module _ (p : CoreProgram) (is : IsWellFormed p) (n : ℕ) (b : List ℕ) (closure : IsClosure p n b) (table : List ℕ) (k t : ℕ) (u : StoreMap) where
  abbrev Below : ℕ → List ℕ → Bool → StoreMap → Type 0
  Below m births told w = TellsBelow p table k t m births u told w

  abbrev One : List Leaf → Bool → StoreMap → Type 0
  One ls told w = TellsOne p table k ls u told w

  -- WITHIN AN INSTANT

  -- a node has the leaves of the agent that it stands for
  leaves-node : (node : Node) → slice_get p.nodes n ≡ Some node → (path : List Guard) → leaves_of t (agent_of (agent_at p.nodes) node) n b path ≡ leaves_of t (agent_at p.nodes n) n b path
  leaves-node node found path = ap (λ (a : Agent). leaves_of t a n b path) (sym (facts p is n b closure node found).tree)

  -- an answer over the leaves of that agent
  by-node : (node : Node) → slice_get p.nodes n ≡ Some node → (path : List Guard) (told : Bool) (w : StoreMap) → One (leaves_of t (agent_of (agent_at p.nodes) node) n b path) told w → One (leaves_of t (agent_at p.nodes n) n b path) told w
  by-node node found path told w h = subst (λ (ls : List Leaf). One ls told w) (leaves-node node found path) h

  -- a body stands behind its node
  moved : (m : ℕ) (births : List ℕ) (path : List Guard) (told : Bool) (w : StoreMap) → m ≡ suc n → One (leaves_of t (agent_at p.nodes m) m births path) told w → One (leaves_of t (agent_at p.nodes m) (suc n) births path) told w
  moved m births path told w e h = subst (λ (i : ℕ). One (leaves_of t (agent_at p.nodes m) i births path) told w) e h

  pub silent-now : (d : Node) → slice_get p.nodes n ≡ Some d → (d ≡ nodes.Skip) ⊎ (((m : ℕ) × (d ≡ nodes.Hence m)) ⊎ ((m : ℕ) × (d ≡ nodes.Next m))) → Below n b false u
  silent-now d found (inl e) path run = by-node nodes.Skip (found ∙ ap Some e) path false u ((quiet p table k u (leaf n Skip b path) refl, tt), refl)
  silent-now d found (inr (inl e)) path run = by-node (nodes.Hence e.0) (found ∙ ap Some e.1) path false u ((quiet p table k u (leaf n (Hence (agent_at p.nodes e.0)) b path) refl, tt), refl)
  silent-now d found (inr (inr e)) path run = by-node (nodes.Next e.0) (found ∙ ap Some e.1) path false u ((quiet p table k u (leaf n (Next (agent_at p.nodes e.0)) b path) refl, tt), refl)

  pub tell-now : {E : Type 0} (r : Result Bool E) (c : Constraint) → slice_get p.nodes n ≡ Some (nodes.Tell c) → (w : StoreMap) → IfOk r (λ told. Tells p table k b c u told w) → IfOk r (λ told. Below n b told w)
  tell-now r c found w h =
      IfOk-weaker r (λ told. Tells p table k b c u told w) (λ told. Below n b told w) (λ told x path run. by-node (nodes.Tell c) found path told w (one-tell p table k u w n c b path told run x)) h

  pub left-now : (left right : ℕ) → slice_get p.nodes n ≡ Some (nodes.Par left right) → (told : Bool) → told ≡ true → (w : StoreMap) → Below left b told w → Below n b true w
  left-now left right found told e w h path run =
      let at = (facts p is n b closure (nodes.Par left right) found).follow in
      let first : One (leaves_of t (agent_at p.nodes left) (suc n) b path) true w = moved left b path true w at.0 (subst (λ (x : Bool). One (leaves_of t (agent_at p.nodes left) left b path) x w) e (h path run)) in
      by-node (nodes.Par left right) found path true w
      (one-left p table k (leaves_of t (agent_at p.nodes left) (suc n) b path) (leaves_of t (agent_at p.nodes right) (suc n + size (agent_at p.nodes left)) b path) u w first)

  -- where the left part told nothing, the store is what it was
  pub untold-store : (m : ℕ) (births : List ℕ) (told : Bool) → told ≡ false → (v : StoreMap) → Below m births told v → IsStore p u → IsStore p v
  untold-store m births told e v h store = one-store p table k (leaves_of t (agent_at p.nodes m) m births []) u told e v (h [] refl) store

  pub right-now : {E : Type 0} (r : Result Bool E) (left right : ℕ) → slice_get p.nodes n ≡ Some (nodes.Par left right) → (told : Bool) → told ≡ false → (v w : StoreMap) → Below left b told v
      → IfOk r (λ x. TellsBelow p table k t right b v x w) → IfOk r (λ x. Below n b x w)
  right-now r left right found told e v w h g = IfOk-weaker r (λ x. TellsBelow p table k t right b v x w) (λ x. Below n b x w) go g
    where
      go : (x : Bool) → TellsBelow p table k t right b v x w → Below n b x w
      go x more path run =
          let at = (facts p is n b closure (nodes.Par left right) found).follow in
          let first : One (leaves_of t (agent_at p.nodes left) (suc n) b path) false v = moved left b path false v at.0 (subst (λ (y : Bool). One (leaves_of t (agent_at p.nodes left) left b path) y v) e (h path run)) in
          let same : v ≡ u = first.1 in
          let place : right ≡ suc n + size (agent_at p.nodes left) = at.1 ∙ ap (λ (i : ℕ). suc n + size (agent_at p.nodes i)) (sym at.0) in
          let rest : TellsOne p table k (leaves_of t (agent_at p.nodes right) right b path) v x w = more path (subst (λ (y : StoreMap). IsTrue (list_all (allows p y) path)) (sym same) run) in
          by-node (nodes.Par left right) found path x w
          (one-right p table k (leaves_of t (agent_at p.nodes left) (suc n) b path) (leaves_of t (agent_at p.nodes right) (suc n + size (agent_at p.nodes left)) b path) u v w x first
          (subst (λ (i : ℕ). TellsOne p table k (leaves_of t (agent_at p.nodes right) i b path) v x w) place rest))

  pub then-refused : (c : Constraint) (m : ℕ) → slice_get p.nodes n ≡ Some (nodes.Then c m) → entails p b u c ≡ false → Below n b false u
  then-refused c m found e path run =
      by-node (nodes.Then c m) found path false u (blocked p table k u t (agent_at p.nodes m) (suc n) b (path ++ Positive b c ∷ []) (refused_more p table k u path (Positive b c) e), refl)

  pub then-now : {E : Type 0} (r : Result Bool E) (c : Constraint) (m : ℕ) → slice_get p.nodes n ≡ Some (nodes.Then c m) → entails p b u c ≡ true → (w : StoreMap) → IfOk r (λ x. Below m b x w) → IfOk r (λ x. Below n b x w)
  then-now r c m found e w h =
      IfOk-weaker r (λ x. Below m b x w) (λ x. Below n b x w)
      (λ x more path run. by-node (nodes.Then c m) found path x w (moved m b (path ++ Positive b c ∷ []) x w (facts p is n b closure (nodes.Then c m) found).follow (more (path ++ Positive b c ∷ []) (allowed_more p table k u path (Positive b c) run e)))) h

  pub else-refused : (c : Constraint) (m : ℕ) → slice_get p.nodes n ≡ Some (nodes.Else c m) → entails p b u c ≡ true → Below n b false u
  else-refused c m found e path run =
      by-node (nodes.Else c m) found path false u (blocked p table k u t (agent_at p.nodes m) (suc n) b (path ++ Negative b c ∷ []) (refused_more p table k u path (Negative b c) (ap not e)), refl)

  pub else-now : {E : Type 0} (r : Result Bool E) (c : Constraint) (m : ℕ) → slice_get p.nodes n ≡ Some (nodes.Else c m) → entails p b u c ≡ false → (w : StoreMap) → IfOk r (λ x. Below m b x w) → IfOk r (λ x. Below n b x w)
  else-now r c m found e w h =
      IfOk-weaker r (λ x. Below m b x w) (λ x. Below n b x w)
      (λ x more path run. by-node (nodes.Else c m) found path x w (moved m b (path ++ Negative b c ∷ []) x w (facts p is n b closure (nodes.Else c m) found).follow (more (path ++ Negative b c ∷ []) (allowed_more p table k u path (Negative b c) run (ap not e))))) h

  pub new-now : {E : Type 0} (r : Result Bool E) (cell m : ℕ) → slice_get p.nodes n ≡ Some (nodes.New cell m) → (births : List ℕ) → births ≡ b ++ t ∷ [] → (w : StoreMap) → IfOk r (λ x. Below m births x w) → IfOk r (λ x. Below n b x w)
  new-now r cell m found births e w h =
      IfOk-weaker r (λ x. Below m births x w) (λ x. Below n b x w)
      (λ x more path run. by-node (nodes.New cell m) found path x w (moved m (b ++ t ∷ []) path x w (facts p is n b closure (nodes.New cell m) found).follow (subst (λ (y : List ℕ). One (leaves_of t (agent_at p.nodes m) m y path) x w) e (more path run)))) h
