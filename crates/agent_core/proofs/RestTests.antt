-- The test whether a node rests, by the kind of the node.
use Rattle.std.proofs.Common.{◌≡◌, ℕ, ◌<◌, Bool, true, false, ◌&&◌, not, List, [], ◌∷◌, ◌++◌, Some, length, get_or, refl, sym, ap, ◌∙◌, subst, arith, length-append, ◌⊎◌, inl, inr}
use Rattle.std.specs.Prelude.{Result, IfOk, slice_get}
use Rattle.std.proofs.lemmas.Option.{slice_get_read}
use Rattle.token_system.specs.Stores.{StoreMap}
use Rattle.agent_core.specs.declared.node.Node.{Node}
use Rattle.agent_core.specs.declared.node.Node.TheVariants as nodes
use Rattle.agent_core.specs.Programs.{CoreProgram}
use Rattle.agent_core.specs.Agents.{Agent, Constraint, agent_of, agent_at}
use Rattle.agent_core.specs.Names.{depth_of, IsClosure}
use Rattle.agent_core.specs.WellFormed.{IsWellFormed}
use Rattle.agent_core.specs.Scope.{ConstraintFits}
use Rattle.agent_core.specs.Rests.{◌⇒◌, entails, agent_rests, rests}
use Rattle.agent_core.proofs.Parts.{IsPart}
use Rattle.agent_core.proofs.Places.{IsNodeAt, node_of_listing}
use Rattle.agent_core.proofs.Scopes.{ask_of, node_fits}

-- an answer that is the same as another's
pub same_answer : {E : Type 0} (r : Result Bool E) (x y : Bool) → x ≡ y → IfOk r (λ b. b ≡ x) → IfOk r (λ b. b ≡ y)
same_answer r x y e h = subst (λ (z : Bool). IfOk r (λ b. b ≡ z)) e h

-- a read of a program's nodes
pub node_found : (p : CoreProgram) (all : List Node) (n : ℕ) (d : Node) → all ≡ p.nodes → n < length p.nodes → d ≡ get_or all n d → slice_get p.nodes n ≡ Some d
node_found p all n d e lt g = slice_get_read p.nodes (length p.nodes) n d refl lt (g ∙ ap (λ (xs : List Node). get_or xs n d) e)

module _ (p : CoreProgram) (is : IsWellFormed p) (n : ℕ) (b : List ℕ) (closure : IsClosure p n b) where
  -- a part of the node is a closure under these births, behind the node
  pub record IsBodyOf (births : List ℕ) (m : ℕ) : Type 0 where
    pub above : n < m
    pub inside : m < length p.nodes
    pub is_closure : IsClosure p m births

  pub facts : (node : Node) → slice_get p.nodes n ≡ Some node → IsNodeAt p.nodes n node
  facts node found = node_of_listing p.nodes is.tree n node found

  body : (m : ℕ) → IsPart p.nodes n (depth_of p.nodes n) m → IsBodyOf b m
  body m part = record { above = part.above; inside = part.inside; is_closure = record { node = part.inside; long = closure.long ∙ sym part.deep } }

  pub own_ask_fits : (node : Node) → slice_get p.nodes n ≡ Some node → ConstraintFits p b (ask_of node)
  own_ask_fits node found = node_fits p is n node found b closure.long

  pub left_of : (left right : ℕ) → slice_get p.nodes n ≡ Some (nodes.Par left right) → IsBodyOf b left
  left_of left right found = body left (facts (nodes.Par left right) found).parts.0

  pub right_of : (left right : ℕ) → slice_get p.nodes n ≡ Some (nodes.Par left right) → IsBodyOf b right
  right_of left right found = body right (facts (nodes.Par left right) found).parts.1

  pub then_body : (c : Constraint) (m : ℕ) → slice_get p.nodes n ≡ Some (nodes.Then c m) → IsBodyOf b m
  then_body c m found = body m (facts (nodes.Then c m) found).parts

  pub else_body : (c : Constraint) (m : ℕ) → slice_get p.nodes n ≡ Some (nodes.Else c m) → IsBodyOf b m
  else_body c m found = body m (facts (nodes.Else c m) found).parts

  pub new_body : (cell m t : ℕ) → slice_get p.nodes n ≡ Some (nodes.New cell m) → IsBodyOf (b ++ t ∷ []) m
  new_body cell m t found =
      let part = (facts (nodes.New cell m) found).parts in
      let long = closure.long in let deep = part.deep in
      record { above = part.above; inside = part.inside; is_closure = record { node = part.inside; long = omega (arith, length-append b (t ∷ [])) } }

  pub hence_body : (m : ℕ) → slice_get p.nodes n ≡ Some (nodes.Hence m) → IsBodyOf b m
  hence_body m found = body m (facts (nodes.Hence m) found).parts

  pub next_body : (m : ℕ) → slice_get p.nodes n ≡ Some (nodes.Next m) → IsBodyOf b m
  next_body m found = body m (facts (nodes.Next m) found).parts

  module _ (t : ℕ) (u v : StoreMap) where
    -- a node rests as the agent that it stands for
    rests-node : (node : Node) → slice_get p.nodes n ≡ Some node → rests p n b t u v ≡ agent_rests p t v (agent_of (agent_at p.nodes) node) b u
    rests-node node found = ap (λ (a : Agent). agent_rests p t v a b u) (facts node found).tree

    pub always-rests : (d : Node) → slice_get p.nodes n ≡ Some d → (d ≡ nodes.Skip) ⊎ (((m : ℕ) × (d ≡ nodes.Hence m)) ⊎ ((m : ℕ) × (d ≡ nodes.Next m))) → true ≡ rests p n b t u v
    always-rests d found (inl e) = sym (rests-node nodes.Skip (found ∙ ap Some e))
    always-rests d found (inr (inl e)) = sym (rests-node (nodes.Hence e.0) (found ∙ ap Some e.1))
    always-rests d found (inr (inr e)) = sym (rests-node (nodes.Next e.0) (found ∙ ap Some e.1))

    pub tell-rests : (c : Constraint) → slice_get p.nodes n ≡ Some (nodes.Tell c) → entails p b u c ≡ rests p n b t u v
    tell-rests c found = sym (rests-node (nodes.Tell c) found)

    pub new-rests : (cell m : ℕ) → slice_get p.nodes n ≡ Some (nodes.New cell m) → rests p m (b ++ t ∷ []) t u v ≡ rests p n b t u v
    new-rests cell m found = sym (rests-node (nodes.New cell m) found)

    pub left-not : (left right : ℕ) → slice_get p.nodes n ≡ Some (nodes.Par left right) → false ≡ rests p left b t u v → false ≡ rests p n b t u v
    left-not left right found l = ap (λ (x : Bool). x && rests p right b t u v) l ∙ sym (rests-node (nodes.Par left right) found)

    pub right-decides : (left right : ℕ) → slice_get p.nodes n ≡ Some (nodes.Par left right) → true ≡ rests p left b t u v → rests p right b t u v ≡ rests p n b t u v
    right-decides left right found l = ap (λ (x : Bool). x && rests p right b t u v) l ∙ sym (rests-node (nodes.Par left right) found)

    pub refuted-rests : (c : Constraint) (m : ℕ) → slice_get p.nodes n ≡ Some (nodes.Else c m) → true ≡ entails p b v c → true ≡ rests p n b t u v
    refuted-rests c m found e = ap (λ (x : Bool). not x ⇒ rests p m b t u v) e ∙ sym (rests-node (nodes.Else c m) found)

    pub else-decides : (c : Constraint) (m : ℕ) → slice_get p.nodes n ≡ Some (nodes.Else c m) → false ≡ entails p b v c → rests p m b t u v ≡ rests p n b t u v
    else-decides c m found e = ap (λ (x : Bool). not x ⇒ rests p m b t u v) e ∙ sym (rests-node (nodes.Else c m) found)

    -- what a then asks of the store
    abbrev pub Now : Constraint → ℕ → Bool
    Now c m = entails p b u c ⇒ rests p m b t u v

    abbrev AtLast : Constraint → ℕ → Bool
    AtLast c m = entails p b v c ⇒ rests p m b t v v

    pub now-not : (c : Constraint) (m : ℕ) → true ≡ entails p b u c → false ≡ rests p m b t u v → false ≡ Now c m
    now-not c m e r = ap (λ (x : Bool). x ⇒ false) e ∙ ap (λ (y : Bool). entails p b u c ⇒ y) r

    pub now-runs : (c : Constraint) (m : ℕ) → true ≡ rests p m b t u v → true ≡ Now c m
    now-runs c m r = go (entails p b u c) ∙ ap (λ (y : Bool). entails p b u c ⇒ y) r
      where
        go : (x : Bool) → true ≡ (x ⇒ true)
        go true = refl
        go false = refl

    pub now-waits : (c : Constraint) (m : ℕ) → false ≡ entails p b u c → true ≡ Now c m
    now-waits c m e = ap (λ (x : Bool). x ⇒ rests p m b t u v) e

    pub then-not : (c : Constraint) (m : ℕ) → slice_get p.nodes n ≡ Some (nodes.Then c m) → false ≡ Now c m → false ≡ rests p n b t u v
    then-not c m found now = ap (λ (x : Bool). x && AtLast c m) now ∙ sym (rests-node (nodes.Then c m) found)

    pub then-waits : (c : Constraint) (m : ℕ) → slice_get p.nodes n ≡ Some (nodes.Then c m) → true ≡ Now c m → false ≡ entails p b v c → true ≡ rests p n b t u v
    then-waits c m found now e =
        ap (λ (x : Bool). x ⇒ rests p m b t v v) e ∙ ap (λ (x : Bool). x && AtLast c m) now ∙ sym (rests-node (nodes.Then c m) found)

    pub then-decides : (c : Constraint) (m : ℕ) → slice_get p.nodes n ≡ Some (nodes.Then c m) → true ≡ Now c m → true ≡ entails p b v c → rests p m b t v v ≡ rests p n b t u v
    then-decides c m found now e =
        ap (λ (x : Bool). x ⇒ rests p m b t v v) e ∙ ap (λ (x : Bool). x && AtLast c m) now ∙ sym (rests-node (nodes.Then c m) found)
