-- The leaves of a node, by its kind and its parts.
use Rattle.std.proofs.Common.{◌≡◌, ℕ, suc, ◌+◌, List, [], ◌∷◌, ◌++◌, Some, sym, ap, ◌∙◌, ◌⊎◌, inl, inr}
use Rattle.std.specs.Prelude.{slice_get}
use Rattle.agent_core.specs.declared.node.Node.{Node}
use Rattle.agent_core.specs.declared.node.Node.TheVariants as nodes
use Rattle.agent_core.specs.Agents.{Agent, Constraint, agent_of, agent_at}
use Rattle.agent_core.specs.Programs.{CoreProgram}
use Rattle.agent_core.specs.WellFormed.{IsWellFormed}
use Rattle.agent_core.specs.Listing.{size}
use Rattle.agent_core.specs.Leaves.{Guard, Positive, Negative, Leaf, leaves_of}
use Rattle.agent_core.proofs.Places.{IsNodeAt, node_of_listing}

module _ (p : CoreProgram) (is : IsWellFormed p) (n : ℕ) where
  facts : (node : Node) → slice_get p.nodes n ≡ Some node → IsNodeAt p.nodes n node
  facts node found = node_of_listing p.nodes is.tree n node found

  abbrev pub below : ℕ → List ℕ → List Guard → ℕ → List Leaf
  below t b path m = leaves_of t (agent_at p.nodes m) m b path

  pub agent-is : (node : Node) → slice_get p.nodes n ≡ Some node → agent_at p.nodes n ≡ agent_of (agent_at p.nodes) node
  agent-is node found = (facts node found).tree

  pub body-behind : (node : Node) (m : ℕ) → (node ≡ nodes.Hence m) ⊎ (node ≡ nodes.Next m) → slice_get p.nodes n ≡ Some node → m ≡ suc n
  body-behind node m (inl e) found = (facts (nodes.Hence m) (found ∙ ap Some e)).follow
  body-behind node m (inr e) found = (facts (nodes.Next m) (found ∙ ap Some e)).follow

  module _ (t : ℕ) (b : List ℕ) (path : List Guard) where
    pub then-below : (c : Constraint) (m : ℕ) → slice_get p.nodes n ≡ Some (nodes.Then c m) → below t b path n ≡ below t b (path ++ Positive b c ∷ []) m
    then-below c m found =
        let f = facts (nodes.Then c m) found in
        ap (λ (a : Agent). leaves_of t a n b path) f.tree ∙ ap (λ (k : ℕ). leaves_of t (agent_at p.nodes m) k b (path ++ Positive b c ∷ [])) (sym f.follow)

    pub else-below : (c : Constraint) (m : ℕ) → slice_get p.nodes n ≡ Some (nodes.Else c m) → below t b path n ≡ below t b (path ++ Negative b c ∷ []) m
    else-below c m found =
        let f = facts (nodes.Else c m) found in
        ap (λ (a : Agent). leaves_of t a n b path) f.tree ∙ ap (λ (k : ℕ). leaves_of t (agent_at p.nodes m) k b (path ++ Negative b c ∷ [])) (sym f.follow)

    pub new-below : (cell m : ℕ) → slice_get p.nodes n ≡ Some (nodes.New cell m) → below t b path n ≡ below t (b ++ t ∷ []) path m
    new-below cell m found =
        let f = facts (nodes.New cell m) found in
        ap (λ (a : Agent). leaves_of t a n b path) f.tree ∙ ap (λ (k : ℕ). leaves_of t (agent_at p.nodes m) k (b ++ t ∷ []) path) (sym f.follow)

    pub par-below : (l r : ℕ) → slice_get p.nodes n ≡ Some (nodes.Par l r) → below t b path n ≡ below t b path l ++ below t b path r
    par-below l r found =
        let f = facts (nodes.Par l r) found in
        let right : suc n + size (agent_at p.nodes l) ≡ r = ap (λ (k : ℕ). suc n + size (agent_at p.nodes k)) f.follow.0 ∙ sym f.follow.1 in
        ap (λ (a : Agent). leaves_of t a n b path) f.tree
        ∙ ap (λ (k : ℕ). leaves_of t (agent_at p.nodes l) k b path ++ leaves_of t (agent_at p.nodes r) (suc n + size (agent_at p.nodes l)) b path) (sym f.follow.0)
        ∙ ap (λ (k : ℕ). below t b path l ++ leaves_of t (agent_at p.nodes r) k b path) right
