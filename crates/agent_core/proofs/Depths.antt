-- The way down from the root to a node, and how many new nodes are on it.
use Rattle.std.proofs.Common.{◌≡◌, ℕ, suc, ◌+◌, ◌-◌, ◌<◌, ◌≤◌, List, Some, length, get_or, refl, ap, ◌∙◌, subst, arith, ◌⊎◌, inl, inr}
use Rattle.agent_core.specs.declared.node.Node.{Node}
use Rattle.agent_core.specs.declared.node.Node.TheVariants as nodes
use Rattle.agent_core.specs.Agents.{Constraint, agent_at}
use Rattle.agent_core.specs.Listing.{size, IsListing}
use Rattle.agent_core.specs.Names.{depth_of}
use Rattle.std.proofs.lemmas.Option.{slice_get_read}
use Rattle.agent_core.proofs.Parts.{IsPart}
use Rattle.agent_core.proofs.Places.{IsNodeAt, node_of_listing, root_place, depth_of-place, size-root}

-- the node that is looked for is in the tree under this one, which so many new nodes enclose
pub record IsTowards (all : List Node) (wanted at depth : ℕ) : Type 0 where
  pub above : at ≤ wanted
  pub below : wanted < at + size (agent_at all at)
  pub deep : depth_of all at ≡ depth
  pub shallow : depth ≤ at

pub from_root : (all : List Node) → IsListing all → (wanted : ℕ) → wanted < length all → IsTowards all wanted 0 0
from_root all w wanted lt = let long = size-root all w in record {
  above = omega arith;
  below = omega arith;
  deep = depth_of-place all 0 _ (agent_at all 0) (root_place all w);
  shallow = omega arith;
}

-- a step down leads to node m, which n new nodes enclose
pub record IsNearer (all : List Node) (wanted at m n : ℕ) : Type 0 where
  pub towards : IsTowards all wanted m n
  pub nearer : wanted - m < wanted - at

-- the node that was reached is read
module _ (all : List Node) (w : IsListing all) (wanted at depth : ℕ) (inside : wanted < length all) (here : IsTowards all wanted at depth) (more : at ≡ wanted → ⊥) (d : Node) (read : d ≡ get_or all at d) where
  facts : (node : Node) → d ≡ node → IsNodeAt all at node
  facts node e =
      let above = here.above in
      node_of_listing all w at node (slice_get_read all (length all) at d refl (omega arith) read ∙ ap Some e)

  -- a part under which the node that is looked for lies
  down : (m n : ℕ) → IsPart all at n m → m ≤ wanted → wanted < m + size (agent_at all m) → n ≤ suc depth → IsNearer all wanted at m n
  down m n part above below shallow = let lt = part.above in let le = here.shallow in record {
    towards = record { above = above; below = below; deep = part.deep; shallow = omega arith };
    nearer = omega arith;
  }

  -- the only part
  only : (m n : ℕ) → IsPart all at n m → m ≡ suc at → size (agent_at all at) ≡ suc (size (agent_at all m)) → n ≤ suc depth → IsNearer all wanted at m n
  only m n part e long shallow =
      let above = here.above in let below = here.below in
      down m n part (omega (arith, more)) (omega arith) shallow

  pub not_leaf : (d ≡ nodes.Skip) ⊎ ((c : Constraint) × (d ≡ nodes.Tell c)) → ⊥
  not_leaf (inl e) = let one = ap size (facts nodes.Skip e).tree in let above = here.above in let below = here.below in omega (arith, more)
  not_leaf (inr e) = let one = ap size (facts (nodes.Tell e.0) e.1).tree in let above = here.above in let below = here.below in omega (arith, more)

  at_depth : (m : ℕ) → IsPart all at (depth_of all at) m → IsPart all at depth m
  at_depth m part = subst (λ (k : ℕ). IsPart all at k m) here.deep part

  pub to_body : (body : ℕ) → ((c : Constraint) × (d ≡ nodes.Then c body)) ⊎ (((c : Constraint) × (d ≡ nodes.Else c body)) ⊎ ((d ≡ nodes.Hence body) ⊎ (d ≡ nodes.Next body))) → IsNearer all wanted at body depth
  to_body body (inl e) = let f = facts (nodes.Then e.0 body) e.1 in only body depth (at_depth body f.parts) f.follow (ap size f.tree) (omega arith)
  to_body body (inr (inl e)) = let f = facts (nodes.Else e.0 body) e.1 in only body depth (at_depth body f.parts) f.follow (ap size f.tree) (omega arith)
  to_body body (inr (inr (inl e))) = let f = facts (nodes.Hence body) e in only body depth (at_depth body f.parts) f.follow (ap size f.tree) (omega arith)
  to_body body (inr (inr (inr e))) = let f = facts (nodes.Next body) e in only body depth (at_depth body f.parts) f.follow (ap size f.tree) (omega arith)

  pub to_new_body : (cell body : ℕ) → d ≡ nodes.New cell body → IsNearer all wanted at body (depth + 1)
  to_new_body cell body e =
      let f = facts (nodes.New cell body) e in
      let deep : suc (depth_of all at) ≡ depth + 1 = let h = here.deep in omega arith in
      only body (depth + 1) (subst (λ (k : ℕ). IsPart all at k body) deep f.parts) f.follow (ap size f.tree) (omega arith)

  pub to_left : (left right : ℕ) → d ≡ nodes.Par left right → wanted < right → IsNearer all wanted at left depth
  to_left left right e lt =
      let f = facts (nodes.Par left right) e in
      let same : size (agent_at all left) ≡ size (agent_at all (suc at)) = ap (λ (k : ℕ). size (agent_at all k)) f.follow.0 in
      let place = f.follow in let above = here.above in
      down left depth (at_depth left f.parts.0) (omega (arith, more)) (omega arith) (omega arith)

  pub to_right : (left right : ℕ) → d ≡ nodes.Par left right → right ≤ wanted → IsNearer all wanted at right depth
  to_right left right e le =
      let f = facts (nodes.Par left right) e in
      let same : size (agent_at all left) ≡ size (agent_at all (suc at)) = ap (λ (k : ℕ). size (agent_at all k)) f.follow.0 in
      let whole : size (agent_at all at) ≡ suc (size (agent_at all left) + size (agent_at all right)) = ap size f.tree in
      let place = f.follow in let below = here.below in
      down right depth (at_depth right f.parts.1) le (omega arith) (omega arith)
