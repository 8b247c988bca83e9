-- The place of each node in its program's tree, and what a listing in preorder says of its parts.
use Rattle.std.proofs.Common.{◌≡◌, ℕ, zero, suc, ◌+◌, ◌<◌, List, [], ◌∷◌, ◌++◌, Some, length, refl, sym, ap, ◌∙◌, subst, arith, length-append, ◌⊎◌, inl, inr}
use Rattle.std.specs.Prelude.{slice_get}
use Rattle.std.proofs.lemmas.Option.{slice_get_within, get_or_from_slice_get}
use Rattle.agent_core.specs.declared.node.Node.{Node}
use Rattle.agent_core.specs.declared.node.Node.TheVariants as nodes
use Rattle.agent_core.specs.Agents.{Agent, Constraint, Skip, Tell, Then, Else, Par, New, Hence, Next, agent_of, agent_at}
use Rattle.agent_core.specs.Listing.{size, listing, IsListing}
use Rattle.agent_core.specs.Names.{depths, depth_of}
use Rattle.agent_core.proofs.Parts.{EachPart, PartsFollow, IsPreorder, IsPart, depth_within}
use Rattle.agent_core.proofs.Standing.{StandsAt, stands-itself, stands-head, stands-tail, stands-left, stands-right, stands-within}
use Rattle.agent_core.proofs.Trees.{agent_at-node}
use Rattle.agent_core.proofs.ListingTrees.{length-listing, size-some, left_listed, right_listed, listed_tree, root_tree}

-- GOING DOWN A TREE

-- what holds of a tree, by its number and the local cells around it, innermost first, holds of its parts
pub record GoesDown (P : ℕ → List ℕ → Agent → Type 0) : Type 0 where
  pub then_body : (n : ℕ) (locals : List ℕ) (c : Constraint) (a : Agent) → P n locals (Then c a) → P (suc n) locals a
  pub else_body : (n : ℕ) (locals : List ℕ) (c : Constraint) (a : Agent) → P n locals (Else c a) → P (suc n) locals a
  pub left : (n : ℕ) (locals : List ℕ) (a b : Agent) → P n locals (Par a b) → P (suc n) locals a
  pub right : (n : ℕ) (locals : List ℕ) (a b : Agent) → P n locals (Par a b) → P (suc n + size a) locals b
  pub new_body : (n : ℕ) (locals : List ℕ) (cell : ℕ) (a : Agent) → P n locals (New cell a) → P (suc n) (cell ∷ locals) a
  pub hence_body : (n : ℕ) (locals : List ℕ) (a : Agent) → P n locals (Hence a) → P (suc n) locals a
  pub next_body : (n : ℕ) (locals : List ℕ) (a : Agent) → P n locals (Next a) → P (suc n) locals a

-- a number is below another, or that and some more
within : (j a : ℕ) → (j < a) ⊎ ((i : ℕ) × (j ≡ a + i))
within j zero = inr (j, omega arith)
within zero (suc a) = inl (omega arith)
within (suc j) (suc a) = go (within j a)
  where
    go : (j < a) ⊎ ((i : ℕ) × (j ≡ a + i)) → (suc j < suc a) ⊎ ((i : ℕ) × (suc j ≡ suc a + i))
    go (inl h) = inl (omega arith)
    go (inr (i, h)) = inr (i, omega arith)

module _ (P : ℕ → List ℕ → Agent → Type 0) (down : GoesDown P) where
  -- what goes down a tree holds of the tree of each of its nodes
  pub each_node : (n : ℕ) (locals : List ℕ) (a : Agent) → P n locals a → (k m : ℕ) → m ≡ n + k → k < size a → (around : List ℕ) × (b : Agent) × P m around b
  each_node n locals a h zero m e lt = (locals, a, subst (λ (i : ℕ). P i locals a) (let f : n ≡ m = omega arith in f) h)
  each_node n locals Skip h (suc k) m e lt = absurd (omega arith)
  each_node n locals (Tell c) h (suc k) m e lt = absurd (omega arith)
  each_node n locals (Then c a) h (suc k) m e lt = each_node (suc n) locals a (down.then_body n locals c a h) k m (omega arith) (omega arith)
  each_node n locals (Else c a) h (suc k) m e lt = each_node (suc n) locals a (down.else_body n locals c a h) k m (omega arith) (omega arith)
  each_node n locals (New cell a) h (suc k) m e lt = each_node (suc n) (cell ∷ locals) a (down.new_body n locals cell a h) k m (omega arith) (omega arith)
  each_node n locals (Hence a) h (suc k) m e lt = each_node (suc n) locals a (down.hence_body n locals a h) k m (omega arith) (omega arith)
  each_node n locals (Next a) h (suc k) m e lt = each_node (suc n) locals a (down.next_body n locals a h) k m (omega arith) (omega arith)
  each_node n locals (Par a b) h (suc k) m e lt = elim (within k (size a)) [
    | inl in_left ↦ each_node (suc n) locals a (down.left n locals a b h) k m (omega arith) in_left
    | inr past ↦ let f = past.1 in each_node (suc n + size a) locals b (down.right n locals a b h) past.0 m (omega arith) (omega arith)
  ]

-- PLACES

-- the tree stands at n in the list of nodes, and its depths at n in the list of depths
pub record Place (all : List Node) (n : ℕ) (locals : List ℕ) (a : Agent) : Type 0 where
  pub listed : StandsAt Node all n (listing n a)
  pub deep : StandsAt ℕ (depths 0 (agent_at all 0)) n (depths (length locals) a)

pub length-depths : (d : ℕ) (a : Agent) → length (depths d a) ≡ size a
length-depths d Skip = refl
length-depths d (Tell c) = refl
length-depths d (Then c a) = ap suc (length-depths d a)
length-depths d (Else c a) = ap suc (length-depths d a)
length-depths d (Par a b) = let left = length-depths d a in let right = length-depths d b in omega (arith, length-append (depths d a) (depths d b))
length-depths d (New cell a) = ap suc (length-depths (suc d) a)
length-depths d (Hence a) = ap suc (length-depths d a)
length-depths d (Next a) = ap suc (length-depths d a)

pub Place-goes_down : (all : List Node) → GoesDown (Place all)
Place-goes_down all = record {
  then_body = λ n locals c a h. record { listed = stands-tail h.listed; deep = stands-tail h.deep };
  else_body = λ n locals c a h. record { listed = stands-tail h.listed; deep = stands-tail h.deep };
  left = λ n locals a b h. record { listed = left_listed a b h.listed; deep = stands-left (depths (length locals) a) (depths (length locals) b) (stands-tail h.deep) };
  right = λ n locals a b h. record {
    listed = right_listed a b h.listed;
    deep = stands-right (depths (length locals) a) (depths (length locals) b) (stands-tail h.deep) (suc n + size a) (ap (λ (k : ℕ). suc n + k) (sym (length-depths (length locals) a)));
  };
  new_body = λ n locals cell a h. record { listed = stands-tail h.listed; deep = stands-tail h.deep };
  hence_body = λ n locals a h. record { listed = stands-tail h.listed; deep = stands-tail h.deep };
  next_body = λ n locals a h. record { listed = stands-tail h.listed; deep = stands-tail h.deep };
}

pub root_place : (all : List Node) (w : IsListing all) → Place all 0 [] (agent_at all 0)
root_place all w = record {
  listed = stands-itself (w.1 ∙ ap (listing 0) (sym (root_tree all w)));
  deep = stands-itself refl;
}

pub size-root : (all : List Node) → IsListing all → size (agent_at all 0) ≡ length all
size-root all w = ap size (root_tree all w) ∙ sym (length-listing 0 w.0) ∙ ap length (sym w.1)

-- each node of a listing has its place
pub place_of : (all : List Node) → IsListing all → (n : ℕ) → n < length all → (locals : List ℕ) × (a : Agent) × Place all n locals a
place_of all w n lt = let long = size-root all w in each_node (Place all) (Place-goes_down all) 0 [] (agent_at all 0) (root_place all w) n n (omega arith) (omega arith)

-- WHAT A PLACE SAYS

depths-head : (d : ℕ) (a : Agent) → (rest : List ℕ) × (depths d a ≡ d ∷ rest)
depths-head d Skip = ([], refl)
depths-head d (Tell c) = ([], refl)
depths-head d (Then c a) = (depths d a, refl)
depths-head d (Else c a) = (depths d a, refl)
depths-head d (Par a b) = (depths d a ++ depths d b, refl)
depths-head d (New cell a) = (depths (suc d) a, refl)
depths-head d (Hence a) = (depths d a, refl)
depths-head d (Next a) = (depths d a, refl)

-- as many new nodes enclose the node as it has local cells around it
pub depth_of-place : (all : List Node) (n : ℕ) (locals : List ℕ) (a : Agent) → Place all n locals a → depth_of all n ≡ length locals
depth_of-place all n locals a h =
    let first = depths-head (length locals) a in
    get_or_from_slice_get (depths 0 (agent_at all 0)) n (length locals) 0
    (stands-head (subst (StandsAt ℕ (depths 0 (agent_at all 0)) n) first.1 h.deep))

-- the tree at a place lies within the list
pub size-within : (all : List Node) (n : ℕ) (locals : List ℕ) (a : Agent) → Place all n locals a → (n < length all) × (n + size a < suc (length all))
size-within all n locals a h =
    let e = stands-within h.listed in let f = length-listing n a in let g = size-some a in (omega arith, omega arith)

part_at : (all : List Node) (n d m : ℕ) (locals : List ℕ) (a : Agent) → n < m → length locals ≡ d → Place all m locals a → IsPart all n d m
part_at all n d m locals a lt e h = record { above = lt; inside = (size-within all m locals a h).0; deep = depth_of-place all m locals a h ∙ e }

-- what the listing says of one node
pub record IsNodeAt (all : List Node) (n : ℕ) (node : Node) : Type 0 where
  pub follow : PartsFollow all n node
  pub parts : EachPart (IsPart all n (depth_within node (depth_of all n))) node
  pub tree : agent_at all n ≡ agent_of (agent_at all) node

node_at_place : (all : List Node) (n : ℕ) (locals : List ℕ) (a : Agent) → Place all n locals a → (node : Node) × (slice_get all n ≡ Some node) × IsNodeAt all n node
node_at_place all n locals Skip h = (nodes.Skip, stands-head h.listed, record { follow = tt; parts = tt; tree = agent_at-node all n nodes.Skip (stands-head h.listed) tt })
node_at_place all n locals (Tell c) h = (nodes.Tell c, stands-head h.listed, record { follow = tt; parts = tt; tree = agent_at-node all n (nodes.Tell c) (stands-head h.listed) tt })
node_at_place all n locals (Then c a) h = (
  nodes.Then c (suc n),
  stands-head h.listed,
  record {
    follow = refl;
    parts = part_at all n (depth_of all n) (suc n) locals a (omega arith) (sym (depth_of-place all n locals (Then c a) h)) ((Place-goes_down all).then_body n locals c a h);
    tree = agent_at-node all n (nodes.Then c (suc n)) (stands-head h.listed) (omega arith);
  },
)
node_at_place all n locals (Else c a) h = (
  nodes.Else c (suc n),
  stands-head h.listed,
  record {
    follow = refl;
    parts = part_at all n (depth_of all n) (suc n) locals a (omega arith) (sym (depth_of-place all n locals (Else c a) h)) ((Place-goes_down all).else_body n locals c a h);
    tree = agent_at-node all n (nodes.Else c (suc n)) (stands-head h.listed) (omega arith);
  },
)
node_at_place all n locals (New cell a) h = (
  nodes.New cell (suc n),
  stands-head h.listed,
  record {
    follow = refl;
    parts = part_at all n (suc (depth_of all n)) (suc n) (cell ∷ locals) a (omega arith) (ap suc (sym (depth_of-place all n locals (New cell a) h))) ((Place-goes_down all).new_body n locals cell a h);
    tree = agent_at-node all n (nodes.New cell (suc n)) (stands-head h.listed) (omega arith);
  },
)
node_at_place all n locals (Hence a) h = (
  nodes.Hence (suc n),
  stands-head h.listed,
  record {
    follow = refl;
    parts = part_at all n (depth_of all n) (suc n) locals a (omega arith) (sym (depth_of-place all n locals (Hence a) h)) ((Place-goes_down all).hence_body n locals a h);
    tree = agent_at-node all n (nodes.Hence (suc n)) (stands-head h.listed) (omega arith);
  },
)
node_at_place all n locals (Next a) h = (
  nodes.Next (suc n),
  stands-head h.listed,
  record {
    follow = refl;
    parts = part_at all n (depth_of all n) (suc n) locals a (omega arith) (sym (depth_of-place all n locals (Next a) h)) ((Place-goes_down all).next_body n locals a h);
    tree = agent_at-node all n (nodes.Next (suc n)) (stands-head h.listed) (omega arith);
  },
)
node_at_place all n locals (Par a b) h =
    let d = sym (depth_of-place all n locals (Par a b) h) in
    let left = (Place-goes_down all).left n locals a b h in
    let right = (Place-goes_down all).right n locals a b h in (
      nodes.Par (suc n) (suc n + size a),
      stands-head h.listed,
      record {
        follow = (refl, ap (λ (x : Agent). suc n + size x) (sym (listed_tree all (suc n) a left.listed)));
        parts = (
          part_at all n (depth_of all n) (suc n) locals a (omega arith) d left,
          part_at all n (depth_of all n) (suc n + size a) locals b (omega arith) d right,
        );
        tree = agent_at-node all n (nodes.Par (suc n) (suc n + size a)) (stands-head h.listed) (omega arith, omega arith);
      },
    )

-- the parts and the tree of each node of a listing
pub node_of_listing : (all : List Node) → IsListing all → (n : ℕ) (node : Node) → slice_get all n ≡ Some node → IsNodeAt all n node
node_of_listing all w n node g =
    let place = place_of all w n (slice_get_within all n node g) in
    let at = node_at_place all n place.0 place.1 place.2 in
    let same : at.0 ≡ node = let found = at.1 in cc in
    subst (IsNodeAt all n) same at.2

-- the nodes of a listing are numbered in preorder
pub listing_preorder : (all : List Node) → IsListing all → IsPreorder all
listing_preorder all w = record { whole = size-root all w; parts = λ n node g. (node_of_listing all w n node g).follow }
