-- The trees of a listing are those that were listed, and a list begins with the listing of at most one tree.
use Rattle.std.proofs.Common.{◌≡◌, ℕ, zero, suc, ◌+◌, ◌<◌, List, [], ◌∷◌, ◌++◌, length, refl, sym, ap, ◌∙◌, arith, length-append}
use Rattle.agent_core.specs.declared.node.Node.{Node}
use Rattle.agent_core.specs.declared.node.Node.TheVariants as nodes
use Rattle.agent_core.specs.Agents.{Agent, Skip, Tell, Then, Else, Par, New, Hence, Next, agent_at}
use Rattle.agent_core.specs.Listing.{size, listing, IsListing}
use Rattle.agent_core.proofs.Trees.{agent_at-node}
use Rattle.agent_core.proofs.Standing.{StandsAt, stands-itself, stands-head, stands-tail, stands-left, stands-right}

pub length-listing : (n : ℕ) (a : Agent) → length (listing n a) ≡ size a
length-listing n Skip = refl
length-listing n (Tell c) = refl
length-listing n (Then c a) = ap suc (length-listing (suc n) a)
length-listing n (Else c a) = ap suc (length-listing (suc n) a)
length-listing n (Par l r) =
    let left = length-listing (suc n) l in
    let right = length-listing (suc n + size l) r in
    omega (arith, length-append (listing (suc n) l) (listing (suc n + size l) r))
length-listing n (New cell a) = ap suc (length-listing (suc n) a)
length-listing n (Hence a) = ap suc (length-listing (suc n) a)
length-listing n (Next a) = ap suc (length-listing (suc n) a)

pub size-some : (a : Agent) → 0 < size a
size-some Skip = omega arith
size-some (Tell c) = omega arith
size-some (Then c a) = omega arith
size-some (Else c a) = omega arith
size-some (Par a b) = omega arith
size-some (New cell a) = omega arith
size-some (Hence a) = omega arith
size-some (Next a) = omega arith

pub has_node : (all : List Node) → IsListing all → 0 < length all
has_node all w = let e = ap length w.1 in omega (arith, length-listing 0 w.0, size-some w.0)

pub left_listed : {all : List Node} {n : ℕ} (l r : Agent) → StandsAt Node all n (listing n (Par l r)) → StandsAt Node all (suc n) (listing (suc n) l)
left_listed {all} {n} l r s = stands-left (listing (suc n) l) (listing (suc n + size l) r) (stands-tail s)

pub right_listed : {all : List Node} {n : ℕ} (l r : Agent) → StandsAt Node all n (listing n (Par l r)) → StandsAt Node all (suc n + size l) (listing (suc n + size l) r)
right_listed {all} {n} l r s =
    stands-right (listing (suc n) l) (listing (suc n + size l) r) (stands-tail s) (suc n + size l) (ap (λ (k : ℕ). suc n + k) (sym (length-listing (suc n) l)))

-- the tree whose listing stands at its number is the one of that node
pub listed_tree : (all : List Node) (n : ℕ) (a : Agent) → StandsAt Node all n (listing n a) → agent_at all n ≡ a
listed_tree all n Skip s = agent_at-node all n nodes.Skip (stands-head s) tt
listed_tree all n (Tell c) s = agent_at-node all n (nodes.Tell c) (stands-head s) tt
listed_tree all n (Then c a) s = agent_at-node all n (nodes.Then c (suc n)) (stands-head s) (omega arith) ∙ ap (Then c) (listed_tree all (suc n) a (stands-tail s))
listed_tree all n (Else c a) s = agent_at-node all n (nodes.Else c (suc n)) (stands-head s) (omega arith) ∙ ap (Else c) (listed_tree all (suc n) a (stands-tail s))
listed_tree all n (New cell a) s = agent_at-node all n (nodes.New cell (suc n)) (stands-head s) (omega arith) ∙ ap (New cell) (listed_tree all (suc n) a (stands-tail s))
listed_tree all n (Hence a) s = agent_at-node all n (nodes.Hence (suc n)) (stands-head s) (omega arith) ∙ ap Hence (listed_tree all (suc n) a (stands-tail s))
listed_tree all n (Next a) s = agent_at-node all n (nodes.Next (suc n)) (stands-head s) (omega arith) ∙ ap Next (listed_tree all (suc n) a (stands-tail s))
listed_tree all n (Par l r) s =
    agent_at-node all n (nodes.Par (suc n) (suc n + size l)) (stands-head s) (omega arith, omega arith)
    ∙ ap (λ x. Par x (agent_at all (suc n + size l))) (listed_tree all (suc n) l (left_listed l r s))
    ∙ ap (Par l) (listed_tree all (suc n + size l) r (right_listed l r s))

-- the root's tree is the one that was listed
pub root_tree : (all : List Node) (w : IsListing all) → agent_at all 0 ≡ w.0
root_tree all w = listed_tree all 0 w.0 (stands-itself w.1)

-- n nodes
skips : ℕ → List Node
skips zero = []
skips (suc n) = nodes.Skip ∷ skips n

length-skips : (n : ℕ) → length (skips n) ≡ n
unfolding skips
length-skips zero = refl
length-skips (suc n) = ap suc (length-skips n)

same_rest : (front x y : List Node) → front ++ x ≡ front ++ y → x ≡ y
same_rest [] x y e = e
same_rest (node ∷ front) x y e = same_rest front x y cc

-- what begins with the listings of two trees begins with one tree
pub one_front : (n : ℕ) (a b : Agent) (x y : List Node) → listing n a ++ x ≡ listing n b ++ y → (a ≡ b) × (x ≡ y)
one_front n a b x y e =
    let all : List Node = skips n ++ (listing n a ++ x) in
    let first : agent_at all n ≡ a = listed_tree all n a (record { front = skips n; back = x; whole = refl; long = length-skips n }) in
    let second : agent_at all n ≡ b = listed_tree all n b (record { front = skips n; back = y; whole = ap (λ (ys : List Node). skips n ++ ys) e; long = length-skips n }) in
    let same : a ≡ b = sym first ∙ second in
    (same, same_rest (listing n a) x y (e ∙ ap (λ (c : Agent). listing n c ++ y) (sym same)))
