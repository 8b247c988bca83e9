-- Each node of a program under the path of asks above it.
use Rattle.std.proofs.Common.{◌≡◌, ◌⊎◌, inl, inr, ℕ, suc, ◌+◌, ◌<◌, Bool, false, true, List, [], ◌∷◌, ◌++◌, length, map, sym, ap, ◌∙◌, subst, arith}
use Rattle.std.proofs.lemmas.Option.{slice_get_within}
use Rattle.agent_core.specs.declared.node.Node.{Node}
use Rattle.agent_core.specs.Programs.{CoreProgram}
use Rattle.agent_core.specs.Agents.{Agent, Constraint, Skip, Tell, Then, Else, Par, New, Hence, Next, agent_at}
use Rattle.agent_core.specs.Listing.{size, listing}
use Rattle.agent_core.specs.WellFormed.{AreInScope, Scoped, IsWellFormed}
use Rattle.agent_core.specs.Strata.{Asked, Edge, asked_by, agent_edges, edges, tells_of, In}
use Rattle.agent_core.proofs.Standing.{StandsAt, stands-itself, stands-tail, stands-within}
use Rattle.agent_core.proofs.ListingTrees.{length-listing, size-some, left_listed, right_listed, listed_tree, root_tree}
use Rattle.agent_core.proofs.Places.{GoesDown, each_node, size-root}
use Rattle.strata.specs.Items.{AskInside}
use Rattle.strata.proofs.Members.{in_left, in_right, in_either, in_map}

-- the tree stands at n, in the scope of these local cells, and its edges below the path are among the program's
pub record Under (p : CoreProgram) (n : ℕ) (locals : List ℕ) (a : Agent) : Type 0 where
  pub stands : StandsAt Node p.nodes n (listing n a)
  pub scoped : Scoped p locals a
  pub path : List Asked
  pub among : (e : Edge) → In e (agent_edges n a path) → In e (edges p)

abbrev pub Under-goes_down : (p : CoreProgram) → GoesDown (Under p)
Under-goes_down p = record {
  then_body = λ n locals c a h. record { stands = stands-tail h.stands; scoped = h.scoped.1; path = h.path ++ asked_by n false c; among = h.among };
  else_body = λ n locals c a h. record { stands = stands-tail h.stands; scoped = h.scoped.1; path = h.path ++ asked_by n true c; among = h.among };
  left = λ n locals a b h. record {
    stands = left_listed a b h.stands;
    scoped = h.scoped.0;
    path = h.path;
    among = λ e i. h.among e (in_left e (agent_edges (suc n) a h.path) (agent_edges (suc n + size a) b h.path) i);
  };
  right = λ n locals a b h. record {
    stands = right_listed a b h.stands;
    scoped = h.scoped.1;
    path = h.path;
    among = λ e i. h.among e (in_right e (agent_edges (suc n) a h.path) (agent_edges (suc n + size a) b h.path) i);
  };
  new_body = λ n locals cell a h. record { stands = stands-tail h.stands; scoped = h.scoped; path = h.path; among = h.among };
  hence_body = λ n locals a h. record { stands = stands-tail h.stands; scoped = h.scoped; path = []; among = h.among };
  next_body = λ n locals a h. record { stands = stands-tail h.stands; scoped = h.scoped; path = []; among = h.among };
}

pub root_under : (p : CoreProgram) → IsWellFormed p → Under p 0 [] (agent_at p.nodes 0)
root_under p is = record {
  stands = stands-itself (is.tree.1 ∙ ap (listing 0) (sym (root_tree p.nodes is.tree)));
  scoped = is.scoped;
  path = [];
  among = λ e i. i;
}

-- each node has its place under a path
pub under : (p : CoreProgram) → IsWellFormed p → (n : ℕ) → n < length p.nodes → (locals : List ℕ) × Under p n locals (agent_at p.nodes n)
under p is n lt =
    let long = size-root p.nodes is.tree in
    let found = each_node (Under p) (Under-goes_down p) 0 [] (agent_at p.nodes 0) (root_under p is) n n (omega arith) (omega arith) in
    (found.0, subst (Under p n found.0) (sym (listed_tree p.nodes n found.1 found.2.stands)) found.2)

pub under-within : (p : CoreProgram) (n : ℕ) (locals : List ℕ) (a : Agent) → Under p n locals a → n < length p.nodes
under-within p n locals a h = let e = stands-within h.stands in let f = length-listing n a in let g = size-some a in omega arith

-- WHAT IS TOLD BELOW A NODE

abbrev pub tells : CoreProgram → ℕ → List (ℕ × ℕ)
tells p n = tells_of n (agent_at p.nodes n)

pub tells-at : (p : CoreProgram) (n : ℕ) (locals : List ℕ) (a : Agent) → Under p n locals a → tells p n ≡ tells_of n a
tells-at p n locals a h = ap (tells_of n) (listed_tree p.nodes n a h.stands)

abbrev pub edge_of : Asked → ℕ → ℕ → Edge
edge_of g m d = record { guard = g; tell = m; told = d }

-- what is asked on the path and told below makes an edge
told_edge : (n : ℕ) (c : Constraint) (path : List Asked) (g : Asked) (t : ℕ × ℕ) → In g path → In t (map (λ x. (n, x.0)) c) → In (edge_of g t.0 t.1) (agent_edges n (Tell c) path)
told_edge n [] path g t i j = absurd j
told_edge n (x ∷ c) path g t i (inl e) =
    in_left (edge_of g t.0 t.1) (map (λ g. edge_of g n x.0) path) (agent_edges n (Tell c) path)
    (subst (λ (y : ℕ × ℕ). In (edge_of g y.0 y.1) (map (λ g. edge_of g n x.0) path)) (sym e) (in_map (λ g. edge_of g n x.0) g path i))
told_edge n (x ∷ c) path g t i (inr j) = in_right (edge_of g t.0 t.1) (map (λ g. edge_of g n x.0) path) (agent_edges n (Tell c) path) (told_edge n c path g t i j)

tell_edge : (a : Agent) (n : ℕ) (path : List Asked) (g : Asked) (t : ℕ × ℕ) → In g path → In t (tells_of n a) → In (edge_of g t.0 t.1) (agent_edges n a path)
tell_edge Skip n path g t i j = absurd j
tell_edge (Tell c) n path g t i j = told_edge n c path g t i j
tell_edge (Then c a) n path g t i j = tell_edge a (suc n) (path ++ asked_by n false c) g t (in_left g path (asked_by n false c) i) j
tell_edge (Else c a) n path g t i j = tell_edge a (suc n) (path ++ asked_by n true c) g t (in_left g path (asked_by n true c) i) j
tell_edge (New cell a) n path g t i j = tell_edge a (suc n) path g t i j
tell_edge (Hence a) n path g t i j = absurd j
tell_edge (Next a) n path g t i j = absurd j
tell_edge (Par l r) n path g t i j =
    go (in_either t (tells_of (suc n) l) (tells_of (suc n + size l) r) j) (λ h. tell_edge l (suc n) path g t i h) (λ h. tell_edge r (suc n + size l) path g t i h)
  where
    go : In t (tells_of (suc n) l) ⊎ In t (tells_of (suc n + size l) r) → (In t (tells_of (suc n) l) → In (edge_of g t.0 t.1) (agent_edges (suc n) l path))
        → (In t (tells_of (suc n + size l) r) → In (edge_of g t.0 t.1) (agent_edges (suc n + size l) r path)) → In (edge_of g t.0 t.1) (agent_edges (suc n) l path ++ agent_edges (suc n + size l) r path)
    go (inl h) left right = in_left (edge_of g t.0 t.1) (agent_edges (suc n) l path) (agent_edges (suc n + size l) r path) (left h)
    go (inr h) left right = in_right (edge_of g t.0 t.1) (agent_edges (suc n) l path) (agent_edges (suc n + size l) r path) (right h)

-- so what is asked on the path of a node and told below it makes an edge of the program
pub path_edge : (p : CoreProgram) (n : ℕ) (locals : List ℕ) (a : Agent) (u : Under p n locals a) (g : Asked) → In g u.path → (t : ℕ × ℕ) → In t (tells p n) → In (edge_of g t.0 t.1) (edges p)
path_edge p n locals a u g i t j = u.among (edge_of g t.0 t.1) (tell_edge a n u.path g t i (subst (In t) (tells-at p n locals a u) j))

pub asked_in : (n : ℕ) (negative : Bool) (c : Constraint) (x : ℕ) → In x (map (λ y. y.0) c) → In (record { node = n; cell = x; negative = negative }) (asked_by n negative c)
asked_in n negative [] x i = absurd i
asked_in n negative (y ∷ c) x (inl e) = inl (ap (λ (k : ℕ). record { node = n; cell = k; negative = negative }) e)
asked_in n negative (y ∷ c) x (inr i) = inr (asked_in n negative c x i)

-- the cells of a constraint in scope are the program's
pub scope-inside : (p : CoreProgram) (locals : List ℕ) (c : Constraint) → AreInScope p locals c → AskInside (length p.cells) c
scope-inside p locals [] h = tt
scope-inside p locals (x ∷ c) h = (slice_get_within p.cells x.0 h.0.decl h.0.found, scope-inside p locals c h.1)
