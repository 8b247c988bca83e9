-- How many leaves roots have.
use Rattle.std.proofs.Common.{◌≡◌, ℕ, suc, ◌+◌, ◌*◌, ◌≤◌, ◌<◌, List, [], ◌∷◌, ◌++◌, length, drop, get_or, map, max, refl, sym, ap, ◌∙◌, arith, length-append, Some, ◌⊎◌, inl, inr}
use Rattle.std.specs.Prelude.{slice_get}
use Rattle.std.proofs.lemmas.List.{drop_more, drop_all}
use Rattle.agent_core.specs.declared.node.Node.{Node}
use Rattle.agent_core.specs.declared.node.Node.TheVariants as nodes
use Rattle.agent_core.proofs.Parts.{IsPart}
use Rattle.agent_core.proofs.RestTests.{node_found}
use Rattle.agent_core.specs.declared.node.Closure.{Closure}
use Rattle.agent_core.specs.Agents.{Agent, Constraint, Skip, Tell, Then, Else, Par, New, Hence, Next, agent_of, agent_at}
use Rattle.agent_core.specs.Programs.{CoreProgram}
use Rattle.agent_core.specs.WellFormed.{IsWellFormed}
use Rattle.agent_core.specs.Listing.{size}
use Rattle.agent_core.specs.Leaves as core
use Rattle.agent_core.proofs.Places.{size-within, node_of_listing}
use Rattle.agent_core.proofs.Scopes.{placed}
use Rattle.instant_net.specs.Programs.{leaf_named, root_leaves, agent_leaf_count}

pub length-map : {X Y : Type 0} (f : X → Y) (xs : List X) → length (map f xs) ≡ length xs
length-map f [] = refl
length-map f (x ∷ xs) = ap suc (length-map f xs)

count-size : (a : Agent) → agent_leaf_count a ≤ size a
count-size Skip = omega arith
count-size (Tell c) = omega arith
count-size (Then c a) = let h = count-size a in omega arith
count-size (Else c a) = let h = count-size a in omega arith
count-size (Par a b) = let h = count-size a in let g = count-size b in omega arith
count-size (New cell a) = let h = count-size a in omega arith
count-size (Hence a) = omega arith
count-size (Next a) = omega arith

pub leaf_count-is : (t : ℕ) (a : Agent) (n : ℕ) (b : List ℕ) (path : List core.Guard) → length (core.leaves_of t a n b path) ≡ agent_leaf_count a
leaf_count-is t Skip n b path = refl
leaf_count-is t (Tell c) n b path = refl
leaf_count-is t (Then c a) n b path = leaf_count-is t a (suc n) b (path ++ core.Positive b c ∷ [])
leaf_count-is t (Else c a) n b path = leaf_count-is t a (suc n) b (path ++ core.Negative b c ∷ [])
leaf_count-is t (Par l r) n b path =
    let x = leaf_count-is t l (suc n) b path in
    let y = leaf_count-is t r (suc n + size l) b path in
    omega (arith, length-append (core.leaves_of t l (suc n) b path) (core.leaves_of t r (suc n + size l) b path))
leaf_count-is t (New cell a) n b path = leaf_count-is t a (suc n) (b ++ t ∷ []) path
leaf_count-is t (Hence a) n b path = refl
leaf_count-is t (Next a) n b path = refl

-- a node has few leaves
pub few_leaves : (p : CoreProgram) → IsWellFormed p → (n : ℕ) → n < length p.nodes → agent_leaf_count (agent_at p.nodes n) ≤ 4096
few_leaves p is n lt =
    let at = placed p is n lt in
    let within = (size-within p.nodes n at.0 (agent_at p.nodes n) at.1.place).1 in
    let few = is.limits.few_nodes in
    let h = count-size (agent_at p.nodes n) in
    omega arith

-- the leaves of a node are those of its parts
pub count-node : (p : CoreProgram) → IsWellFormed p → (n : ℕ) (node : Node) → slice_get p.nodes n ≡ Some node → agent_leaf_count (agent_of (agent_at p.nodes) node) ≡ agent_leaf_count (agent_at p.nodes n)
count-node p is n node found = ap agent_leaf_count (sym (node_of_listing p.nodes is.tree n node found).tree)

-- so many leaves have been counted of the first i roots
pub record AreCounted (p : CoreProgram) (roots : List Closure) (i leaves : ℕ) : Type 0 where
  pub rest : (t : ℕ) → leaves + length (root_leaves p (drop i roots) t) ≡ length (root_leaves p roots t)
  pub few : leaves ≤ 4096 * i

pub length-first : (p : CoreProgram) (r : Closure) (rs : List Closure) (t : ℕ) → length (root_leaves p (r ∷ rs) t) ≡ agent_leaf_count (agent_at p.nodes r.node) + length (root_leaves p rs t)
length-first p r rs t =
    let here : List core.Leaf = core.leaves_of t (agent_at p.nodes r.node) r.node r.births [] in
    let x = leaf_count-is t (agent_at p.nodes r.node) r.node r.births [] in
    let y = length-map (leaf_named p) (here ++ core.leaves p rs t) in
    let z = length-map (leaf_named p) (core.leaves p rs t) in
    omega (arith, length-append here (core.leaves p rs t))

pub AreCounted-next : (p : CoreProgram) (roots : List Closure) (i leaves count : ℕ) (r : Closure) → AreCounted p roots i leaves → i < length roots → r ≡ get_or roots i r
    → count ≡ agent_leaf_count (agent_at p.nodes r.node) → count ≤ 4096 → AreCounted p roots (i + 1) (leaves + count)
AreCounted-next p roots i leaves count r h lt is e le = record {
  rest = λ t.
      let one : drop i roots ≡ r ∷ drop (i + 1) roots = drop_more roots i r lt ∙ ap (λ x. x ∷ drop (i + 1) roots) (sym is) in
      let x = ap (λ rs. length (root_leaves p rs t)) one in
      let y = length-first p r (drop (i + 1) roots) t in
      let z = h.rest t in
      omega arith;
  few = let f = h.few in omega arith;
}

pub AreCounted-all : (p : CoreProgram) (roots : List Closure) (i leaves : ℕ) → AreCounted p roots i leaves → length roots ≤ i → (t : ℕ) → leaves ≡ length (root_leaves p roots t)
AreCounted-all p roots i leaves h le t =
    let x = ap (λ rs. length (root_leaves p rs t)) (drop_all i roots le) in
    let z = h.rest t in
    omega arith

-- NODES

-- a read of a program's nodes
pub node-found : (p : CoreProgram) (all : List Node) (n : ℕ) (d : Node) → all ≡ p.nodes → n < length p.nodes → d ≡ get_or all n d → slice_get p.nodes n ≡ Some d
node-found = node_found

-- what the pattern of a node with one part within the instant says
abbrev pub HasBody : Node → ℕ → Type 0
HasBody d m = ((c : Constraint) × (d ≡ nodes.Then c m)) ⊎ (((c : Constraint) × (d ≡ nodes.Else c m)) ⊎ ((cell : ℕ) × (d ≡ nodes.New cell m)))

-- the part is behind its node, and one of the program's
pub record HasPart (p : CoreProgram) (n m : ℕ) : Type 0 where
  pub above : n < m
  pub inside : m < length p.nodes

module _ (p : CoreProgram) (is : IsWellFormed p) (n : ℕ) where
  part-of : (d m : ℕ) → IsPart p.nodes n d m → HasPart p n m
  part-of d m h = record { above = h.above; inside = h.inside }

  pub part-then : (d : Node) (m : ℕ) → slice_get p.nodes n ≡ Some d → HasBody d m → HasPart p n m
  part-then d m found (inl e) = part-of _ m (node_of_listing p.nodes is.tree n (nodes.Then e.0 m) (found ∙ ap Some e.1)).parts
  part-then d m found (inr (inl e)) = part-of _ m (node_of_listing p.nodes is.tree n (nodes.Else e.0 m) (found ∙ ap Some e.1)).parts
  part-then d m found (inr (inr e)) = part-of _ m (node_of_listing p.nodes is.tree n (nodes.New e.0 m) (found ∙ ap Some e.1)).parts

  pub part-left : (l r : ℕ) → slice_get p.nodes n ≡ Some (nodes.Par l r) → HasPart p n l
  part-left l r found = part-of _ l (node_of_listing p.nodes is.tree n (nodes.Par l r) found).parts.0

  pub part-right : (l r : ℕ) → slice_get p.nodes n ≡ Some (nodes.Par l r) → HasPart p n r
  part-right l r found = part-of _ r (node_of_listing p.nodes is.tree n (nodes.Par l r) found).parts.1

  pub count-par : (l r : ℕ) → slice_get p.nodes n ≡ Some (nodes.Par l r) → agent_leaf_count (agent_at p.nodes l) + agent_leaf_count (agent_at p.nodes r) ≡ agent_leaf_count (agent_at p.nodes n)
  count-par l r found = count-node p is n (nodes.Par l r) found

  pub count-body : (d : Node) (m : ℕ) → slice_get p.nodes n ≡ Some d → HasBody d m → agent_leaf_count (agent_at p.nodes m) ≡ agent_leaf_count (agent_at p.nodes n)
  count-body d m found (inl e) = count-node p is n (nodes.Then e.0 m) (found ∙ ap Some e.1)
  count-body d m found (inr (inl e)) = count-node p is n (nodes.Else e.0 m) (found ∙ ap Some e.1)
  count-body d m found (inr (inr e)) = count-node p is n (nodes.New e.0 m) (found ∙ ap Some e.1)

  pub one-leaf : (d : Node) → slice_get p.nodes n ≡ Some d → (d ≡ nodes.Skip) ⊎ (((c : Constraint) × (d ≡ nodes.Tell c)) ⊎ (((m : ℕ) × (d ≡ nodes.Hence m)) ⊎ ((m : ℕ) × (d ≡ nodes.Next m)))) → 1 ≡ agent_leaf_count (agent_at p.nodes n)
  one-leaf d found (inl e) = count-node p is n nodes.Skip (found ∙ ap Some e)
  one-leaf d found (inr (inl e)) = count-node p is n (nodes.Tell e.0) (found ∙ ap Some e.1)
  one-leaf d found (inr (inr (inl e))) = count-node p is n (nodes.Hence e.0) (found ∙ ap Some e.1)
  one-leaf d found (inr (inr (inr e))) = count-node p is n (nodes.Next e.0) (found ∙ ap Some e.1)
