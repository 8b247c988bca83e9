-- The cases are the edges that come from an else.
use Rattle.std.proofs.Common.{◌≡◌, inl, inr, ℕ, suc, ◌+◌, ◌<◌, Bool, true, false, List, [], ◌∷◌, ◌++◌, length, map, refl, sym, ap, subst, arith}
use Rattle.std.specs.List.{range_with_len}
use Rattle.agent_core.specs.Programs.{CoreProgram}
use Rattle.agent_core.specs.Agents.{Agent, Constraint, Skip, Tell, Then, Else, Par, New, Hence, Next, agent_at}
use Rattle.agent_core.specs.Listing.{size}
use Rattle.agent_core.specs.WellFormed.{IsWellFormed}
use Rattle.agent_core.specs.Strata.{Asked, Edge, asked_by, agent_edges, edges, tells_of, cases_at, cases, In, Each}
use Rattle.agent_core.proofs.ListingTrees.{listed_tree}
use Rattle.strata.proofs.Members.{in_left, in_right, in_map, map_in, in_flat_map, flat_map_in, in_range, range_in, in_each, each-map, join}
use Rattle.strata.proofs.Under.{Under, Under-goes_down, root_under, under, under-within, tells-at, edge_of, path_edge, asked_in}

abbrev else_asked : ℕ → ℕ → Asked
else_asked n cell = record { node = n; cell = cell; negative = true }

-- EACH CASE IS AN EDGE

case_at : (p : CoreProgram) (n : ℕ) (locals : List ℕ) (a : Agent) → Under p n locals a → (e : Edge) → In e (cases_at n a) → In e (edges p) × (e.guard.negative ≡ true)
case_at p n locals Skip u e i = absurd i
case_at p n locals (Tell c) u e i = absurd i
case_at p n locals (Then c a) u e i = absurd i
case_at p n locals (Par l r) u e i = absurd i
case_at p n locals (New cell a) u e i = absurd i
case_at p n locals (Hence a) u e i = absurd i
case_at p n locals (Next a) u e i = absurd i
case_at p n locals (Else c a) u e i =
    let v = (Under-goes_down p).else_body n locals c a u in
    let t = flat_map_in (λ x. map (λ g. edge_of (else_asked n g.0) x.0 x.1) c) e (tells_of (suc n) a) i in
    let g = map_in (λ g. edge_of (else_asked n g.0) t.0.0 t.0.1) e c t.2 in
    let asked : In (else_asked n g.0.0) v.path = in_right (else_asked n g.0.0) u.path (asked_by n true c) (asked_in n true c g.0.0 (in_map (λ y. y.0) g.0 c g.1)) in
    let edge = path_edge p (suc n) locals a v (else_asked n g.0.0) asked t.0 (subst (In t.0) (sym (tells-at p (suc n) locals a v)) t.1) in
    (subst (λ (x : Edge). In x (edges p)) (sym g.2) edge, ap (λ (x : Edge). x.guard.negative) g.2)

pub case-edge : (p : CoreProgram) → IsWellFormed p → (e : Edge) → In e (cases p) → In e (edges p) × (e.guard.negative ≡ true)
case-edge p is e i =
    let n = flat_map_in (λ n. cases_at n (agent_at p.nodes n)) e (range_with_len 0 (length p.nodes)) i in
    let lt = range_in 0 (length p.nodes) n.0 n.1 in
    let place = under p is n.0 (omega arith) in
    case_at p n.0 place.0 (agent_at p.nodes n.0) place.1 e n.2

-- EACH EDGE FROM AN ELSE IS A CASE

module _ (p : CoreProgram) where
  -- where an else asks, it is a node of the program, and what is told below the agent is told below it
  abbrev ElseAbove : ℕ → Agent → Asked → Type 0
  ElseAbove n a g = g.negative ≡ true → (c : Constraint) × (b : Agent) × (agent_at p.nodes g.node ≡ Else c b) × (g.node < length p.nodes) × In g.cell (map (λ x. x.0) c)
      × ((t : ℕ × ℕ) → In t (tells_of n a) → In t (tells_of (suc g.node) b))

  narrower : (n m : ℕ) (a b : Agent) (path : List Asked) → ((t : ℕ × ℕ) → In t (tells_of m b) → In t (tells_of n a)) → Each (ElseAbove n a) path → Each (ElseAbove m b) path
  narrower n m a b path sub h = each-map (ElseAbove n a) (ElseAbove m b) (λ g f s. let e = f s in (e.0, e.1, e.2, e.3, e.4, λ t i. e.5 t (sub t i))) path h

  then_above : (n m : ℕ) (a : Agent) (c : Constraint) → Each (ElseAbove m a) (asked_by n false c)
  then_above n m a [] = tt
  then_above n m a (x ∷ c) = (λ s. absurd (cc), then_above n m a c)

  else_above : (n : ℕ) (a : Agent) (all c : Constraint) → agent_at p.nodes n ≡ Else all a → n < length p.nodes → ((x : ℕ) → In x (map (λ y. y.0) c) → In x (map (λ y. y.0) all)) → Each (ElseAbove (suc n) a) (asked_by n true c)
  else_above n a all [] e lt sub = tt
  else_above n a all (x ∷ c) e lt sub = (λ s. (all, a, e, lt, sub x.0 (inl refl), λ t i. i), else_above n a all c e lt (λ y i. sub y (inr i)))

  abbrev IsCase : Edge → Type 0
  IsCase e = e.guard.negative ≡ true → In e (cases p)

  -- an else node with an asked cell and a told one
  makes_case : (n : ℕ) (c : Constraint) (b : Agent) (cell : ℕ) (t : ℕ × ℕ) → agent_at p.nodes n ≡ Else c b → n < length p.nodes → In cell (map (λ x. x.0) c) → In t (tells_of (suc n) b) → In (edge_of (else_asked n cell) t.0 t.1) (cases p)
  makes_case n c b cell t e lt i j =
      let g = map_in (λ x. x.0) cell c i in
      let one : In (edge_of (else_asked n cell) t.0 t.1) (map (λ x. edge_of (else_asked n x.0) t.0 t.1) c) =
      subst (λ (k : ℕ). In (edge_of (else_asked n k) t.0 t.1) (map (λ x. edge_of (else_asked n x.0) t.0 t.1) c)) (sym g.2) (in_map (λ x. edge_of (else_asked n x.0) t.0 t.1) g.0 c g.1) in
      let at : In (edge_of (else_asked n cell) t.0 t.1) (cases_at n (Else c b)) = in_flat_map (λ y. map (λ x. edge_of (else_asked n x.0) y.0 y.1) c) t (edge_of (else_asked n cell) t.0 t.1) (tells_of (suc n) b) j one in
      in_flat_map (λ n. cases_at n (agent_at p.nodes n)) n (edge_of (else_asked n cell) t.0 t.1) (range_with_len 0 (length p.nodes)) (in_range 0 (length p.nodes) n (omega arith) (omega arith))
      (subst (λ (a : Agent). In (edge_of (else_asked n cell) t.0 t.1) (cases_at n a)) (sym e) at)

  one_cased : (n d : ℕ) (a : Agent) (path : List Asked) → In (n, d) (tells_of n a) → Each (ElseAbove n a) path → Each IsCase (map (λ g. edge_of g n d) path)
  one_cased n d a [] i h = tt
  one_cased n d a (g ∷ path) i h = (
    λ s.
        let e = h.0 s in
        subst (λ (b : Bool). In (edge_of (record { node = g.node; cell = g.cell; negative = b }) n d) (cases p)) (sym s) (makes_case g.node e.0 e.1 g.cell (n, d) e.2 e.3 e.4 (e.5 (n, d) i)),
    one_cased n d a path i h.1,
  )

  tell_cased : (n : ℕ) (all c : Constraint) (path : List Asked) → ((x : ℕ) → In x (map (λ y. y.0) c) → In (n, x) (tells_of n (Tell all))) → Each (ElseAbove n (Tell all)) path → Each IsCase (agent_edges n (Tell c) path)
  tell_cased n all [] path sub h = tt
  tell_cased n all (x ∷ c) path sub h = join IsCase (map (λ g. edge_of g n x.0) path) (agent_edges n (Tell c) path) (one_cased n x.0 (Tell all) path (sub x.0 (inl refl)) h) (tell_cased n all c path (λ y i. sub y (inr i)) h)

  told_at : (n : ℕ) (c : Constraint) (x : ℕ) → In x (map (λ y. y.0) c) → In (n, x) (tells_of n (Tell c))
  told_at n [] x i = absurd i
  told_at n (y ∷ c) x (inl e) = inl (ap (λ (k : ℕ). (n, k)) e)
  told_at n (y ∷ c) x (inr i) = inr (told_at n c x i)

  cased : (a : Agent) (n : ℕ) (locals : List ℕ) → Under p n locals a → (path : List Asked) → Each (ElseAbove n a) path → Each IsCase (agent_edges n a path)
  cased Skip n locals u path h = tt
  cased (Tell c) n locals u path h = tell_cased n c c path (told_at n c) h
  cased (Then c a) n locals u path h =
      cased a (suc n) locals ((Under-goes_down p).then_body n locals c a u) (path ++ asked_by n false c)
      (join (ElseAbove (suc n) a) path (asked_by n false c) (narrower n (suc n) (Then c a) a path (λ t i. i) h) (then_above n (suc n) a c))
  cased (Else c a) n locals u path h =
      cased a (suc n) locals ((Under-goes_down p).else_body n locals c a u) (path ++ asked_by n true c)
      (join (ElseAbove (suc n) a) path (asked_by n true c) (narrower n (suc n) (Else c a) a path (λ t i. i) h)
      (else_above n a c c (listed_tree p.nodes n (Else c a) u.stands) (under-within p n locals (Else c a) u) (λ x i. i)))
  cased (Par l r) n locals u path h =
      join IsCase (agent_edges (suc n) l path) (agent_edges (suc n + size l) r path)
      (cased l (suc n) locals ((Under-goes_down p).left n locals l r u) path (narrower n (suc n) (Par l r) l path (λ t i. in_left t (tells_of (suc n) l) (tells_of (suc n + size l) r) i) h))
      (cased r (suc n + size l) locals ((Under-goes_down p).right n locals l r u) path (narrower n (suc n + size l) (Par l r) r path (λ t i. in_right t (tells_of (suc n) l) (tells_of (suc n + size l) r) i) h))
  cased (New cell a) n locals u path h = cased a (suc n) (cell ∷ locals) ((Under-goes_down p).new_body n locals cell a u) path (narrower n (suc n) (New cell a) a path (λ t i. i) h)
  cased (Hence a) n locals u path h = cased a (suc n) locals ((Under-goes_down p).hence_body n locals a u) [] tt
  cased (Next a) n locals u path h = cased a (suc n) locals ((Under-goes_down p).next_body n locals a u) [] tt

  pub edge-case : IsWellFormed p → (e : Edge) → In e (edges p) → e.guard.negative ≡ true → In e (cases p)
  edge-case is e i = in_each IsCase (edges p) e (cased (agent_at p.nodes 0) 0 [] (root_under p is) [] tt) i
