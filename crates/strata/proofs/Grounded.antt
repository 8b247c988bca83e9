-- What each bound of a program stands for.
use Rattle.std.proofs.Common.{◌≡◌, ◌⊎◌, inl, inr, ℕ, suc, ◌+◌, ◌<◌, Bool, false, true, List, [], ◌∷◌, Some, length, map, refl, sym, subst, arith}
use Rattle.std.specs.Prelude.{slice_get}
use Rattle.std.proofs.lemmas.Option.{slice_get_within}
use Rattle.agent_core.specs.declared.node.Node.{Node}
use Rattle.agent_core.specs.declared.node.Node.TheVariants as nodes
use Rattle.agent_core.specs.Programs.{CoreProgram}
use Rattle.agent_core.specs.Agents.{Agent, Constraint, Skip, Tell, Then, Else, Par, New, Hence, Next, agent_at}
use Rattle.agent_core.specs.Listing.{size}
use Rattle.agent_core.specs.WellFormed.{IsWellFormed}
use Rattle.agent_core.specs.Strata.{Asked, Edge, asked_by, edges, tells_of, In, Each}
use Rattle.agent_core.proofs.Standing.{stands-head}
use Rattle.order_tables.specs.declared.bound.Bound.{Bound}
use Rattle.strata.specs.Items.{bound, node_bounds, bounds_from, program_bounds, AskInside, NodeInside, AllInside}
use Rattle.strata.proofs.Members.{join, in_left, in_right}
use Rattle.strata.proofs.Under.{Under, Under-goes_down, under, under-within, tells, tells-at, edge_of, path_edge, asked_in, scope-inside}

-- from a node to a cell that is told below it
pub record ToldBound (p : CoreProgram) (e : Bound) : Type 0 where
  pub from : ℕ
  pub told : ℕ
  pub is : e ≡ bound (length p.cells + from) told false
  pub node : from < length p.nodes
  pub cell : told < length p.cells
  pub below : (t : ℕ) × In (t, told) (tells p from)

-- from a node to one below which no other cells are told
pub record DownBound (p : CoreProgram) (e : Bound) : Type 0 where
  pub from : ℕ
  pub to : ℕ
  pub is : e ≡ bound (length p.cells + from) (length p.cells + to) false
  pub node : from < length p.nodes
  pub part : to < length p.nodes
  pub below : (t : ℕ × ℕ) → In t (tells p to) → In t (tells p from)

-- from an asked cell to the node below the ask: with each cell that is told below it makes an edge
pub record AskBound (p : CoreProgram) (e : Bound) : Type 0 where
  pub asked : ℕ
  pub to : ℕ
  pub negative : Bool
  pub is : e ≡ bound asked (length p.cells + to) negative
  pub cell : asked < length p.cells
  pub part : to < length p.nodes
  pub makes : (t : ℕ × ℕ) → In t (tells p to) → (x : Edge) × In x (edges p) × (x.guard.cell ≡ asked) × (x.guard.negative ≡ negative) × (x.told ≡ t.1)

abbrev pub Grounded : CoreProgram → Bound → Type 0
Grounded p e = ToldBound p e ⊎ (DownBound p e ⊎ AskBound p e)

-- what holds of the bounds of each node holds of all bounds
each-bounds_from : (P : Bound → Type 0) (cells n : ℕ) (all : List Node) → ((k : ℕ) (node : Node) → slice_get all k ≡ Some node → Each P (node_bounds cells (n + k) node)) → Each P (bounds_from cells n all)
each-bounds_from P cells n [] h = tt
each-bounds_from P cells n (first ∷ later) h =
    let at : n + 0 ≡ n = omega arith in
    join P (node_bounds cells n first) (bounds_from cells (suc n) later) (subst (λ (m : ℕ). Each P (node_bounds cells m first)) at (h 0 first refl))
    (each-bounds_from P cells (suc n) later (λ k node e. let to : n + suc k ≡ suc n + k = omega arith in subst (λ (m : ℕ). Each P (node_bounds cells m node)) to (h (suc k) node e)))

module _ (p : CoreProgram) where
  abbrev cells : ℕ
  cells = length p.cells

  told_bounds : (n : ℕ) (c : Constraint) → n < length p.nodes → AskInside cells c → ((t : ℕ × ℕ) → In t (map (λ x. (n, x.0)) c) → In t (tells p n)) → Each (Grounded p) (map (λ x. bound (cells + n) x.0 false) c)
  told_bounds n [] lt is sub = tt
  told_bounds n (x ∷ c) lt is sub = (inl (record { from = n; told = x.0; is = refl; node = lt; cell = is.0; below = (n, sub (n, x.0) (inl refl)) }), told_bounds n c lt is.1 (λ t i. sub t (inr i)))

  ask_bounds : (m : ℕ) (negative : Bool) (c : Constraint) → m < length p.nodes → AskInside cells c
      → ((x : ℕ) → In x (map (λ y. y.0) c) → (t : ℕ × ℕ) → In t (tells p m) → (e : Edge) × In e (edges p) × (e.guard.cell ≡ x) × (e.guard.negative ≡ negative) × (e.told ≡ t.1))
      → Each (Grounded p) (map (λ x. bound x.0 (cells + m) negative) c)
  ask_bounds m negative [] lt is makes = tt
  ask_bounds m negative (x ∷ c) lt is makes = (inr (inr (record { asked = x.0; to = m; negative = negative; is = refl; cell = is.0; part = lt; makes = makes x.0 (inl refl) })), ask_bounds m negative c lt is.1 (λ y i. makes y (inr i)))

  down : (n m : ℕ) → n < length p.nodes → m < length p.nodes → ((t : ℕ × ℕ) → In t (tells p m) → In t (tells p n)) → Grounded p (bound (cells + n) (cells + m) false)
  down n m ln lm sub = inr (inl (record { from = n; to = m; is = refl; node = ln; part = lm; below = sub }))

  -- what is told below a part is told below the node
  narrow : (n m : ℕ) (l k : List ℕ) (a b : Agent) → Under p n l a → Under p m k b → ((t : ℕ × ℕ) → In t (tells_of m b) → In t (tells_of n a)) → (t : ℕ × ℕ) → In t (tells p m) → In t (tells p n)
  narrow n m l k a b u v sub t i = subst (In t) (sym (tells-at p n l a u)) (sub t (subst (In t) (tells-at p m k b v) i))

  node_grounded : (n : ℕ) (locals : List ℕ) (a : Agent) → Under p n locals a → (node : Node) × (slice_get p.nodes n ≡ Some node) × NodeInside cells (length p.nodes) node × Each (Grounded p) (node_bounds cells n node)
  node_grounded n locals Skip u = (nodes.Skip, stands-head u.stands, tt, tt)
  node_grounded n locals (Tell c) u =
      let is = scope-inside p locals c u.scoped.tokens in
      (nodes.Tell c, stands-head u.stands, is, told_bounds n c (under-within p n locals (Tell c) u) is (λ t i. subst (In t) (sym (tells-at p n locals (Tell c) u)) i))
  node_grounded n locals (Then c a) u =
      let v = (Under-goes_down p).then_body n locals c a u in
      let lt = under-within p (suc n) locals a v in
      let is = scope-inside p locals c u.scoped.0.tokens in (
        nodes.Then c (suc n),
        stands-head u.stands,
        (is, lt),
        (
          down n (suc n) (under-within p n locals (Then c a) u) lt (narrow n (suc n) locals locals (Then c a) a u v (λ t i. i)),
          ask_bounds (suc n) false c lt is (λ x i t j.
              let g : Asked = record { node = n; cell = x; negative = false } in
              (edge_of g t.0 t.1, path_edge p (suc n) locals a v g (in_right g u.path (asked_by n false c) (asked_in n false c x i)) t j, refl, refl, refl)),
        ),
      )
  node_grounded n locals (Else c a) u =
      let v = (Under-goes_down p).else_body n locals c a u in
      let lt = under-within p (suc n) locals a v in
      let is = scope-inside p locals c u.scoped.0.tokens in (
        nodes.Else c (suc n),
        stands-head u.stands,
        (is, lt),
        (
          down n (suc n) (under-within p n locals (Else c a) u) lt (narrow n (suc n) locals locals (Else c a) a u v (λ t i. i)),
          ask_bounds (suc n) true c lt is (λ x i t j.
              let g : Asked = record { node = n; cell = x; negative = true } in
              (edge_of g t.0 t.1, path_edge p (suc n) locals a v g (in_right g u.path (asked_by n true c) (asked_in n true c x i)) t j, refl, refl, refl)),
        ),
      )
  node_grounded n locals (Par a b) u =
      let v = (Under-goes_down p).left n locals a b u in
      let w = (Under-goes_down p).right n locals a b u in
      let ln = under-within p n locals (Par a b) u in
      let lv = under-within p (suc n) locals a v in
      let lw = under-within p (suc n + size a) locals b w in (
        nodes.Par (suc n) (suc n + size a),
        stands-head u.stands,
        (lv, lw),
        (
          down n (suc n) ln lv (narrow n (suc n) locals locals (Par a b) a u v (λ t i. in_left t (tells_of (suc n) a) (tells_of (suc n + size a) b) i)),
          (
            down n (suc n + size a) ln lw (narrow n (suc n + size a) locals locals (Par a b) b u w (λ t i. in_right t (tells_of (suc n) a) (tells_of (suc n + size a) b) i)),
            tt,
          ),
        ),
      )
  node_grounded n locals (New cell a) u =
      let v = (Under-goes_down p).new_body n locals cell a u in
      let lt = under-within p (suc n) (cell ∷ locals) a v in
      (nodes.New cell (suc n), stands-head u.stands, lt, (down n (suc n) (under-within p n locals (New cell a) u) lt (narrow n (suc n) locals (cell ∷ locals) (New cell a) a u v (λ t i. i)), tt))
  node_grounded n locals (Hence a) u = (nodes.Hence (suc n), stands-head u.stands, under-within p (suc n) locals a ((Under-goes_down p).hence_body n locals a u), tt)
  node_grounded n locals (Next a) u = (nodes.Next (suc n), stands-head u.stands, under-within p (suc n) locals a ((Under-goes_down p).next_body n locals a u), tt)

  -- of a node of the program, its names lie inside and its bounds are grounded
  grounded_at : IsWellFormed p → (n : ℕ) (node : Node) → slice_get p.nodes n ≡ Some node → NodeInside cells (length p.nodes) node × Each (Grounded p) (node_bounds cells n node)
  grounded_at is n node e =
      let place = under p is n (slice_get_within p.nodes n node e) in
      let at = node_grounded n place.0 (agent_at p.nodes n) place.1 in
      let same : at.0 ≡ node = let found = at.1 in cc in
      subst (λ (x : Node). NodeInside cells (length p.nodes) x × Each (Grounded p) (node_bounds cells n x)) same (at.2, at.3)

  pub program-inside : IsWellFormed p → AllInside cells p.nodes
  program-inside is n node e = (grounded_at is n node e).0

  pub bounds-grounded : IsWellFormed p → Each (Grounded p) (program_bounds p)
  bounds-grounded is = each-bounds_from (Grounded p) cells 0 p.nodes (λ k node e. let at : k ≡ 0 + k = omega arith in subst (λ (m : ℕ). Each (Grounded p) (node_bounds cells m node)) at (grounded_at is k node e).1)
