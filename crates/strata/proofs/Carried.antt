-- Each edge of a program is carried by its bounds: so a table that meets the bounds stratifies, and cells that edges join are joined by bounds.
use Rattle.std.proofs.Common.{◌≡◌, ℕ, zero, suc, ◌+◌, Bool, true, false, List, [], ◌∷◌, ◌++◌, length, map, refl, sym, ap, ◌∙◌, subst, arith, append_assoc}
use Rattle.std.specs.Prelude.{All, Contains}
use Rattle.agent_core.specs.declared.node.Node.{Node}
use Rattle.agent_core.specs.Programs.{CoreProgram}
use Rattle.agent_core.specs.Agents.{Agent, Constraint, Skip, Tell, Then, Else, Par, New, Hence, Next, agent_at}
use Rattle.agent_core.specs.Listing.{size, listing, IsListing}
use Rattle.agent_core.specs.Strata.{Asked, Edge, asked_by, agent_edges, edges, In, Each}
use Rattle.agent_core.specs.Strata as strata
use Rattle.agent_core.proofs.ListingTrees.{length-listing, root_tree}
use Rattle.order_tables.specs.declared.bound.Bound.{Bound}
use Rattle.order_tables.specs.Bounds.{Satisfies, Path, HasPath}
use Rattle.order_tables.proofs.Lists.{all_at, all_by}
use Rattle.order_tables.proofs.Tables.{path-le}
use Rattle.strata.specs.Items.{bound, node_bounds, bounds_from, program_bounds}
use Rattle.strata.proofs.Members.{in_each, each-map, join, split, all_each}
use Rattle.strata.proofs.Under.{edge_of}

bounds_from-append : (cells n : ℕ) (xs ys : List Node) → bounds_from cells n (xs ++ ys) ≡ bounds_from cells n xs ++ bounds_from cells (n + length xs) ys
bounds_from-append cells n [] ys = let e : n ≡ n + 0 = omega arith in ap (λ (m : ℕ). bounds_from cells m ys) e
bounds_from-append cells n (x ∷ xs) ys =
    let e : suc n + length xs ≡ n + suc (length xs) = omega arith in
    let own : List Bound = node_bounds cells n x in
    ap (λ (zs : List Bound). own ++ zs) (bounds_from-append cells (suc n) xs ys ∙ ap (λ (m : ℕ). bounds_from cells (suc n) xs ++ bounds_from cells m ys) e)
    ∙ sym (append_assoc own (bounds_from cells (suc n) xs) (bounds_from cells (n + suc (length xs)) ys))

module _ (p : CoreProgram) where
  abbrev cells : ℕ
  cells = length p.cells

  abbrev Bounds : List Bound → Type 0
  Bounds es = Each (Contains (program_bounds p)) es

  further : (a b c : ℕ) (negative : Bool) → Contains (program_bounds p) (bound b c negative) → HasPath (program_bounds p) a b → HasPath (program_bounds p) a c
  further a b c negative i r = (suc r.0, (bound b c negative, r.1, i, refl))

  -- a bound leads from the asked cell, as negative as the ask, and on to x
  abbrev LeadsOn : Asked → ℕ → Type 0
  LeadsOn g x = (y : ℕ) × Contains (program_bounds p) (bound g.cell y g.negative) × HasPath (program_bounds p) y x

  abbrev pub IsCarried : Edge → Type 0
  IsCarried e = (y : ℕ) × Contains (program_bounds p) (bound e.guard.cell y e.guard.negative) × HasPath (program_bounds p) y e.told

  path_on : (n m : ℕ) (path : List Asked) → Contains (program_bounds p) (bound (cells + n) (cells + m) false) → Each (λ g. LeadsOn g (cells + n)) path → Each (λ g. LeadsOn g (cells + m)) path
  path_on n m path i h = each-map (λ g. LeadsOn g (cells + n)) (λ g. LeadsOn g (cells + m)) (λ g l. (l.0, l.1, further l.0 (cells + n) (cells + m) false i l.2)) path h

  asked_on : (n m : ℕ) (negative : Bool) (c : Constraint) → Bounds (map (λ x. bound x.0 (cells + m) negative) c) → Each (λ g. LeadsOn g (cells + m)) (asked_by n negative c)
  asked_on n m negative [] h = tt
  asked_on n m negative (x ∷ c) h = ((cells + m, h.0, (0, refl)), asked_on n m negative c h.1)

  one_told : (n d : ℕ) (path : List Asked) → Contains (program_bounds p) (bound (cells + n) d false) → Each (λ g. LeadsOn g (cells + n)) path → Each IsCarried (map (λ g. edge_of g n d) path)
  one_told n d [] i h = tt
  one_told n d (g ∷ path) i h = let l = h.0 in ((l.0, l.1, further l.0 (cells + n) d false i l.2), one_told n d path i h.1)

  told_on : (n : ℕ) (c : Constraint) (path : List Asked) → Bounds (map (λ x. bound (cells + n) x.0 false) c) → Each (λ g. LeadsOn g (cells + n)) path → Each IsCarried (agent_edges n (Tell c) path)
  told_on n [] path i h = tt
  told_on n (x ∷ c) path i h = join IsCarried (map (λ g. edge_of g n x.0) path) (agent_edges n (Tell c) path) (one_told n x.0 path i.0 h) (told_on n c path i.1 h)

  agent_on : (a : Agent) (n : ℕ) (path : List Asked) → Bounds (bounds_from cells n (listing n a)) → Each (λ g. LeadsOn g (cells + n)) path → Each IsCarried (agent_edges n a path)
  agent_on Skip n path i h = tt
  agent_on (Tell c) n path i h = told_on n c path (split (Contains (program_bounds p)) (map (λ x. bound (cells + n) x.0 false) c) [] i).0 h
  agent_on (Then c a) n path i h =
      let s = split (Contains (program_bounds p)) (map (λ x. bound x.0 (cells + suc n) false) c) (bounds_from cells (suc n) (listing (suc n) a)) i.1 in
      agent_on a (suc n) (path ++ asked_by n false c) s.1 (join (λ g. LeadsOn g (cells + suc n)) path (asked_by n false c) (path_on n (suc n) path i.0 h) (asked_on n (suc n) false c s.0))
  agent_on (Else c a) n path i h =
      let s = split (Contains (program_bounds p)) (map (λ x. bound x.0 (cells + suc n) true) c) (bounds_from cells (suc n) (listing (suc n) a)) i.1 in
      agent_on a (suc n) (path ++ asked_by n true c) s.1 (join (λ g. LeadsOn g (cells + suc n)) path (asked_by n true c) (path_on n (suc n) path i.0 h) (asked_on n (suc n) true c s.0))
  agent_on (Par l r) n path i h =
      let both = bounds_from-append cells (suc n) (listing (suc n) l) (listing (suc n + size l) r) ∙ ap (λ (k : ℕ). bounds_from cells (suc n) (listing (suc n) l) ++ bounds_from cells (suc n + k) (listing (suc n + size l) r)) (length-listing (suc n) l) in
      let s = split (Contains (program_bounds p)) (bounds_from cells (suc n) (listing (suc n) l)) (bounds_from cells (suc n + size l) (listing (suc n + size l) r)) (subst (λ (es : List Bound). Bounds es) both i.1.1) in
      join IsCarried (agent_edges (suc n) l path) (agent_edges (suc n + size l) r path) (agent_on l (suc n) path s.0 (path_on n (suc n) path i.0 h)) (agent_on r (suc n + size l) path s.1 (path_on n (suc n + size l) path i.1.0 h))
  agent_on (New cell a) n path i h = agent_on a (suc n) path i.1 (path_on n (suc n) path i.0 h)
  agent_on (Hence a) n path i h = agent_on a (suc n) [] i tt
  agent_on (Next a) n path i h = agent_on a (suc n) [] i tt

  module _ (w : IsListing p.nodes) where
    pub edges-carried : Each IsCarried (edges p)
    edges-carried =
        let root = root_tree p.nodes w in
        let list : p.nodes ≡ listing 0 (agent_at p.nodes 0) = w.1 ∙ ap (listing 0) (sym root) in
        let every : Bounds (program_bounds p) = all_each (Contains (program_bounds p)) (program_bounds p) (all_by (Contains (program_bounds p)) (program_bounds p) (λ x i. i)) in
        agent_on (agent_at p.nodes 0) 0 [] (subst (λ (ns : List Node). Bounds (bounds_from cells 0 ns)) list every) tt

    -- a table that meets the bounds meets the edges
    pub bounds-meet_edges : (t : List ℕ) → All (Satisfies t) (program_bounds p) → Each (strata.Meets t) (edges p)
    bounds-meet_edges t meets = each-map IsCarried (strata.Meets t) (λ e l.
        let first : Satisfies t (bound e.guard.cell l.0 e.guard.negative) = all_at (Satisfies t) (program_bounds p) (bound e.guard.cell l.0 e.guard.negative) meets l.1 in
        let on = path-le (program_bounds p) t meets l.2.0 l.0 e.told l.2.1 in
        omega arith)
        (edges p) edges-carried

    chains_join : (n a b c : ℕ) → HasPath (program_bounds p) a b → Path (program_bounds p) b c n → HasPath (program_bounds p) a c
    chains_join zero a b c r e = subst (HasPath (program_bounds p) a) e r
    chains_join (suc n) a b c r (e, chain, i, is) = let before = chains_join n a b e.low r chain in (suc before.0, (e, before.1, i, is))

    edge_chain : (n a b : ℕ) → strata.Chain (edges p) a b n → HasPath (program_bounds p) a b
    edge_chain zero a b e = (0, e)
    edge_chain (suc n) a b (e, chain, i, is) =
        let before = edge_chain n a e.guard.cell chain in
        let l = in_each IsCarried (edges p) e edges-carried i in
        subst (HasPath (program_bounds p) a) is (chains_join l.2.0 a l.0 e.told (further a e.guard.cell l.0 e.guard.negative l.1 before) l.2.1)

    -- cells that edges join are joined by bounds
    pub edges-bounds : (a b : ℕ) → strata.Reaches (edges p) a b → HasPath (program_bounds p) a b
    edges-bounds a b r = edge_chain r.0 a b r.1
