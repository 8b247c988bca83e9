-- The first of a list that passes, and the search for it step by step.
use Rattle.std.proofs.Common.{◌≡◌, ◌⊎◌, inl, inr, ℕ, suc, ◌+◌, ◌-◌, ◌<◌, ◌≤◌, Bool, true, false, List, [], ◌∷◌, ◌++◌, Some, None, length, map, drop, refl, sym, ap, ◌∙◌, subst, arith, append_assoc}
use Rattle.std.specs.Prelude.{slice_get, slice_index_or, flat_map, if◌then◌else◌}
use Rattle.std.specs.List.{range_with_len}
use Rattle.std.proofs.lemmas.List.{at_drop_more, map-append}
use Rattle.std.proofs.lemmas.Option.{slice_get-get_or}
use Rattle.token_system.specs.declared.cell.Token.{Token}
use Rattle.agent_core.specs.declared.node.Node.{Node}
use Rattle.agent_core.specs.declared.node.Node.TheVariants as nodes
use Rattle.agent_core.specs.Programs.{CoreProgram}
use Rattle.agent_core.specs.Agents.{Agent, Constraint, Tell, Else, agent_of, agent_at}
use Rattle.agent_core.specs.Listing.{size, IsListing}
use Rattle.agent_core.specs.Strata.{Edge, Each, tells_of, cases_at, cases}
use Rattle.agent_core.proofs.Parts.{IsPart}
use Rattle.agent_core.proofs.Places.{node_of_listing}
use Rattle.strata.specs.declared.search.Case.{Case}
use Rattle.strata.specs.Search.{first_that, told_below, pairs_with, pairs, edge_case, named}

-- WHAT IT SAYS

module _ {X : Type 0} (test : X → Bool) where
  first-some : (xs ys : List X) (x : X) → first_that test xs ≡ Some x → first_that test (xs ++ ys) ≡ Some x
  first-some [] ys x e = absurd (cc)
  first-some (y ∷ xs) ys x e = go (test y) (first-some xs ys x) e
    where
      go : (b : Bool) → (first_that test xs ≡ Some x → first_that test (xs ++ ys) ≡ Some x) → (if b then Some y else first_that test xs) ≡ Some x → (if b then Some y else first_that test (xs ++ ys)) ≡ Some x
      go true later h = h
      go false later h = later h

  first-none : (xs ys : List X) → first_that test xs ≡ None → first_that test (xs ++ ys) ≡ first_that test ys
  first-none [] ys e = refl
  first-none (y ∷ xs) ys e = go (test y) (first-none xs ys) e
    where
      go : (b : Bool) → (first_that test xs ≡ None → first_that test (xs ++ ys) ≡ first_that test ys) → (if b then Some y else first_that test xs) ≡ None → (if b then Some y else first_that test (xs ++ ys)) ≡ first_that test ys
      go true later h = absurd (cc)
      go false later h = later h

  -- the first one passes, and none before it does
  pub record IsFirst (xs : List X) (x : X) : Type 0 where
    pub before : List X
    pub later : List X
    pub stands : xs ≡ before ++ x ∷ later
    pub passes : test x ≡ true
    pub none : Each (λ y. test y ≡ false) before

  pub first-is : (xs : List X) (x : X) → first_that test xs ≡ Some x → IsFirst xs x
  first-is [] x e = absurd (cc)
  first-is (y ∷ xs) x e = go (test y) refl (first-is xs x) e
    where
      go : (b : Bool) → test y ≡ b → (first_that test xs ≡ Some x → IsFirst xs x) → (if b then Some y else first_that test xs) ≡ Some x → IsFirst (y ∷ xs) x
      go true eb later h =
          let same : y ≡ x = cc in
          record { before = []; later = xs; stands = ap (λ (z : X). z ∷ xs) same; passes = subst (λ (z : X). test z ≡ true) same eb; none = tt }
      go false eb later h = let r = later h in record { before = y ∷ r.before; later = r.later; stands = ap (λ (zs : List X). y ∷ zs) r.stands; passes = r.passes; none = (eb, r.none) }

  pub none-is : (xs : List X) → first_that test xs ≡ None → Each (λ y. test y ≡ false) xs
  none-is [] e = tt
  none-is (y ∷ xs) e = go (test y) refl (none-is xs) e
    where
      go : (b : Bool) → test y ≡ b → (first_that test xs ≡ None → Each (λ y. test y ≡ false) xs) → (if b then Some y else first_that test xs) ≡ None → Each (λ y. test y ≡ false) (y ∷ xs)
      go true eb later h = absurd (cc)
      go false eb later h = (eb, later h)

-- AMONG THE CELLS OF CONSTRAINTS

module _ (test : Case → Bool) (xs : Constraint) (i : ℕ) (d : ℕ × Token) (lt : i < length xs) where
  abbrev next : ℕ
  next = (slice_index_or xs i d).0

  pub told-hit : (ask : Constraint) (c : Case) → Some c ≡ first_that test (pairs_with ask next) → first_that test (pairs ask (map (λ x. x.0) (drop i xs))) ≡ Some c
  told-hit ask c e =
      at_drop_more (λ (s : Constraint). first_that test (pairs ask (map (λ x. x.0) s))) xs i d lt
      ∙ first-some test (pairs_with ask next) (pairs ask (map (λ x. x.0) (drop (i + 1) xs))) c (sym e)

  pub told-miss : (ask : Constraint) → None ≡ first_that test (pairs_with ask next) → first_that test (pairs ask (map (λ x. x.0) (drop i xs))) ≡ first_that test (pairs ask (map (λ x. x.0) (drop (i + 1) xs)))
  told-miss ask e =
      at_drop_more (λ (s : Constraint). first_that test (pairs ask (map (λ x. x.0) s))) xs i d lt
      ∙ first-none test (pairs_with ask next) (pairs ask (map (λ x. x.0) (drop (i + 1) xs))) (sym e)

-- BELOW A NODE

-- what an index reads
pub node_read : (all : List Node) (n : ℕ) (v node : Node) → n < length all → v ≡ slice_index_or all n v → v ≡ node → slice_get all n ≡ Some node
node_read all n v node lt is e = slice_get-get_or all n v lt ∙ ap Some (sym is ∙ e)

pub program_read : (p : CoreProgram) (all : List Node) → all ≡ p.nodes → (n : ℕ) (v node : Node) → n < length all → v ≡ slice_index_or all n v → v ≡ node → (n < length p.nodes) × (slice_get p.nodes n ≡ Some node)
program_read p all same n v node lt is e = (let l = ap length same in omega arith, subst (λ (ns : List Node). slice_get ns n ≡ Some node) same (node_read all n v node lt is e))

abbrev pub HasOnePart : Node → ℕ → Type 0
HasOnePart node body = ((ask : Constraint) × (node ≡ nodes.Then ask body)) ⊎ (((ask : Constraint) × (node ≡ nodes.Else ask body)) ⊎ ((cell : ℕ) × (node ≡ nodes.New cell body)))

pairs-append : (ask : Constraint) (xs ys : List ℕ) → pairs ask (xs ++ ys) ≡ pairs ask xs ++ pairs ask ys
pairs-append ask [] ys = refl
pairs-append ask (x ∷ xs) ys = ap (λ (zs : List Case). pairs_with ask x ++ zs) (pairs-append ask xs ys) ∙ sym (append_assoc (pairs_with ask x) (pairs ask xs) (pairs ask ys))

cells_of : (n : ℕ) (c : Constraint) → map (λ x. x.1) (tells_of n (Tell c)) ≡ map (λ x. x.0) c
cells_of n [] = refl
cells_of n (x ∷ c) = ap (λ (xs : List ℕ). x.0 ∷ xs) (cells_of n c)

module _ (all : List Node) (w : IsListing all) (n : ℕ) where
  at_node : (node : Node) → slice_get all n ≡ Some node → told_below all n ≡ map (λ x. x.1) (tells_of n (agent_of (agent_at all) node))
  at_node node g = ap (λ (a : Agent). map (λ x. x.1) (tells_of n a)) (node_of_listing all w n node g).tree

  pub below-tell : (c : Constraint) → slice_get all n ≡ Some (nodes.Tell c) → told_below all n ≡ map (λ x. x.0) c
  below-tell c g = at_node (nodes.Tell c) g ∙ cells_of n c

  below_part : (body : ℕ) → body ≡ suc n → told_below all body ≡ map (λ x. x.1) (tells_of (suc n) (agent_at all body))
  below_part body e = ap (λ (m : ℕ). map (λ x. x.1) (tells_of m (agent_at all body))) e

  below-then : (c : Constraint) (body : ℕ) → slice_get all n ≡ Some (nodes.Then c body) → told_below all n ≡ told_below all body
  below-then c body g = at_node (nodes.Then c body) g ∙ sym (below_part body (node_of_listing all w n (nodes.Then c body) g).follow)

  below-else : (c : Constraint) (body : ℕ) → slice_get all n ≡ Some (nodes.Else c body) → told_below all n ≡ told_below all body
  below-else c body g = at_node (nodes.Else c body) g ∙ sym (below_part body (node_of_listing all w n (nodes.Else c body) g).follow)

  below-new : (cell body : ℕ) → slice_get all n ≡ Some (nodes.New cell body) → told_below all n ≡ told_below all body
  below-new cell body g = at_node (nodes.New cell body) g ∙ sym (below_part body (node_of_listing all w n (nodes.New cell body) g).follow)

  pub below-par : (left right : ℕ) → slice_get all n ≡ Some (nodes.Par left right) → told_below all n ≡ told_below all left ++ told_below all right
  below-par left right g =
      let f = (node_of_listing all w n (nodes.Par left right) g).follow in
      let place : right ≡ suc n + size (agent_at all left) = f.1 ∙ ap (λ (m : ℕ). suc n + size (agent_at all m)) (sym f.0) in
      at_node (nodes.Par left right) g ∙ map-append (λ (x : ℕ × ℕ). x.1) (tells_of (suc n) (agent_at all left)) (tells_of (suc n + size (agent_at all left)) (agent_at all right))
      ∙ ap (λ (xs : List ℕ). xs ++ map (λ x. x.1) (tells_of (suc n + size (agent_at all left)) (agent_at all right))) (sym (below_part left f.0))
      ∙ ap (λ (m : ℕ). told_below all left ++ map (λ x. x.1) (tells_of m (agent_at all right))) (sym place)

  pub below-part : (node : Node) (body : ℕ) → slice_get all n ≡ Some node → HasOnePart node body → told_below all n ≡ told_below all body
  below-part node body g (inl h) = below-then h.0 body (g ∙ ap Some h.1)
  below-part node body g (inr (inl h)) = below-else h.0 body (g ∙ ap Some h.1)
  below-part node body g (inr (inr h)) = below-new h.0 body (g ∙ ap Some h.1)

  abbrev IsBehind : ℕ → Type 0
  IsBehind m = (n < m) × (m < length all)

  behind : (k m : ℕ) → IsPart all n k m → IsBehind m
  behind k m h = (h.above, h.inside)

  pub part-behind : (node : Node) (body : ℕ) → slice_get all n ≡ Some node → HasOnePart node body → IsBehind body
  part-behind node body g (inl h) = behind _ body (node_of_listing all w n (nodes.Then h.0 body) (g ∙ ap Some h.1)).parts
  part-behind node body g (inr (inl h)) = behind _ body (node_of_listing all w n (nodes.Else h.0 body) (g ∙ ap Some h.1)).parts
  part-behind node body g (inr (inr h)) = behind _ body (node_of_listing all w n (nodes.New h.0 body) (g ∙ ap Some h.1)).parts

  pub par-behind : (left right : ℕ) → slice_get all n ≡ Some (nodes.Par left right) → IsBehind left × IsBehind right
  par-behind left right g = let h = (node_of_listing all w n (nodes.Par left right) g).parts in (behind _ left h.0, behind _ right h.1)

  -- tells of nothing within the instant
  pub below-none : (node : Node) → slice_get all n ≡ Some node → (node ≡ nodes.Skip) ⊎ (((body : ℕ) × (node ≡ nodes.Hence body)) ⊎ ((body : ℕ) × (node ≡ nodes.Next body))) → told_below all n ≡ []
  below-none node g (inl e) = at_node node g ∙ ap (λ (x : Node). map (λ t. t.1) (tells_of n (agent_of (agent_at all) x))) e
  below-none node g (inr (inl e)) = at_node node g ∙ ap (λ (x : Node). map (λ t. t.1) (tells_of n (agent_of (agent_at all) x))) e.1
  below-none node g (inr (inr e)) = at_node node g ∙ ap (λ (x : Node). map (λ t. t.1) (tells_of n (agent_of (agent_at all) x))) e.1

pub par-hit : (test : Case → Bool) (ask : Constraint) (xs ys : List ℕ) (c : Case) → Some c ≡ first_that test (pairs ask xs) → Some c ≡ first_that test (pairs ask (xs ++ ys))
par-hit test ask xs ys c e = sym (first-some test (pairs ask xs) (pairs ask ys) c (sym e)) ∙ ap (first_that test) (sym (pairs-append ask xs ys))

pub par-miss : (test : Case → Bool) (ask : Constraint) (xs ys : List ℕ) → None ≡ first_that test (pairs ask xs) → first_that test (pairs ask ys) ≡ first_that test (pairs ask (xs ++ ys))
par-miss test ask xs ys e = sym (first-none test (pairs ask xs) (pairs ask ys) (sym e)) ∙ ap (first_that test) (sym (pairs-append ask xs ys))

-- AMONG THE CASES

-- the cases of the nodes from number n on
abbrev pub cases_from : CoreProgram → ℕ → List Edge
cases_from p n = flat_map (λ m. cases_at m (agent_at p.nodes m)) (range_with_len n (length p.nodes - n))

cases_from-step : (p : CoreProgram) (n : ℕ) → n < length p.nodes → cases_from p n ≡ cases_at n (agent_at p.nodes n) ++ cases_from p (n + 1)
cases_from-step p n lt =
    let e : length p.nodes - n ≡ suc (length p.nodes - (n + 1)) = omega arith in
    ap (λ (k : ℕ). flat_map (λ m. cases_at m (agent_at p.nodes m)) (range_with_len n k)) e

pub cases_from-start : (p : CoreProgram) → cases p ≡ cases_from p 0
cases_from-start p = let e : length p.nodes ≡ length p.nodes - 0 = omega arith in ap (λ (k : ℕ). flat_map (λ m. cases_at m (agent_at p.nodes m)) (range_with_len 0 k)) e

pub cases_from-end : (p : CoreProgram) (n : ℕ) → length p.nodes ≤ n → cases_from p n ≡ []
cases_from-end p n le = let e : length p.nodes - n ≡ 0 = omega arith in ap (λ (k : ℕ). flat_map (λ m. cases_at m (agent_at p.nodes m)) (range_with_len n k)) e

abbrev else_case : ℕ → ℕ → ℕ → ℕ → Edge
else_case n m d cell = record { guard = record { node = n; cell = cell; negative = true }; tell = m; told = d }

-- the first of the cases of one else
module _ (test : Case → Bool) where
  abbrev on_edges : Edge → Bool
  on_edges e = test (edge_case e)

  -- found, or none, among the edges as among their cells
  abbrev Agrees : ℕ → List Edge → List Case → Type 0
  Agrees n es cs = ((c : Case) → first_that test cs ≡ Some c → (e : Edge) × (first_that on_edges es ≡ Some e) × (e.guard.node ≡ n) × (edge_case e ≡ c)) × (first_that test cs ≡ None → first_that on_edges es ≡ None)

  agrees_with : (n m d : ℕ) (ask : Constraint) (es : List Edge) (cs : List Case) → Agrees n es cs → Agrees n (map (λ g. else_case n m d g.0) ask ++ es) (pairs_with ask d ++ cs)
  agrees_with n m d [] es cs h = h
  agrees_with n m d (g ∷ ask) es cs h = go (test (record { guard = g.0; told = d })) (agrees_with n m d ask es cs h)
    where
      first : Edge
      first = else_case n m d g.0

      go : (b : Bool) → Agrees n (map (λ g. else_case n m d g.0) ask ++ es) (pairs_with ask d ++ cs)
          → ((c : Case) → (if b then Some (record { guard = g.0; told = d }) else first_that test (pairs_with ask d ++ cs)) ≡ Some c
          → (e : Edge) × ((if b then Some (else_case n m d g.0) else first_that on_edges (map (λ g. else_case n m d g.0) ask ++ es)) ≡ Some e) × (e.guard.node ≡ n) × (edge_case e ≡ c))
          × ((if b then Some (record { guard = g.0; told = d }) else first_that test (pairs_with ask d ++ cs)) ≡ None → (if b then Some (else_case n m d g.0) else first_that on_edges (map (λ g. else_case n m d g.0) ask ++ es)) ≡ None)
      go true later = (λ c h. (else_case n m d g.0, refl, refl, cc), λ h. absurd (cc))
      go false later = later

  agrees : (n : ℕ) (ask : Constraint) (ts : List (ℕ × ℕ)) → Agrees n (flat_map (λ x. map (λ g. else_case n x.0 x.1 g.0) ask) ts) (pairs ask (map (λ x. x.1) ts))
  agrees n ask [] = (λ c h. absurd (cc), λ h. refl)
  agrees n ask (t ∷ ts) = agrees_with n t.0 t.1 ask (flat_map (λ x. map (λ g. else_case n x.0 x.1 g.0) ask) ts) (pairs ask (map (λ x. x.1) ts)) (agrees n ask ts)

  module _ (p : CoreProgram) (w : IsListing p.nodes) (n : ℕ) (lt : n < length p.nodes) where
    else_agrees : (c : Constraint) (body : ℕ) → slice_get p.nodes n ≡ Some (nodes.Else c body) → Agrees n (cases_at n (agent_at p.nodes n)) (pairs c (told_below p.nodes body))
    else_agrees c body g =
        let at = node_of_listing p.nodes w n (nodes.Else c body) g in
        subst (λ (a : Agent). Agrees n (cases_at n a) (pairs c (told_below p.nodes body))) (sym at.tree)
        (subst (λ (m : ℕ). Agrees n (cases_at n (Else c (agent_at p.nodes body))) (pairs c (map (λ x. x.1) (tells_of m (agent_at p.nodes body))))) (sym at.follow) (agrees n c (tells_of (suc n) (agent_at p.nodes body))))

    pub case-hit : (ask : Constraint) (body : ℕ) (c : Case) → slice_get p.nodes n ≡ Some (nodes.Else ask body) → Some c ≡ first_that test (pairs ask (told_below p.nodes body)) → Some (n, c) ≡ named (first_that on_edges (cases_from p n))
    case-hit ask body c g h =
        let r = (else_agrees ask body g).0 c (sym h) in
        let found = ap (first_that on_edges) (cases_from-step p n lt) ∙ first-some on_edges (cases_at n (agent_at p.nodes n)) (cases_from p (n + 1)) r.0 r.1 in
        let same : (n, c) ≡ (r.0.guard.node, edge_case r.0) = let a = r.2 in let b = r.3 in cc in
        ap Some same ∙ sym (ap named found)

    miss : first_that on_edges (cases_at n (agent_at p.nodes n)) ≡ None → first_that on_edges (cases_from p n) ≡ first_that on_edges (cases_from p (n + 1))
    miss e = ap (first_that on_edges) (cases_from-step p n lt) ∙ first-none on_edges (cases_at n (agent_at p.nodes n)) (cases_from p (n + 1)) e

    pub case-miss : (ask : Constraint) (body : ℕ) → slice_get p.nodes n ≡ Some (nodes.Else ask body) → None ≡ first_that test (pairs ask (told_below p.nodes body)) → first_that on_edges (cases_from p n) ≡ first_that on_edges (cases_from p (n + 1))
    case-miss ask body g h = miss ((else_agrees ask body g).1 (sym h))

    -- a node that is no else has no cases
    pub case-skip : (node : Node) → slice_get p.nodes n ≡ Some node → ((ask : Constraint) (body : ℕ) → node ≡ nodes.Else ask body → ⊥) → first_that on_edges (cases_from p n) ≡ first_that on_edges (cases_from p (n + 1))
    case-skip node g other = miss (ap (λ (a : Agent). first_that on_edges (cases_at n a)) (node_of_listing p.nodes w n node g).tree ∙ none node other)
      where
        none : (node : Node) → ((ask : Constraint) (body : ℕ) → node ≡ nodes.Else ask body → ⊥) → first_that on_edges (cases_at n (agent_of (agent_at p.nodes) node)) ≡ None
        none nodes.Skip other = refl
        none (nodes.Tell c) other = refl
        none (nodes.Then c body) other = refl
        none (nodes.Else c body) other = absurd (other c body refl)
        none (nodes.Par l r) other = refl
        none (nodes.New cell body) other = refl
        none (nodes.Hence body) other = refl
        none (nodes.Next body) other = refl
