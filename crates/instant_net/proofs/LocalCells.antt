-- The new nodes of a program, in preorder, are those of its local cells, in order.
use Rattle.std.proofs.Common.{◌≡◌, ℕ, zero, suc, ◌+◌, ◌-◌, ◌<◌, ◌≤◌, List, [], ◌∷◌, ◌++◌, Some, None, Option, Bool, true, false, length, map, take, refl, sym, ap, ◌∙◌, subst, arith, ◌⊎◌, inl, inr}
use Rattle.std.specs.Prelude.{All, slice_get, slice_index_or, filter_map, nat_lt, option_map, if◌then◌else◌}
use Rattle.std.proofs.lemmas.Bool.{lt-ltb}
use Rattle.std.proofs.lemmas.List.{length-take, map-append}
use Rattle.std.proofs.lemmas.List.Elements.{All-append, All-contains, All-nil, filter_map-append}
use Rattle.std.proofs.lemmas.Option.{slice_get-map, slice_get_within, get_or_from_slice_get}
use Rattle.token_system.specs.declared.cell.Token.{Token}
use Rattle.token_system.specs.declared.name.CellName.TheVariants.{Declared, Local as LocalName}
use Rattle.agent_core.specs.declared.node.Node.{Node}
use Rattle.agent_core.specs.declared.node.Node.TheVariants as nodes
use Rattle.agent_core.specs.Agents.{Agent, Constraint, Skip, Tell, Then, Else, Par, New, Hence, Next, agent_of, agent_at}
use Rattle.agent_core.specs.WellFormed.{IsWellFormed, cell_of, count_up}
use Rattle.agent_core.specs.Listing.{size, listing}
use Rattle.agent_core.specs.Names.{Names, depth_of, local_name, name_of, new_of}
use Rattle.agent_core.specs.Programs.{CoreProgram}
use Rattle.agent_core.specs.Scope.{TokenFits}
use Rattle.agent_core.proofs.ListingTrees.{root_tree}
use Rattle.agent_core.proofs.NewNodes.{new_of-one}
use Rattle.agent_core.proofs.Places.{Place, Place-goes_down, depth_of-place, node_of_listing, root_place}
use Rattle.agent_core.proofs.Standing.{stands-head}
use Rattle.instant_net.specs.declared.locals.Local.{Local}
use Rattle.instant_net.specs.Locals.{news_of, IsLocalOf, AreLocalsOf}
use Rattle.instant_net.proofs.Lists.{same-elements}

-- THEIR CELLS

news-cells : (n d : ℕ) (a : Agent) → map (λ (l : Local). l.cell) (news_of n d a) ≡ filter_map cell_of (listing n a)
news-cells n d Skip = refl
news-cells n d (Tell c) = refl
news-cells n d (Then c a) = news-cells (suc n) d a
news-cells n d (Else c a) = news-cells (suc n) d a
news-cells n d (Par a b) =
    map-append (λ (l : Local). l.cell) (news_of (suc n) d a) (news_of (suc n + size a) d b)
    ∙ ap (λ (xs : List ℕ). xs ++ map (λ (l : Local). l.cell) (news_of (suc n + size a) d b)) (news-cells (suc n) d a)
    ∙ ap (λ (xs : List ℕ). filter_map cell_of (listing (suc n) a) ++ xs) (news-cells (suc n + size a) d b)
    ∙ sym (filter_map-append cell_of (listing (suc n) a) (listing (suc n + size a) b))
news-cells n d (New cell a) = ap (λ (xs : List ℕ). cell ∷ xs) (news-cells (suc n) (suc d) a)
news-cells n d (Hence a) = news-cells (suc n) d a
news-cells n d (Next a) = news-cells (suc n) d a

pub count_up-get : (first n k : ℕ) → k < n → slice_get (count_up first n) k ≡ Some (first + k)
count_up-get first zero k lt = absurd (omega arith)
count_up-get first (suc n) zero lt = ap Some (let h : first ≡ first + 0 = omega arith in h)
count_up-get first (suc n) (suc k) lt = count_up-get (suc first) n k (let h : k < n = omega arith in h) ∙ ap Some (let h : suc first + k ≡ first + suc k = omega arith in h)

-- THEIR PLACES

-- the new node of the cell stands there, below as many others as it has births, less its own
record IsNewAt (all : List Node) (l : Local) : Type 0 where
  body : ℕ
  found : slice_get all l.node ≡ Some (nodes.New l.cell body)
  births : l.births ≡ suc (depth_of all l.node)

one-new : (all : List Node) (x : Local) (xs : List Local) → IsNewAt all x → All (IsNewAt all) xs → All (IsNewAt all) (x ∷ xs)
one-new all x xs h rest zero d lt = h
one-new all x xs h rest (suc k) d lt = rest k d (let h : k < length xs = omega arith in h)

news-at : (all : List Node) (n : ℕ) (around : List ℕ) (a : Agent) (d : ℕ) → Place all n around a → d ≡ length around → All (IsNewAt all) (news_of n d a)
news-at all n around Skip d h e = All-nil (IsNewAt all)
news-at all n around (Tell c) d h e = All-nil (IsNewAt all)
news-at all n around (Then c a) d h e = news-at all (suc n) around a d ((Place-goes_down all).then_body n around c a h) e
news-at all n around (Else c a) d h e = news-at all (suc n) around a d ((Place-goes_down all).else_body n around c a h) e
news-at all n around (Par a b) d h e =
    All-append (IsNewAt all) (news_of (suc n) d a) (news_of (suc n + size a) d b)
    (news-at all (suc n) around a d ((Place-goes_down all).left n around a b h) e)
    (news-at all (suc n + size a) around b d ((Place-goes_down all).right n around a b h) e)
news-at all n around (New cell a) d h e =
    one-new all (record { cell = cell; node = n; births = suc d }) (news_of (suc n) (suc d) a)
    (record { body = suc n; found = stands-head h.listed; births = ap suc (e ∙ sym (depth_of-place all n around (New cell a) h)) })
    (news-at all (suc n) (cell ∷ around) a (suc d) ((Place-goes_down all).new_body n around cell a h) (ap suc e))
news-at all n around (Hence a) d h e = news-at all (suc n) around a d ((Place-goes_down all).hence_body n around a h) e
news-at all n around (Next a) d h e = news-at all (suc n) around a d ((Place-goes_down all).next_body n around a h) e

module _ (p : CoreProgram) (is : IsWellFormed p) where
  abbrev news : List Local
  news = news_of 0 0 (agent_at p.nodes 0)

  in_order : map (λ (l : Local). l.cell) news ≡ count_up p.declared (length p.cells - p.declared)
  in_order =
      news-cells 0 0 (agent_at p.nodes 0) ∙ ap (λ (a : Agent). filter_map cell_of (listing 0 a)) (root_tree p.nodes is.tree)
      ∙ ap (filter_map cell_of) (sym is.tree.1) ∙ is.locals

  news_each : (k : ℕ) → p.declared + k < length p.cells → (l : Local) × (slice_get news k ≡ Some l) × IsLocalOf p (p.declared + k) l
  news_each k lt = go (slice_get news k) refl
    where
      at : option_map (λ (l : Local). l.cell) (slice_get news k) ≡ Some (p.declared + k)
      at =
          sym (slice_get-map (λ (l : Local). l.cell) news k) ∙ ap (λ (xs : List ℕ). slice_get xs k) in_order
          ∙ count_up-get p.declared (length p.cells - p.declared) k (let h : k < length p.cells - p.declared = omega arith in h)

      go : (o : Option Local) → slice_get news k ≡ o → (l : Local) × (slice_get news k ≡ Some l) × IsLocalOf p (p.declared + k) l
      go None e = absurd (let h : option_map (λ (l : Local). l.cell) None ≡ Some (p.declared + k) = ap (option_map (λ (l : Local). l.cell)) (sym e) ∙ at in cc)
      go (Some l) e =
          let cell : l.cell ≡ p.declared + k = let h : Some l.cell ≡ Some (p.declared + k) = ap (option_map (λ (x : Local). x.cell)) (sym e) ∙ at in cc in
          let h = All-contains (IsNewAt p.nodes) news l (news-at p.nodes 0 [] (agent_at p.nodes 0) 0 (root_place p.nodes is.tree) refl) (same-elements news l k e) in
          (l, e, record { node = sym (new_of-one p is l.node (p.declared + k) h.body (h.found ∙ ap (λ (c : ℕ). Some (nodes.New c h.body)) cell)); births = h.births })

  pub all_news : AreLocalsOf p news
  all_news = record { each = news_each }

-- a local cell is found by its number, less that of the declared ones
pub record IsFound (p : CoreProgram) (locals : List Local) (cell place : ℕ) : Type 0 where
  pub inside : place < length locals
  pub read : (l : Local) → IsLocalOf p cell (slice_index_or locals place l)

pub found_local : (p : CoreProgram) (locals : List Local) (cell declared : ℕ) → declared ≡ p.declared → AreLocalsOf p locals → p.declared ≤ cell → cell < length p.cells → IsFound p locals cell (cell - declared)
found_local p locals cell declared e all le lt =
    let same : p.declared + (cell - declared) ≡ cell = omega arith in
    let at = all.each (cell - declared) (omega arith) in
    record {
      inside = slice_get_within locals (cell - declared) at.0 at.1;
      read = λ l. subst (IsLocalOf p cell) (sym (get_or_from_slice_get locals (cell - declared) at.0 l at.1)) (subst (λ (c : ℕ). IsLocalOf p c at.0) same at.2);
    }

-- THEIR NAMES

-- the name that a local cell has by its new node and births is its name
pub record IsItsName (p : CoreProgram) (b : List ℕ) (cell : ℕ) (l : Local) : Type 0 where
  pub long : l.births ≤ length b
  pub name : LocalName l.node (take l.births b) ≡ name_of p b cell

pub its_name : (p : CoreProgram) (b : List ℕ) (x : ℕ × Token) → TokenFits p b x → p.declared ≤ x.0 → (l : Local) → IsLocalOf p x.0 l → IsItsName p b x.0 l
its_name p b x f le l h = go (nat_lt x.0 p.declared) refl f.named
  where
    births : l.births ≡ suc (depth_of p.nodes (new_of p.nodes x.0))
    births = h.births ∙ ap (λ (m : ℕ). suc (depth_of p.nodes m)) h.node

    go : (r : Bool) → nat_lt x.0 p.declared ≡ r → Names p (if r then Declared x.0 else local_name p.nodes b (new_of p.nodes x.0)) f.decl → IsItsName p b x.0 l
    go true e named = absurd (let lt = named.0 in omega arith)
    go false e named = record {
      long = let long = named.3 in let few = length-take l.births b in let same = ap (λ (k : ℕ). length (take k b)) births in omega (arith, births);
      name =
          ap (λ (m : ℕ). LocalName m (take l.births b)) h.node ∙ ap (λ (k : ℕ). LocalName (new_of p.nodes x.0) (take k b)) births
          ∙ ap (λ (r : Bool). if r then Declared x.0 else local_name p.nodes b (new_of p.nodes x.0)) (sym e);
    }

-- so has a declared cell, by its number
pub declared_name : (p : CoreProgram) (b : List ℕ) (cell : ℕ) → cell < p.declared → Declared cell ≡ name_of p b cell
declared_name p b cell lt = ap (λ (r : Bool). if r then Declared cell else local_name p.nodes b (new_of p.nodes cell)) (sym (lt-ltb cell p.declared lt))

pub fitting_cell : (p : CoreProgram) (b : List ℕ) (x : ℕ × Token) → TokenFits p b x → x.0 < length p.cells
fitting_cell p b x f = slice_get_within p.cells x.0 f.decl f.found

-- THE NEW NODES BELOW A NODE

-- the node has this part alone, below no new node that is not around the node too
abbrev pub HasOnly : Node → ℕ → Type 0
HasOnly d m = ((c : Constraint) × (d ≡ nodes.Then c m)) ⊎ (((c : Constraint) × (d ≡ nodes.Else c m)) ⊎ ((d ≡ nodes.Hence m) ⊎ (d ≡ nodes.Next m)))

module _ (p : CoreProgram) (is : IsWellFormed p) (n : ℕ) where
  abbrev NewsBelow : ℕ → ℕ → List Local
  NewsBelow d m = news_of m d (agent_at p.nodes m)

  -- a part of the node: it is one of the program's, behind the node, and the node's new nodes are its own, where it is the only one
  pub record IsOnly (d m : ℕ) : Type 0 where
    pub above : n < m
    pub inside : m < length p.nodes
    pub news : NewsBelow d m ≡ NewsBelow d n

  only : (node : Node) (d m : ℕ) → slice_get p.nodes n ≡ Some node → n < m → m < length p.nodes → m ≡ suc n → news_of (suc n) d (agent_at p.nodes m) ≡ news_of n d (agent_of (agent_at p.nodes) node) → IsOnly d m
  only node d m found above inside next same = record {
    above = above;
    inside = inside;
    news = ap (λ (k : ℕ). news_of k d (agent_at p.nodes m)) next ∙ same ∙ ap (news_of n d) (sym (node_of_listing p.nodes is.tree n node found).tree);
  }

  pub only_part : (node : Node) (d m : ℕ) → slice_get p.nodes n ≡ Some node → HasOnly node m → IsOnly d m
  only_part node d m found (inl (c, e)) = let at = node_of_listing p.nodes is.tree n (nodes.Then c m) (found ∙ ap Some e) in only (nodes.Then c m) d m (found ∙ ap Some e) at.parts.above at.parts.inside at.follow refl
  only_part node d m found (inr (inl (c, e))) = let at = node_of_listing p.nodes is.tree n (nodes.Else c m) (found ∙ ap Some e) in only (nodes.Else c m) d m (found ∙ ap Some e) at.parts.above at.parts.inside at.follow refl
  only_part node d m found (inr (inr (inl e))) = let at = node_of_listing p.nodes is.tree n (nodes.Hence m) (found ∙ ap Some e) in only (nodes.Hence m) d m (found ∙ ap Some e) at.parts.above at.parts.inside at.follow refl
  only_part node d m found (inr (inr (inr e))) = let at = node_of_listing p.nodes is.tree n (nodes.Next m) (found ∙ ap Some e) in only (nodes.Next m) d m (found ∙ ap Some e) at.parts.above at.parts.inside at.follow refl

  pub no_news : (node : Node) (d : ℕ) → slice_get p.nodes n ≡ Some node → (node ≡ nodes.Skip) ⊎ ((c : Constraint) × (node ≡ nodes.Tell c)) → NewsBelow d n ≡ []
  no_news node d found (inl e) = ap (news_of n d) (node_of_listing p.nodes is.tree n nodes.Skip (found ∙ ap Some e)).tree
  no_news node d found (inr (c, e)) = ap (news_of n d) (node_of_listing p.nodes is.tree n (nodes.Tell c) (found ∙ ap Some e)).tree

  -- the parts of a par
  pub record ArePar (d l r : ℕ) : Type 0 where
    pub left : n < l
    pub right : n < r
    pub left_inside : l < length p.nodes
    pub right_inside : r < length p.nodes
    pub news : NewsBelow d l ++ NewsBelow d r ≡ NewsBelow d n

  pub par_parts : (d l r : ℕ) → slice_get p.nodes n ≡ Some (nodes.Par l r) → ArePar d l r
  par_parts d l r found =
      let at = node_of_listing p.nodes is.tree n (nodes.Par l r) found in
      let left : l ≡ suc n = at.follow.0 in
      let right : r ≡ suc n + size (agent_at p.nodes l) = at.follow.1 ∙ ap (λ (k : ℕ). suc n + size (agent_at p.nodes k)) (sym left) in
      record {
        left = at.parts.0.above;
        right = at.parts.1.above;
        left_inside = at.parts.0.inside;
        right_inside = at.parts.1.inside;
        news =
            ap (λ (k : ℕ). news_of k d (agent_at p.nodes l) ++ news_of r d (agent_at p.nodes r)) left
            ∙ ap (λ (k : ℕ). news_of (suc n) d (agent_at p.nodes l) ++ news_of k d (agent_at p.nodes r)) right
            ∙ ap (news_of n d) (sym at.tree);
      }

  -- the part of a new node
  pub record IsBelowNew (d cell m : ℕ) : Type 0 where
    pub above : n < m
    pub inside : m < length p.nodes
    pub news : record { cell = cell; node = n; births = suc d } ∷ NewsBelow (suc d) m ≡ NewsBelow d n

  pub new_part : (d cell m : ℕ) → slice_get p.nodes n ≡ Some (nodes.New cell m) → IsBelowNew d cell m
  new_part d cell m found =
      let at = node_of_listing p.nodes is.tree n (nodes.New cell m) found in
      record {
        above = at.parts.above;
        inside = at.parts.inside;
        news = ap (λ (k : ℕ). record { cell = cell; node = n; births = suc d } ∷ news_of k (suc d) (agent_at p.nodes m)) at.follow ∙ ap (news_of n d) (sym at.tree);
      }
