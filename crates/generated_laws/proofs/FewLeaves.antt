-- An instant has at most as many leaves as the program has nodes, where no new stands below a hence or a next. All news are
-- then started at instant 0, so that a root is known by its node, and the trees of the roots within the instant lie apart.
use Rattle.std.proofs.Common.{◌≡◌, ◌⊎◌, inl, inr, ℕ, suc, ◌+◌, ◌-◌, ◌≤◌, Bool, true, false, ◌||◌, cond, List, [], ◌∷◌, ◌++◌, length, refl, sym, ap, ◌∙◌, subst, arith, length-append}
use Rattle.std.specs.Prelude.{filter}
use Rattle.std.specs.List.{list_any}
use Rattle.std.specs.Ordering.{eq_by_cmp, is_eq}
use Rattle.std.specs.declared.cmp.Ordering.{Ordering}
use Rattle.std.specs.declared.cmp.Ordering.TheVariants.{Less, Equal, Greater}
use Rattle.std.proofs.Math.Bool.{or-true}
use Rattle.std.proofs.lemmas.Cmp.{eq_by_cmp_equiv}
use Rattle.token_system.specs.Stores.{StoreMap}
use Rattle.token_system.proofs.Alike.{true_false}
use Rattle.agent_core.specs.declared.node.Closure.{Closure}
use Rattle.agent_core.specs.declared.node.Node.{Node}
use Rattle.agent_core.specs.Agents.{Agent, Skip, Tell, Then, Else, Par, New, Hence, Next, agent_at}
use Rattle.agent_core.specs.Programs.{CoreProgram}
use Rattle.agent_core.specs.Listing.{size, listing, IsListing}
use Rattle.agent_core.specs.Rests.{entails}
use Rattle.agent_core.specs.RestsAfter.{suffixes}
use Rattle.agent_core.specs.Closures.{closure, closure_cmp, put_by, put, sorted, started, roots}
use Rattle.agent_core.specs.Leaves.{Guard, Positive, Negative, leaves_of, leaves, runs, ran}
use Rattle.agent_core.specs.Strata.{Each, In}
use Rattle.agent_core.proofs.Standing.{StandsAt, stands-tail}
use Rattle.agent_core.proofs.ListingTrees.{left_listed, right_listed, listed_tree}
use Rattle.agent_core.proofs.Places.{root_place, size-root}
use Rattle.agent_laws.proofs.Eachs.{Each-map, Each-append, Each-flat, Each-if}
use Rattle.agent_laws.proofs.Sorting.{closure_total, closure_anti, same_sorted}
use Rattle.agent_laws.proofs.Ascending.{any_same}

-- MEMBERS

in_left : (c : Closure) (xs ys : List Closure) → In c xs → In c (xs ++ ys)
in_left c [] ys i = absurd i
in_left c (x ∷ xs) ys (inl e) = inl e
in_left c (x ∷ xs) ys (inr i) = inr (in_left c xs ys i)

in_right : (c : Closure) (xs ys : List Closure) → In c ys → In c (xs ++ ys)
in_right c [] ys i = i
in_right c (x ∷ xs) ys i = inr (in_right c xs ys i)

each_in : (P : Closure → Type 0) (c : Closure) (xs : List Closure) → Each P xs → In c xs → P c
each_in P c [] h i = absurd i
each_in P c (x ∷ xs) h (inl e) = subst P (sym e) h.0
each_in P c (x ∷ xs) h (inr i) = each_in P c xs h.1 i

to_filter : (Q : Closure → Bool) (c : Closure) (xs : List Closure) → In c xs → Q c ≡ true → In c (filter Q xs)
to_filter Q c [] i h = absurd i
to_filter Q c (x ∷ xs) (inl e) h = subst (λ (b : Bool). In c (cond b (x ∷ filter Q xs) (filter Q xs))) (sym (ap Q (sym e) ∙ h)) (inl e)
to_filter Q c (x ∷ xs) (inr i) h = go (Q x) (to_filter Q c xs i h)
  where
    go : (b : Bool) → In c (filter Q xs) → In c (cond b (x ∷ filter Q xs) (filter Q xs))
    go true j = inr j
    go false j = j

of_filter : (Q : Closure → Bool) (c : Closure) (xs : List Closure) → In c (filter Q xs) → Q c ≡ true
of_filter Q c [] i = absurd i
of_filter Q c (x ∷ xs) i = go (Q x) refl i (of_filter Q c xs)
  where
    go : (b : Bool) → Q x ≡ b → In c (cond b (x ∷ filter Q xs) (filter Q xs)) → (In c (filter Q xs) → Q c ≡ true) → Q c ≡ true
    go true e (inl same) later = ap Q same ∙ e
    go true e (inr j) later = later j
    go false e j later = later j

-- the closure is one of these, as a test
abbrev is_among : List Closure → Closure → Bool
is_among xs c = list_any (eq_by_cmp closure_cmp c) xs

same_closure : (c x : Closure) → eq_by_cmp closure_cmp c x ≡ true → c ≡ x
same_closure c x h = go (closure_cmp c x) refl h
  where
    go : (o : Ordering) → closure_cmp c x ≡ o → is_eq o ≡ true → c ≡ x
    go Less e h = absurd (true_false (sym h))
    go Equal e h = closure_anti c x e
    go Greater e h = absurd (true_false (sym h))

to_among : (c : Closure) (xs : List Closure) → In c xs → is_among xs c ≡ true
to_among c [] i = absurd i
to_among c (x ∷ xs) (inl e) = ap (λ (b : Bool). b || is_among xs c) (subst (λ (y : Closure). eq_by_cmp closure_cmp c y ≡ true) e ((eq_by_cmp_equiv closure_total).refl c))
to_among c (x ∷ xs) (inr i) = ap (λ (b : Bool). eq_by_cmp closure_cmp c x || b) (to_among c xs i) ∙ or-true (eq_by_cmp closure_cmp c x)

of_among : (c : Closure) (xs : List Closure) → is_among xs c ≡ true → In c xs
of_among c [] h = absurd (true_false (sym h))
of_among c (x ∷ xs) h = go (eq_by_cmp closure_cmp c x) refl h (of_among c xs)
  where
    go : (b : Bool) → eq_by_cmp closure_cmp c x ≡ b → (b || is_among xs c) ≡ true → (is_among xs c ≡ true → In c xs) → (c ≡ x) ⊎ In c xs
    go true e h later = inl (same_closure c x e)
    go false e h later = inr (later h)

-- NEWS

-- No new of the agent stands below a hence or a next. Where `later` is set, one of these stands above the agent.
abbrev pub NewsFirst : (later : Bool) → Agent → Type 0
NewsFirst later Skip = Unit {0}
NewsFirst later (Tell c) = Unit {0}
NewsFirst later (Then c a) = NewsFirst later a
NewsFirst later (Else c a) = NewsFirst later a
NewsFirst later (Par l r) = NewsFirst later l × NewsFirst later r
NewsFirst later (New cell a) = (later ≡ false) × NewsFirst later a
NewsFirst later (Hence a) = NewsFirst true a
NewsFirst later (Next a) = NewsFirst true a

-- the bodies of the hences and nexts of the agent of node n under births b, where each new is started at instant 0
abbrev bodies : Agent → ℕ → List ℕ → List Closure
bodies Skip n b = []
bodies (Tell c) n b = []
bodies (Then c a) n b = bodies a (suc n) b
bodies (Else c a) n b = bodies a (suc n) b
bodies (Par l r) n b = bodies l (suc n) b ++ bodies r (suc n + size l) b
bodies (New cell a) n b = bodies a (suc n) (b ++ 0 ∷ [])
bodies (Hence a) n b = closure (suc n) b ∷ bodies a (suc n) b
bodies (Next a) n b = closure (suc n) b ∷ bodies a (suc n) b

-- what the agent may start after these closed stores: itself where there is none, and else some of its bodies
abbrev may_start : List StoreMap → Agent → ℕ → List ℕ → List Closure
may_start [] a n b = closure n b ∷ []
may_start (w ∷ z) a n b = bodies a n b

may_start-all : (z : List StoreMap) (a : Agent) (n : ℕ) (b : List ℕ) (c : Closure) → In c (may_start z a n b) → In c (closure n b ∷ bodies a n b)
may_start-all [] a n b c (inl e) = inl e
may_start-all [] a n b c (inr i) = absurd i
may_start-all (w ∷ z) a n b c i = inr i

-- they are all among these closures
abbrev AreOf : List Closure → List Closure → Type 0
AreOf cs xs = Each (λ c. In c cs) xs

-- where no hence or next stands above, this is instant 0
abbrev IsDue : (later : Bool) → ℕ → Type 0
IsDue later s = later ≡ false → s ≡ 0

module _ (p : CoreProgram) where
  -- What an agent starts are bodies of it, with the births that they always have.
  started-of : (a : Agent) (z : List StoreMap) (n : ℕ) (b : List ℕ) (s : ℕ) (later : Bool) → NewsFirst later a → IsDue later s → AreOf (may_start z a n b) (started p z a n b s)
  started-of a [] n b s later first due = (inl refl, tt)
  started-of Skip (w ∷ z) n b s later first due = tt
  started-of (Tell c) (w ∷ z) n b s later first due = tt
  started-of (Par l r) (w ∷ z) n b s later first due =
      let left : List Closure = bodies l (suc n) b in
      let right : List Closure = bodies r (suc n + size l) b in
      Each-append (λ c. In c (left ++ right)) (started p (w ∷ z) l (suc n) b s) (started p (w ∷ z) r (suc n + size l) b s)
      (Each-map (λ c. In c left) (λ c. In c (left ++ right)) (λ c i. in_left c left right i) (started p (w ∷ z) l (suc n) b s) (started-of l (w ∷ z) (suc n) b s later first.0 due))
      (Each-map (λ c. In c right) (λ c. In c (left ++ right)) (λ c i. in_right c left right i) (started p (w ∷ z) r (suc n + size l) b s) (started-of r (w ∷ z) (suc n + size l) b s later first.1 due))
  started-of (Then c a) (w ∷ z) n b s later first due =
      Each-if (λ q. In q (bodies a (suc n) b)) (entails p b w c) (started p (w ∷ z) a (suc n) b s) [] (started-of a (w ∷ z) (suc n) b s later first due) tt
  started-of (Else c a) (w ∷ z) n b s later first due =
      Each-if (λ q. In q (bodies a (suc n) b)) (entails p b w c) [] (started p (w ∷ z) a (suc n) b s) tt (started-of a (w ∷ z) (suc n) b s later first due)
  started-of (New cell a) (w ∷ z) n b s later first due =
      subst (λ (t : ℕ). AreOf (bodies a (suc n) (b ++ t ∷ [])) (started p (w ∷ z) a (suc n) (b ++ s ∷ []) s)) (due first.0)
      (started-of a (w ∷ z) (suc n) (b ++ s ∷ []) s later first.1 due)
  started-of (Next a) (w ∷ z) n b s later first due =
      Each-map (λ c. In c (may_start z a (suc n) b)) (λ c. In c (closure (suc n) b ∷ bodies a (suc n) b)) (may_start-all z a (suc n) b) (started p z a (suc n) b (s + 1))
      (started-of a z (suc n) b (s + 1) true first (λ e. absurd (true_false e)))
  started-of (Hence a) (w ∷ z) n b s later first due =
      let from : List StoreMap → ℕ = λ y. s + 1 + length z - length y in
      Each-flat (λ c. In c (closure (suc n) b ∷ bodies a (suc n) b)) (λ y. started p y a (suc n) b (from y))
      (λ y. Each-map (λ c. In c (may_start y a (suc n) b)) (λ c. In c (closure (suc n) b ∷ bodies a (suc n) b)) (may_start-all y a (suc n) b) (started p y a (suc n) b (from y))
      (started-of a y (suc n) b (from y) true first (λ e. absurd (true_false e)))) (suffixes z)

  -- LEAVES

  module _ (t : ℕ) where
    -- how many leaves a closure has at instant t, and how many these closures have
    abbrev own : Closure → ℕ
    own c = length (leaves_of t (agent_at p.nodes c.node) c.node c.births [])

    abbrev many : List Closure → ℕ
    many [] = 0
    many (c ∷ cs) = own c + many cs

    many-leaves : (cs : List Closure) → length (leaves p cs t) ≡ many cs
    many-leaves [] = refl
    many-leaves (c ∷ cs) = length-append (leaves_of t (agent_at p.nodes c.node) c.node c.births []) (leaves p cs t) ∙ ap (λ (k : ℕ). own c + k) (many-leaves cs)

    many-append : (cs ds : List Closure) → many (cs ++ ds) ≡ many cs + many ds
    many-append [] ds = omega arith
    many-append (c ∷ cs) ds = let rest = many-append cs ds in omega arith

    put-few : (c : Closure) (cs : List Closure) → many (put c cs) ≤ own c + many cs
    put-few c [] = omega arith
    put-few c (first ∷ rest) = go (closure_cmp c first) (put-few c rest)
      where
        go : (o : Ordering) → many (put c rest) ≤ own c + many rest → many (put_by o c first rest (put c rest)) ≤ own c + (own first + many rest)
        go Less few = omega arith
        go Equal few = omega arith
        go Greater few = omega arith

    sorted-few : (cs : List Closure) → many (sorted cs) ≤ many cs
    sorted-few [] = omega arith
    sorted-few (c ∷ cs) =
        let first = put-few c (sorted cs) in
        let rest = sorted-few cs in
        omega arith

    filter-few : (Q : Closure → Bool) (cs : List Closure) → many (filter Q cs) ≤ many cs
    filter-few Q [] = omega arith
    filter-few Q (c ∷ cs) = go (Q c) (filter-few Q cs)
      where
        go : (b : Bool) → many (filter Q cs) ≤ many cs → many (cond b (c ∷ filter Q cs) (filter Q cs)) ≤ own c + many cs
        go true few = omega arith
        go false few = omega arith

    -- Closures of a list, each once, have at most as many leaves as those of the list.
    sorted-of : (xs cs : List Closure) → AreOf cs xs → many (sorted xs) ≤ many cs
    sorted-of xs cs all =
        let kept : List Closure = filter (is_among xs) cs in
        let same : sorted xs ≡ sorted kept =
        same_sorted xs kept (any_same xs kept (λ c. (
          λ i. to_filter (is_among xs) c cs (each_in (λ q. In q cs) c xs all i) (to_among c xs i),
          λ i. of_among c xs (of_filter (is_among xs) c cs i),
        ))) in
        let equal : many (sorted xs) ≡ many (sorted kept) = ap many same in
        let short = sorted-few kept in
        let few = filter-few (is_among xs) cs in
        omega arith

    -- The leaves of an agent and those of the bodies in it have nodes of their own.
    bodies-few : (a : Agent) (n : ℕ) (b c : List ℕ) (path : List Guard) → StandsAt Node p.nodes n (listing n a) → length (leaves_of t a n b path) + many (bodies a n c) ≤ size a
    bodies-few Skip n b c path at = omega arith
    bodies-few (Tell ask) n b c path at = omega arith
    bodies-few (Then ask a) n b c path at = let few = bodies-few a (suc n) b c (path ++ Positive b ask ∷ []) (stands-tail at) in omega arith
    bodies-few (Else ask a) n b c path at = let few = bodies-few a (suc n) b c (path ++ Negative b ask ∷ []) (stands-tail at) in omega arith
    bodies-few (Par l r) n b c path at =
        let left = bodies-few l (suc n) b c path (left_listed l r at) in
        let right = bodies-few r (suc n + size l) b c path (right_listed l r at) in
        omega (arith, length-append (leaves_of t l (suc n) b path) (leaves_of t r (suc n + size l) b path), many-append (bodies l (suc n) c) (bodies r (suc n + size l) c))
    bodies-few (New cell a) n b c path at = let few = bodies-few a (suc n) (b ++ t ∷ []) (c ++ 0 ∷ []) path (stands-tail at) in omega arith
    bodies-few (Hence a) n b c path at =
        let few = bodies-few a (suc n) c c [] (stands-tail at) in
        let body : own (closure (suc n) c) ≡ length (leaves_of t a (suc n) c []) = ap (λ (x : Agent). length (leaves_of t x (suc n) c [])) (listed_tree p.nodes (suc n) a (stands-tail at)) in
        omega arith
    bodies-few (Next a) n b c path at =
        let few = bodies-few a (suc n) c c [] (stands-tail at) in
        let body : own (closure (suc n) c) ≡ length (leaves_of t a (suc n) c []) = ap (λ (x : Agent). length (leaves_of t x (suc n) c [])) (listed_tree p.nodes (suc n) a (stands-tail at)) in
        omega arith

  -- An instant has at most as many leaves as there are nodes.
  pub leaves-few : IsListing p.nodes → NewsFirst false (agent_at p.nodes 0) → (z : List StoreMap) (t : ℕ) → length (leaves p (roots p z) t) ≤ length p.nodes
  leaves-few tree first z t =
      let root : Agent = agent_at p.nodes 0 in
      let all : List Closure = closure 0 [] ∷ bodies root 0 [] in
      let xs : List Closure = started p z root 0 [] 0 in
      let among : AreOf all xs = Each-map (λ c. In c (may_start z root 0 [])) (λ c. In c all) (may_start-all z root 0 []) xs (started-of root z 0 [] 0 false first (λ e. refl)) in
      let few = sorted-of t xs all among in
      let whole = bodies-few t root 0 [] [] [] (root_place p.nodes tree).listed in
      let long = size-root p.nodes tree in
      let counted = many-leaves t (roots p z) in
      omega arith

filter_short : {X : Type 0} (f : X → Bool) (xs : List X) → length (filter f xs) ≤ length xs
filter_short f [] = omega arith
filter_short f (x ∷ xs) = go (f x) (filter_short f xs)
  where
    go : (b : Bool) → length (filter f xs) ≤ length xs → length (cond b (x ∷ filter f xs) (filter f xs)) ≤ suc (length xs)
    go true few = omega arith
    go false few = omega arith

-- No more run than there are.
pub ran-few : (p : CoreProgram) (rs : List Closure) (t : ℕ) (v : StoreMap) → ran p rs t v ≤ length (leaves p rs t)
ran-few p rs t v = filter_short (runs p v) (leaves p rs t)
