-- An instant has few local cells: under each root each local cell of the program has one name.
use Rattle.std.proofs.Common.{◌≡◌, ℕ, zero, suc, ◌+◌, ◌-◌, ◌*◌, ◌≤◌, Bool, true, false, List, [], ◌∷◌, ◌++◌, length, map, take, replicate, Some, None, refl, sym, ap, ◌∙◌, subst, arith, length-append, ◌⊎◌, inl, inr}
use Rattle.std.specs.Prelude.{Option, All, Contains, flat_map, slice_get, nat_lt, if◌then◌else◌}
use Rattle.std.specs.List.Sorted.{IsStrictlySortedBy}
use Rattle.std.proofs.lemmas.Bool.{ltb-false}
use Rattle.std.proofs.lemmas.List.{append-nil, append_assoc, map-append, take-append-le, length-take, length-replicate, replicate-append-replicate, replicate_more}
use Rattle.std.proofs.lemmas.List.Elements.{All-contains, Contains-append_cases, Contains-append_left, Contains-append_right}
use Rattle.std.proofs.lemmas.Map.Keys.{IsDistinct-from_sorted}
use Rattle.std.proofs.lemmas.Map.Made.{length-le_from_is_member}
use Rattle.std.proofs.lemmas.Map.Views.{Contains-from_any, list_any-from_Contains}
use Rattle.std.proofs.lemmas.Option.{slice_get_within}
use Rattle.token_system.specs.declared.name.CellName.{CellName}
use Rattle.token_system.specs.declared.name.CellName.TheVariants.{Declared, Local}
use Rattle.token_system.specs.Names.{name_cmp, name_equiv}
use Rattle.token_system.proofs.Telling.{equal_names}
use Rattle.agent_core.specs.declared.node.Closure.{Closure}
use Rattle.agent_core.specs.declared.node.CellDecl.{CellDecl}
use Rattle.agent_core.specs.Agents.{Agent, Constraint, Skip, Tell, Then, Else, Par, New, Hence, Next, agent_at}
use Rattle.agent_core.specs.Programs.{CoreProgram}
use Rattle.agent_core.specs.WellFormed.{IsWellFormed, count_up}
use Rattle.agent_core.specs.Limits.{most_cells}
use Rattle.agent_core.specs.Listing.{size}
use Rattle.agent_core.specs.Leaves as core
use Rattle.agent_core.specs.Names.{depth_of, local_name, name_of, new_of}
use Rattle.instant_net.specs.Limits.{most_roots, most_instant_cells}
use Rattle.instant_net.specs.NamedLeaves.{Named, told_by}
use Rattle.instant_net.specs.Programs.{token_named, constraint_named, guard_named, leaf_named, root_leaves}
use Rattle.instant_net.specs.Collecting.{IsLocal, IsSpokenBy}
use Rattle.instant_net.proofs.Counts.{length-map}
use Rattle.instant_net.proofs.LocalCells.{count_up-get}
use Rattle.instant_net.proofs.Lists.{same-elements, Contains-map}
use Rattle.instant_net.proofs.SpokenNames.{ask_names, path_names, spoken_in, spoken-append, path_names-append}

length-count_up : (first n : ℕ) → length (count_up first n) ≡ n
length-count_up first zero = refl
length-count_up first (suc n) = ap suc (length-count_up (suc first) n)

no-element : {X : Type 0} (x : X) → Contains [] x → ⊥
no-element x (k, lt, e) = absurd (omega arith)

-- UNDER ONE ROOT, which has these births

module _ (p : CoreProgram) (t : ℕ) (b : List ℕ) where
  -- the births below so many of its new nodes
  abbrev inner : ℕ → List ℕ
  inner k = b ++ replicate k t

  -- a name that has all its births has the same ones deeper inside
  longer : (d k j : ℕ) → d ≤ length (inner k) → take d (inner k) ≡ take d (inner (k + j))
  longer d k j le = sym (take-append-le d (inner k) (replicate j t) le) ∙ ap (take d) (append_assoc b (replicate k t) (replicate j t) ∙ ap (λ xs. b ++ xs) (replicate-append-replicate k j t))

  -- the name of a local cell, wherever it is spoken of
  abbrev root_name : ℕ → CellName
  root_name cell = local_name p.nodes (inner (suc (depth_of p.nodes (new_of p.nodes cell)))) (new_of p.nodes cell)

  abbrev root_names : List CellName
  root_names = map root_name (count_up p.declared (length p.cells - p.declared))

  root_names-count : length root_names ≡ length p.cells - p.declared
  root_names-count = length-map root_name (count_up p.declared (length p.cells - p.declared)) ∙ length-count_up p.declared (length p.cells - p.declared)

  root_name-is : (k cell : ℕ) → suc (depth_of p.nodes (new_of p.nodes cell)) ≤ length (inner k) → root_name cell ≡ local_name p.nodes (inner k) (new_of p.nodes cell)
  root_name-is k cell le =
      let d : ℕ = suc (depth_of p.nodes (new_of p.nodes cell)) in
      let long : d ≤ length (inner d) = let e = length-append b (replicate d t) in let f = length-replicate d t in omega arith in
      let same : d + k ≡ k + d = omega arith in
      ap (Local (new_of p.nodes cell)) (longer d d k long ∙ ap (λ (j : ℕ). take d (inner j)) same ∙ sym (longer d k d le))

  -- what a token, a constraint, and the leaves of an agent speak of
  name-among : (k cell : ℕ) (d : CellDecl) → slice_get p.cells cell ≡ Some d → IsLocal p (name_of p (inner k) cell) → Contains root_names (name_of p (inner k) cell)
  name-among k cell d found is = go (nat_lt cell p.declared) refl is
    where
      go : (r : Bool) → nat_lt cell p.declared ≡ r → IsLocal p (if r then Declared cell else local_name p.nodes (inner k) (new_of p.nodes cell)) → Contains root_names (if r then Declared cell else local_name p.nodes (inner k) (new_of p.nodes cell))
      go true e h = let i = h.is in absurd (cc)
      go false e h =
          let m : ℕ = new_of p.nodes cell in
          let all = h.named.3 in
          let few = length-take (suc (depth_of p.nodes m)) (inner k) in
          let lt = slice_get_within p.cells cell d found in
          let le : p.declared ≤ cell = ltb-false cell p.declared e in
          let at : p.declared + (cell - p.declared) ≡ cell = omega arith in
          let own : Contains (count_up p.declared (length p.cells - p.declared)) cell =
          same-elements (count_up p.declared (length p.cells - p.declared)) cell (cell - p.declared) (count_up-get p.declared (length p.cells - p.declared) (cell - p.declared) (omega arith) ∙ ap Some at) in
          subst (Contains root_names) (root_name-is k cell (omega arith)) (Contains-map root_name (count_up p.declared (length p.cells - p.declared)) cell own)

  ask-among : (k : ℕ) (q : CellName) → IsLocal p q → (c : Constraint) → Contains (ask_names (constraint_named p (inner k) c)) q → Contains root_names q
  ask-among k q is [] h = absurd (no-element q h)
  ask-among k q is (x ∷ c) h = go (slice_get p.cells x.0) refl h (ask-among k q is c)
    where
      go : (o : Option CellDecl) → slice_get p.cells x.0 ≡ o → Contains (ask_names (token_named p (inner k) x.0 x.1 o ++ constraint_named p (inner k) c)) q
          → (Contains (ask_names (constraint_named p (inner k) c)) q → Contains root_names q) → Contains root_names q
      go None e h rest = rest h
      go (Some d) e h rest = elim (Contains-append_cases (name_of p (inner k) x.0 ∷ []) (ask_names (constraint_named p (inner k) c)) q h) [
        | inl (zero, lt, same) ↦ subst (Contains root_names) same (name-among k x.0 d e (subst (IsLocal p) (sym same) is))
        | inl (suc j, lt, same) ↦ absurd (omega arith)
        | inr later ↦ rest later
      ]

  -- a guard above speaks of it, or it is one of these names
  abbrev IsWithin : List core.Guard → CellName → Type 0
  IsWithin path q = Contains (path_names p path) q ⊎ Contains root_names q

  one-among : (l : core.Leaf) (q : CellName) → (Contains (ask_names (told_by (leaf_named p l).kind)) q → Contains root_names q) → Contains (spoken_in p (l ∷ [])) q → IsWithin l.path q
  one-among l q told h =
      let own : List Named = told_by (leaf_named p l).kind in
      let asks : List Named = flat_map (λ g. g.ask) (map (guard_named p) l.path) in
      elim (Contains-append_cases (ask_names own) (ask_names asks) q (subst (λ xs. Contains xs q) (append-nil (ask_names (own ++ asks)) ∙ map-append (λ (x : Named). x.name) own asks) h)) [ inl i ↦ inr (told i) | inr i ↦ inl i ]

  guard-among : (k : ℕ) (q : CellName) → IsLocal p q → (c : Constraint) (path : List core.Guard) (g : core.Guard) → (guard_named p g).ask ≡ constraint_named p (inner k) c → IsWithin (path ++ g ∷ []) q → IsWithin path q
  guard-among k q is c path g same (inl h) = elim (Contains-append_cases (path_names p path) (ask_names (guard_named p g).ask) q (subst (λ xs. Contains xs q) (path_names-append p path g) h)) [
    | inl i ↦ inl i
    | inr i ↦ inr (ask-among k q is c (subst (λ xs. Contains (ask_names xs) q) same i))
  ]
  guard-among k q is c path g same (inr h) = inr h

  agent-among : (q : CellName) → IsLocal p q → (a : Agent) (n k : ℕ) (path : List core.Guard) → Contains (spoken_in p (core.leaves_of t a n (inner k) path)) q → IsWithin path q
  agent-among q is Skip n k path h = one-among (core.leaf n Skip (inner k) path) q (λ i. absurd (no-element q i)) h
  agent-among q is (Tell c) n k path h = one-among (core.leaf n (Tell c) (inner k) path) q (ask-among k q is c) h
  agent-among q is (Hence a) n k path h = one-among (core.leaf n (Hence a) (inner k) path) q (λ i. absurd (no-element q i)) h
  agent-among q is (Next a) n k path h = one-among (core.leaf n (Next a) (inner k) path) q (λ i. absurd (no-element q i)) h
  agent-among q is (Then c a) n k path h = guard-among k q is c path (core.Positive (inner k) c) refl (agent-among q is a (suc n) k (path ++ core.Positive (inner k) c ∷ []) h)
  agent-among q is (Else c a) n k path h = guard-among k q is c path (core.Negative (inner k) c) refl (agent-among q is a (suc n) k (path ++ core.Negative (inner k) c ∷ []) h)
  agent-among q is (New cell a) n k path h =
      let deeper : inner k ++ t ∷ [] ≡ inner (k + 1) = append_assoc b (replicate k t) (t ∷ []) ∙ ap (λ xs. b ++ xs) (replicate_more k t) in
      agent-among q is a (suc n) (k + 1) path (subst (λ (bs : List ℕ). Contains (spoken_in p (core.leaves_of t a (suc n) bs path)) q) deeper h)
  agent-among q is (Par l r) n k path h =
      let left : List core.Leaf = core.leaves_of t l (suc n) (inner k) path in
      let right : List core.Leaf = core.leaves_of t r (suc n + size l) (inner k) path in
      elim (Contains-append_cases (spoken_in p left) (spoken_in p right) q (subst (λ xs. Contains xs q) (spoken-append p left right) h)) [
        | inl i ↦ agent-among q is l (suc n) k path i
        | inr i ↦ agent-among q is r (suc n + size l) k path i
      ]

  root-among : (q : CellName) → IsLocal p q → (a : Agent) (n : ℕ) → Contains (spoken_in p (core.leaves_of t a n b [])) q → Contains root_names q
  root-among q is a n h = elim (agent-among q is a n 0 [] (subst (λ (bs : List ℕ). Contains (spoken_in p (core.leaves_of t a n bs [])) q) (sym (append-nil b)) h)) [ inl i ↦ absurd (no-element q i) | inr i ↦ i ]

-- UNDER ALL ROOTS

module _ (p : CoreProgram) (t : ℕ) where
  abbrev all_names : List Closure → List CellName
  all_names rs = flat_map (λ r. root_names p t r.births) rs

  all_names-few : length p.cells - p.declared ≤ most_cells → (rs : List Closure) → length (all_names rs) ≤ most_cells * length rs
  all_names-few few [] = omega arith
  all_names-few few (r ∷ rs) =
      let here = root_names-count p t r.births in
      let both = length-append (root_names p t r.births) (all_names rs) in
      let rest = all_names-few few rs in
      omega arith

  all-among : (q : CellName) → IsLocal p q → (rs : List Closure) → Contains (spoken_in p (core.leaves p rs t)) q → Contains (all_names rs) q
  all-among q is [] h = absurd (no-element q h)
  all-among q is (r ∷ rs) h =
      let own : List core.Leaf = core.leaves_of t (agent_at p.nodes r.node) r.node r.births [] in
      elim (Contains-append_cases (spoken_in p own) (spoken_in p (core.leaves p rs t)) q (subst (λ xs. Contains xs q) (spoken-append p own (core.leaves p rs t)) h)) [
        | inl i ↦ Contains-append_left (root_names p t r.births) (all_names rs) q (root-among p t r.births q is (agent_at p.nodes r.node) r.node i)
        | inr i ↦ Contains-append_right (root_names p t r.births) (all_names rs) q (all-among q is rs i)
      ]

  -- names of local cells that the roots speak of, no two of them equal
  names-few : IsWellFormed p → (rs : List Closure) (names : List CellName) → All (IsSpokenBy p (root_leaves p rs t)) names → IsStrictlySortedBy name_cmp names → length names ≤ most_cells * length rs
  names-few is rs names spoken order =
      let cells = is.limits.few_cells in
      let declared = is.limits.within in
      let few = all_names-few (omega arith) rs in
      let among = length-le_from_is_member name_equiv names (all_names rs) (IsDistinct-from_sorted name_cmp names order) (λ q e.
      let s = All-contains (IsSpokenBy p (root_leaves p rs t)) names q spoken (Contains-from_any equal_names q names e) in
      list_any-from_Contains name_equiv q (all_names rs) (all-among q s.local rs s.spoken)) in
      omega arith

  -- the cells of the instant are the declared ones and those of such names
  pub cells-few : IsWellFormed p → (rs : List Closure) (names : List CellName) → length rs ≤ most_roots → All (IsSpokenBy p (root_leaves p rs t)) names → IsStrictlySortedBy name_cmp names → p.declared + length names ≤ most_instant_cells
  cells-few is rs names few spoken order =
      let cells = is.limits.few_cells in
      let declared = is.limits.within in
      let most = names-few is rs names spoken order in
      omega arith
