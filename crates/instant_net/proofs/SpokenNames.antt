-- The names that leaves speak of, as they are collected.
use Rattle.std.proofs.Common.{◌≡◌, ℕ, suc, ◌+◌, ◌<◌, ◌≤◌, Bool, true, false, List, [], ◌∷◌, ◌++◌, length, map, get_or, Some, refl, sym, ap, ◌∙◌, subst, arith, ◌⊎◌, inl, inr, zero}
use Rattle.std.specs.Prelude.{Option, All, Contains, flat_map, slice_get, nat_lt, if◌then◌else◌}
use Rattle.std.proofs.lemmas.List.{append-nil, map-append}
use Rattle.std.proofs.lemmas.List.Elements.{All-contains, All-weaker, All-contains_itself, Contains-append_left, Contains-append_right}
use Rattle.std.proofs.lemmas.Grind.{flat_map-append}
use Rattle.std.proofs.lemmas.Map.Views.{All-insert_key}
use Rattle.std.specs.BTreeSet.{insert_key}
use Rattle.token_system.specs.declared.cell.Token.{Token}
use Rattle.token_system.specs.declared.name.CellName.{CellName}
use Rattle.token_system.specs.declared.name.CellName.TheVariants.{Declared}
use Rattle.token_system.specs.Names.{name_cmp}
use Rattle.agent_core.specs.declared.node.Closure.{Closure}
use Rattle.agent_core.specs.declared.node.CellDecl.{CellDecl}
use Rattle.agent_core.specs.declared.node.Node.{Node}
use Rattle.agent_core.specs.declared.node.Node.TheVariants as nodes
use Rattle.agent_core.specs.Agents.{Agent, Constraint, Skip, Tell, Then, Else, Par, New, Hence, Next, agent_at}
use Rattle.agent_core.specs.Programs.{CoreProgram}
use Rattle.agent_core.specs.WellFormed.{IsWellFormed}
use Rattle.agent_core.specs.Listing.{size}
use Rattle.agent_core.specs.Leaves as core
use Rattle.agent_core.specs.Names.{Names, name_of, local_name, new_of}
use Rattle.agent_core.specs.Scope.{TokenFits}
use Rattle.instant_net.specs.NamedLeaves.{Named, NamedGuard, told_by, names_of}
use Rattle.instant_net.specs.Programs.{token_named, constraint_named, guard_named, leaf_named, root_leaves}
use Rattle.instant_net.specs.Collecting.{IsLocal, IsSpokenBy, IsAskedBy, AddsAsked, AddsSpoken}
use Rattle.instant_net.proofs.NodeLeaves.{below, agent-is, then-below, else-below, new-below, par-below}
use Rattle.instant_net.proofs.Lists.{Contains-map}

abbrev pub ask_names : List Named → List CellName
ask_names xs = map (λ x. x.name) xs

-- ONE CONSTRAINT

ask-speaks : (p : CoreProgram) (b : List ℕ) (ask : Constraint) (i : ℕ) (x : ℕ × Token) → i < length ask → TokenFits p b (get_or ask i x) → Contains (ask_names (constraint_named p b ask)) (name_of p b (get_or ask i x).0)
ask-speaks p b ask i x lt f = Contains-map (λ (y : Named). y.name) (constraint_named p b ask) (record { name = name_of p b (get_or ask i x).0; cell = f.decl.cell; token = (get_or ask i x).1 }) (go ask i lt f)
  where
    first : (y : ℕ × Token) (d : CellDecl) (rest : List Named) → slice_get p.cells y.0 ≡ Some d → Contains (token_named p b y.0 y.1 (slice_get p.cells y.0) ++ rest) (record { name = name_of p b y.0; cell = d.cell; token = y.1 })
    first y d rest e =
        subst (λ (o : Option CellDecl). Contains (token_named p b y.0 y.1 o ++ rest) (record { name = name_of p b y.0; cell = d.cell; token = y.1 })) (sym e) (0, omega arith, refl)

    go : (ask : Constraint) (i : ℕ) → i < length ask → (f : TokenFits p b (get_or ask i x)) → Contains (constraint_named p b ask) (record { name = name_of p b (get_or ask i x).0; cell = f.decl.cell; token = (get_or ask i x).1 })
    go [] i lt f = absurd (omega arith)
    go (y ∷ ask) zero lt f = first y f.decl (constraint_named p b ask) f.found
    go (y ∷ ask) (suc i) lt f = Contains-append_right (token_named p b y.0 y.1 (slice_get p.cells y.0)) (constraint_named p b ask) _ (go ask i (omega arith) f)

local-name : (p : CoreProgram) (b : List ℕ) (x : ℕ × Token) → TokenFits p b x → p.declared ≤ x.0 → IsLocal p (name_of p b x.0)
local-name p b x f le = go (nat_lt x.0 p.declared) refl f.named
  where
    go : (r : Bool) → nat_lt x.0 p.declared ≡ r → Names p (if r then Declared x.0 else local_name p.nodes b (new_of p.nodes x.0)) f.decl → IsLocal p (if r then Declared x.0 else local_name p.nodes b (new_of p.nodes x.0))
    go true e named = absurd (let lt = named.0 in omega arith)
    go false e named = record { node = _; births = _; is = refl; decl = f.decl; named = named }

module _ (p : CoreProgram) (b : List ℕ) where
  pub asked-none : (ask : Constraint) (names : List CellName) → AddsAsked p b ask names names
  asked-none ask names = All-weaker (Contains names) (λ n. Contains names n ⊎ IsAskedBy p b ask n) (λ n h. inl h) names (All-contains_itself names)

  -- one more name of the constraint is inserted
  pub asked-next : (ask items : Constraint) (i : ℕ) (x : ℕ × Token) (before mid after : List CellName) (n : CellName) → items ≡ ask → i < length items → TokenFits p b (get_or items i x) → p.declared ≤ (get_or items i x).0
      → n ≡ name_of p b (get_or items i x).0 → AddsAsked p b ask before mid → after ≡ insert_key name_cmp mid n → AddsAsked p b ask before after
  asked-next ask items i x before mid after n same lt f le is h e =
      let P : CellName → Type 0 = λ q. Contains before q ⊎ IsAskedBy p b ask q in
      let here : IsAskedBy p b ask n = record {
        local = subst (IsLocal p) (sym is) (local-name p b (get_or items i x) f le);
        asked =
            subst (λ (c : Constraint). Contains (ask_names (constraint_named p b c)) n) same
            (subst (Contains (ask_names (constraint_named p b items))) (sym is) (ask-speaks p b items i x lt f));
      } in
      subst (All P) (sym e) (All-insert_key name_cmp n P mid h (inr here))

-- LEAVES

-- the names that the guards of a path speak of
abbrev pub path_names : CoreProgram → List core.Guard → List CellName
path_names p path = ask_names (flat_map (λ g. g.ask) (map (guard_named p) path))

abbrev pub spoken_in : CoreProgram → List core.Leaf → List CellName
spoken_in p ls = flat_map names_of (map (leaf_named p) ls)

pub spoken-append : (p : CoreProgram) (xs ys : List core.Leaf) → spoken_in p (xs ++ ys) ≡ spoken_in p xs ++ spoken_in p ys
spoken-append p xs ys = ap (flat_map names_of) (map-append (leaf_named p) xs ys) ∙ flat_map-append names_of (map (leaf_named p) xs) (map (leaf_named p) ys)

one-path : (p : CoreProgram) (l : core.Leaf) (q : CellName) → Contains (path_names p l.path) q → Contains (spoken_in p (l ∷ [])) q
one-path p l q h =
    let told : List Named = told_by (leaf_named p l).kind in
    let asks : List Named = flat_map (λ g. g.ask) (map (guard_named p) l.path) in
    subst (λ xs. Contains xs q) (sym (append-nil (ask_names (told ++ asks)) ∙ map-append (λ (x : Named). x.name) told asks)) (Contains-append_right (ask_names told) (ask_names asks) q h)

one-told : (p : CoreProgram) (l : core.Leaf) (q : CellName) → Contains (ask_names (told_by (leaf_named p l).kind)) q → Contains (spoken_in p (l ∷ [])) q
one-told p l q h =
    let told : List Named = told_by (leaf_named p l).kind in
    let asks : List Named = flat_map (λ g. g.ask) (map (guard_named p) l.path) in
    subst (λ xs. Contains xs q) (sym (append-nil (ask_names (told ++ asks)) ∙ map-append (λ (x : Named). x.name) told asks)) (Contains-append_left (ask_names told) (ask_names asks) q h)

pub path_names-append : (p : CoreProgram) (path : List core.Guard) (g : core.Guard) → path_names p (path ++ g ∷ []) ≡ path_names p path ++ ask_names (guard_named p g).ask
path_names-append p path g =
    ap (λ xs. ask_names (flat_map (λ y. y.ask) xs)) (map-append (guard_named p) path (g ∷ []))
    ∙ ap ask_names (flat_map-append (λ (y : NamedGuard). y.ask) (map (guard_named p) path) (guard_named p g ∷ []) ∙ ap (λ xs. flat_map (λ y. y.ask) (map (guard_named p) path) ++ xs) (append-nil (guard_named p g).ask))
    ∙ map-append (λ (x : Named). x.name) (flat_map (λ y. y.ask) (map (guard_named p) path)) (guard_named p g).ask

-- what a path speaks of each leaf below it speaks of
path-spoken : (p : CoreProgram) (t : ℕ) (a : Agent) (n : ℕ) (b : List ℕ) (path : List core.Guard) (q : CellName) → Contains (path_names p path) q → Contains (spoken_in p (core.leaves_of t a n b path)) q
path-spoken p t Skip n b path q h = one-path p (core.leaf n Skip b path) q h
path-spoken p t (Tell c) n b path q h = one-path p (core.leaf n (Tell c) b path) q h
path-spoken p t (Hence a) n b path q h = one-path p (core.leaf n (Hence a) b path) q h
path-spoken p t (Next a) n b path q h = one-path p (core.leaf n (Next a) b path) q h
path-spoken p t (New cell a) n b path q h = path-spoken p t a (suc n) (b ++ t ∷ []) path q h
path-spoken p t (Then c a) n b path q h =
    path-spoken p t a (suc n) b (path ++ core.Positive b c ∷ []) q (subst (λ xs. Contains xs q) (sym (path_names-append p path (core.Positive b c))) (Contains-append_left (path_names p path) (ask_names (constraint_named p b c)) q h))
path-spoken p t (Else c a) n b path q h =
    path-spoken p t a (suc n) b (path ++ core.Negative b c ∷ []) q (subst (λ xs. Contains xs q) (sym (path_names-append p path (core.Negative b c))) (Contains-append_left (path_names p path) (ask_names (constraint_named p b c)) q h))
path-spoken p t (Par l r) n b path q h =
    let left : List core.Leaf = core.leaves_of t l (suc n) b path in
    let right : List core.Leaf = core.leaves_of t r (suc n + size l) b path in
    subst (λ xs. Contains xs q) (sym (spoken-append p left right)) (Contains-append_left (spoken_in p left) (spoken_in p right) q (path-spoken p t l (suc n) b path q h))

-- NODES

module _ (p : CoreProgram) (is : IsWellFormed p) (t n : ℕ) (b : List ℕ) where
  abbrev Spoken : ℕ → List ℕ → CellName → Type 0
  Spoken m bs q = (path : List core.Guard) → IsSpokenBy p (map (leaf_named p) (core.leaves_of t (agent_at p.nodes m) m bs path)) q

  pub spoken-none : (names : List CellName) → AddsSpoken p t n b names names
  spoken-none names = All-weaker (Contains names) (λ q. Contains names q ⊎ Spoken n b q) (λ q h. inl h) names (All-contains_itself names)

  pub spoken-tell : (c : Constraint) → slice_get p.nodes n ≡ Some (nodes.Tell c) → (before after : List CellName) → AddsAsked p b c before after → AddsSpoken p t n b before after
  spoken-tell c found before after h = All-weaker (λ q. Contains before q ⊎ IsAskedBy p b c q) (λ q. Contains before q ⊎ Spoken n b q) go after h
    where
      go : (q : CellName) → Contains before q ⊎ IsAskedBy p b c q → Contains before q ⊎ Spoken n b q
      go q (inl i) = inl i
      go q (inr i) = inr (λ path. record {
        local = i.local;
        spoken = subst (λ (a : Agent). Contains (spoken_in p (core.leaves_of t a n b path)) q) (sym (agent-is p is n (nodes.Tell c) found)) (one-told p (core.leaf n (Tell c) b path) q i.asked);
      })

  -- names below a part, after those of a constraint above it
  spoken-guard : (c : Constraint) (m : ℕ) (mk : core.Guard) → (guard_named p mk).ask ≡ constraint_named p b c → ((path : List core.Guard) → below p is n t b path n ≡ below p is n t b (path ++ mk ∷ []) m)
      → (before mid after : List CellName) → AddsAsked p b c before mid → AddsSpoken p t m b mid after → AddsSpoken p t n b before after
  spoken-guard c m mk asks same before mid after h h' = All-weaker (λ q. Contains mid q ⊎ Spoken m b q) (λ q. Contains before q ⊎ Spoken n b q) go after h'
    where
      below-it : (q : CellName) (path : List core.Guard) → Contains (spoken_in p (below p is n t b (path ++ mk ∷ []) m)) q → Contains (spoken_in p (below p is n t b path n)) q
      below-it q path h = subst (λ xs. Contains (spoken_in p xs) q) (sym (same path)) h

      asked : (q : CellName) → IsAskedBy p b c q → Spoken n b q
      asked q i path = record {
        local = i.local;
        spoken = below-it q path
            (path-spoken p t (agent_at p.nodes m) m b (path ++ mk ∷ []) q
            (subst (λ xs. Contains xs q) (sym (path_names-append p path mk))
            (Contains-append_right (path_names p path) (ask_names (guard_named p mk).ask) q (subst (λ xs. Contains (ask_names xs) q) (sym asks) i.asked))));
      }

      go : (q : CellName) → Contains mid q ⊎ Spoken m b q → Contains before q ⊎ Spoken n b q
      go q (inl i) = elim (All-contains (λ x. Contains before x ⊎ IsAskedBy p b c x) mid q h i) [ inl j ↦ inl j | inr j ↦ inr (asked q j) ]
      go q (inr i) = inr (λ path. let s = i (path ++ mk ∷ []) in record { local = s.local; spoken = below-it q path s.spoken })

  pub spoken-body : (d : Node) (c : Constraint) (m : ℕ) → (d ≡ nodes.Then c m) ⊎ (d ≡ nodes.Else c m) → slice_get p.nodes n ≡ Some d
      → (before mid after : List CellName) → AddsAsked p b c before mid → AddsSpoken p t m b mid after → AddsSpoken p t n b before after
  spoken-body d c m (inl e) found = spoken-guard c m (core.Positive b c) refl (λ path. then-below p is n t b path c m (found ∙ ap Some e))
  spoken-body d c m (inr e) found = spoken-guard c m (core.Negative b c) refl (λ path. else-below p is n t b path c m (found ∙ ap Some e))

  pub spoken-new : (cell m : ℕ) (inner : List ℕ) → slice_get p.nodes n ≡ Some (nodes.New cell m) → inner ≡ b ++ t ∷ [] → (before after : List CellName) → AddsSpoken p t m inner before after → AddsSpoken p t n b before after
  spoken-new cell m inner found e before after h = All-weaker (λ q. Contains before q ⊎ Spoken m inner q) (λ q. Contains before q ⊎ Spoken n b q) go after h
    where
      go : (q : CellName) → Contains before q ⊎ Spoken m inner q → Contains before q ⊎ Spoken n b q
      go q (inl i) = inl i
      go q (inr i) = inr (λ path. subst (λ xs. IsSpokenBy p (map (leaf_named p) xs) q) (ap (λ (bs : List ℕ). below p is n t bs path m) e ∙ sym (new-below p is n t b path cell m found)) (i path))

  pub spoken-par : (l r : ℕ) → slice_get p.nodes n ≡ Some (nodes.Par l r) → (before mid after : List CellName) → AddsSpoken p t l b before mid → AddsSpoken p t r b mid after → AddsSpoken p t n b before after
  spoken-par l r found before mid after h h' = All-weaker (λ q. Contains mid q ⊎ Spoken r b q) (λ q. Contains before q ⊎ Spoken n b q) go after h'
    where
      whole : (q : CellName) (path : List core.Guard) → Contains (spoken_in p (below p is n t b path l) ++ spoken_in p (below p is n t b path r)) q → Contains (spoken_in p (below p is n t b path n)) q
      whole q path h = subst (λ xs. Contains xs q) (sym (ap (spoken_in p) (par-below p is n t b path l r found) ∙ spoken-append p (below p is n t b path l) (below p is n t b path r))) h

      go : (q : CellName) → Contains mid q ⊎ Spoken r b q → Contains before q ⊎ Spoken n b q
      go q (inl i) = elim (All-contains (λ x. Contains before x ⊎ Spoken l b x) mid q h i) [
        | inl j ↦ inl j
        | inr j ↦ inr (λ path. let s = j path in record { local = s.local; spoken = whole q path (Contains-append_left (spoken_in p (below p is n t b path l)) (spoken_in p (below p is n t b path r)) q s.spoken) })
      ]
      go q (inr i) = inr (λ path. let s = i path in record { local = s.local; spoken = whole q path (Contains-append_right (spoken_in p (below p is n t b path l)) (spoken_in p (below p is n t b path r)) q s.spoken) })

-- ROOTS

root-spoken : (p : CoreProgram) (t : ℕ) (q : CellName) (roots : List Closure) (i : ℕ) (r : Closure) → i < length roots → r ≡ get_or roots i r
    → Contains (spoken_in p (core.leaves_of t (agent_at p.nodes r.node) r.node r.births [])) q → Contains (spoken_in p (core.leaves p roots t)) q
root-spoken p t q [] i r lt is h = absurd (omega arith)
root-spoken p t q (s ∷ roots) zero r lt is h =
    let own : List core.Leaf = core.leaves_of t (agent_at p.nodes s.node) s.node s.births [] in
    subst (λ xs. Contains xs q) (sym (spoken-append p own (core.leaves p roots t)))
    (Contains-append_left (spoken_in p own) (spoken_in p (core.leaves p roots t)) q (subst (λ (c : Closure). Contains (spoken_in p (core.leaves_of t (agent_at p.nodes c.node) c.node c.births [])) q) is h))
root-spoken p t q (s ∷ roots) (suc i) r lt is h =
    let own : List core.Leaf = core.leaves_of t (agent_at p.nodes s.node) s.node s.births [] in
    subst (λ xs. Contains xs q) (sym (spoken-append p own (core.leaves p roots t)))
    (Contains-append_right (spoken_in p own) (spoken_in p (core.leaves p roots t)) q (root-spoken p t q roots i r (omega arith) is h))

pub names-next : (p : CoreProgram) (t : ℕ) (roots : List Closure) (i : ℕ) (r : Closure) (b : List ℕ) (before after : List CellName) → i < length roots → r ≡ get_or roots i r → b ≡ r.births
    → All (IsSpokenBy p (root_leaves p roots t)) before → AddsSpoken p t r.node b before after → All (IsSpokenBy p (root_leaves p roots t)) after
names-next p t roots i r b before after lt is eb h h' =
    All-weaker (λ q. Contains before q ⊎ ((path : List core.Guard) → IsSpokenBy p (map (leaf_named p) (core.leaves_of t (agent_at p.nodes r.node) r.node b path)) q)) (IsSpokenBy p (root_leaves p roots t)) go after h'
  where
    go : (q : CellName) → Contains before q ⊎ ((path : List core.Guard) → IsSpokenBy p (map (leaf_named p) (core.leaves_of t (agent_at p.nodes r.node) r.node b path)) q) → IsSpokenBy p (root_leaves p roots t) q
    go q (inl j) = All-contains (IsSpokenBy p (root_leaves p roots t)) before q h j
    go q (inr j) =
        let s = j [] in
        record { local = s.local; spoken = root-spoken p t q roots i r lt is (subst (λ (bs : List ℕ). Contains (spoken_in p (core.leaves_of t (agent_at p.nodes r.node) r.node bs [])) q) eb s.spoken) }
