-- What the leaves of roots start that a store runs: what the roots start, by the test whether a hence starts it.
use Rattle.std.proofs.Common.{◌≡◌, ℕ, suc, ◌+◌, Bool, true, false, ◌&&◌, not, cond, List, [], ◌∷◌, ◌++◌, map, Some, None, refl, sym, ap, ◌∙◌}
use Rattle.std.specs.Prelude.{Option, filter, filter_map, flat_map, if◌then◌else◌}
use Rattle.std.specs.List.{list_all, cons_option}
use Rattle.std.proofs.lemmas.List.{map-append}
use Rattle.std.proofs.lemmas.List.Elements.{filter-append, filter_map-append}
use Rattle.std.proofs.lemmas.List.Folds.{list_all-append}
use Rattle.std.proofs.Math.Bool.{and-true}
use Rattle.token_system.specs.Stores.{StoreMap}
use Rattle.agent_core.specs.declared.node.Closure.{Closure}
use Rattle.agent_core.specs.declared.node.Node.{Node}
use Rattle.agent_core.specs.Agents.{Agent, Skip, Tell, Then, Else, Par, New, Hence, Next, agent_at}
use Rattle.agent_core.specs.Programs.{CoreProgram}
use Rattle.agent_core.specs.WellFormed.{IsWellFormed}
use Rattle.agent_core.specs.Listing.{size, listing}
use Rattle.agent_core.specs.Names.{IsClosure}
use Rattle.agent_core.specs.Rests as rests
use Rattle.agent_core.specs.Scope.{AgentFits}
use Rattle.agent_core.specs.Strata.{Each}
use Rattle.agent_core.specs.Closures.{closure, started}
use Rattle.agent_core.specs.Leaves as core
use Rattle.agent_core.proofs.Standing.{StandsAt, stands-tail}
use Rattle.agent_core.proofs.ListingTrees.{left_listed, right_listed, listed_tree}
use Rattle.agent_core.proofs.Scopes.{closure_fits, placed}
use Rattle.agent_laws.specs.NextRoots.{is_hence, stays, starts}
use Rattle.agent_laws.proofs.Eachs.{all_each}
use Rattle.instant_net.specs.NamedLeaves.{Named, Kind, Idle, Tells, StartsHence, StartsNext, NamedLeaf, allows_named, runs_named}
use Rattle.instant_net.specs.Nets.{Flat}
use Rattle.instant_net.specs.Opened.{IsNetOf}
use Rattle.instant_net.specs.Programs.{constraint_named, guard_named, leaf_named, root_leaves}
use Rattle.instant_net.proofs.NetRests.{entails-named}
use Rattle.residuals.specs.RootLists.{goes}
use Rattle.residuals.specs.NextRoots.{hence_body, next_body, started_of, started_by}

-- the closure where the test passes it
abbrev kept : Bool → Closure → Option Closure
kept b c = cond b (Some c) None

-- of the closures that leaves start, the word names those that the test passes
record Selects (p : CoreProgram) (S : Closure → Bool) (body : Kind → Option Closure) : Type 0 where
  idle : body Idle ≡ None
  tells : (told : List Named) → body (Tells told) ≡ None
  hence : (n : ℕ) (b : List ℕ) (a : Agent) → agent_at p.nodes n ≡ Hence a → body (StartsHence (closure (suc n) b)) ≡ kept (S (closure (suc n) b)) (closure (suc n) b)
  next : (n : ℕ) (b : List ℕ) (a : Agent) → agent_at p.nodes n ≡ Next a → body (StartsNext (closure (suc n) b)) ≡ kept (S (closure (suc n) b)) (closure (suc n) b)

selects_hence : (p : CoreProgram) → Selects p (stays p) hence_body
selects_hence p = record {
  idle = refl;
  tells = λ told. refl;
  hence = λ n b a e. sym (ap (λ (x : Agent). kept (is_hence x) (closure (suc n) b)) e);
  next = λ n b a e. sym (ap (λ (x : Agent). kept (is_hence x) (closure (suc n) b)) e);
}

selects_next : (p : CoreProgram) → Selects p (goes p) next_body
selects_next p = record {
  idle = refl;
  tells = λ told. refl;
  hence = λ n b a e. sym (ap (λ (x : Agent). kept (not (is_hence x)) (closure (suc n) b)) e);
  next = λ n b a e. sym (ap (λ (x : Agent). kept (not (is_hence x)) (closure (suc n) b)) e);
}

pub started_of-append : (body : Kind → Option Closure) (w : StoreMap) (xs ys : List NamedLeaf) → started_of body (xs ++ ys) w ≡ started_of body xs w ++ started_of body ys w
started_of-append body w xs ys =
    ap (filter_map (λ l. body l.kind)) (filter-append (runs_named w) xs ys) ∙ filter_map-append (λ l. body l.kind) (filter (runs_named w) xs) (filter (runs_named w) ys)

-- what one leaf starts
pub started_of-one : (body : Kind → Option Closure) (w : StoreMap) (l : NamedLeaf) (o : Option Closure) → body l.kind ≡ o → started_of body (l ∷ []) w ≡ cond (runs_named w l) (cons_option o []) []
started_of-one body w l o e = go (runs_named w l)
  where
    go : (b : Bool) → filter_map (λ (l : NamedLeaf). body l.kind) (cond b (l ∷ []) []) ≡ cond b (cons_option o []) []
    go true = ap (λ (o : Option Closure). cons_option o []) e
    go false = refl

-- CONDITIONS

keep_one : (b : Bool) (c : Closure) → cons_option (kept b c) [] ≡ cond b (c ∷ []) []
keep_one true c = refl
keep_one false c = refl

module _ (S : Closure → Bool) where
  keep_then : (a e : Bool) (cs : List Closure) → cond (a && e) (filter S cs) [] ≡ cond a (filter S (if e then cs else [])) []
  keep_then true true cs = refl
  keep_then true false cs = refl
  keep_then false e cs = refl

  keep_else : (a e : Bool) (cs : List Closure) → cond (a && not e) (filter S cs) [] ≡ cond a (filter S (if e then [] else cs)) []
  keep_else true true cs = refl
  keep_else true false cs = refl
  keep_else false e cs = refl

  keep_both : (a : Bool) (cs ds : List Closure) → cond a (filter S cs) [] ++ cond a (filter S ds) [] ≡ cond a (filter S (cs ++ ds)) []
  keep_both true cs ds = sym (filter-append S cs ds)
  keep_both false cs ds = refl

-- LEAVES

module _ (p : CoreProgram) (w : StoreMap) (t : ℕ) (S : Closure → Bool) (body : Kind → Option Closure) (selects : Selects p S body) where
  -- whether the store allows the guards
  abbrev is_open : List core.Guard → Bool
  is_open path = list_all (allows_named w) (map (guard_named p) path)

  open-more : (path : List core.Guard) (g : core.Guard) (e : Bool) → allows_named w (guard_named p g) ≡ e → is_open (path ++ g ∷ []) ≡ (is_open path && e)
  open-more path g e h =
      ap (list_all (allows_named w)) (map-append (guard_named p) path (g ∷ []))
      ∙ list_all-append (allows_named w) (map (guard_named p) path) (guard_named p g ∷ [])
      ∙ ap (λ (r : Bool). is_open path && r) (and-true (allows_named w (guard_named p g)) ∙ h)

  -- what is started beyond the path
  abbrev beyond : List core.Guard → List Closure → List Closure
  beyond path cs = cond (is_open path) (filter S cs) []

  starter : (path : List core.Guard) (k : Kind) (c : Closure) → body k ≡ kept (S c) c → started_of body (record { kind = k; path = map (guard_named p) path } ∷ []) w ≡ beyond path (c ∷ [])
  starter path k c e =
      started_of-one body w (record { kind = k; path = map (guard_named p) path }) (kept (S c) c) e ∙ ap (λ (cs : List Closure). cond (is_open path) cs []) (keep_one (S c) c)

  leaves-started : (a : Agent) (n : ℕ) (b : List ℕ) (path : List core.Guard) → AgentFits p t a b → StandsAt Node p.nodes n (listing n a)
      → started_of body (map (leaf_named p) (core.leaves_of t a n b path)) w ≡ beyond path (started p (w ∷ []) a n b t)
  leaves-started Skip n b path f at = started_of-one body w (leaf_named p (core.leaf n Skip b path)) None selects.idle
  leaves-started (Tell c) n b path f at = started_of-one body w (leaf_named p (core.leaf n (Tell c) b path)) None (selects.tells (constraint_named p b c))
  leaves-started (Hence a) n b path f at = starter path (StartsHence (closure (suc n) b)) (closure (suc n) b) (selects.hence n b a (listed_tree p.nodes n (Hence a) at))
  leaves-started (Next a) n b path f at = starter path (StartsNext (closure (suc n) b)) (closure (suc n) b) (selects.next n b a (listed_tree p.nodes n (Next a) at))
  leaves-started (Then c a) n b path f at =
      leaves-started a (suc n) b (path ++ core.Positive b c ∷ []) f.1 (stands-tail at)
      ∙ ap (λ (r : Bool). cond r (filter S (started p (w ∷ []) a (suc n) b t)) []) (open-more path (core.Positive b c) (rests.entails p b w c) (entails-named p b c w f.0))
      ∙ keep_then S (is_open path) (rests.entails p b w c) (started p (w ∷ []) a (suc n) b t)
  leaves-started (Else c a) n b path f at =
      leaves-started a (suc n) b (path ++ core.Negative b c ∷ []) f.1 (stands-tail at)
      ∙ ap (λ (r : Bool). cond r (filter S (started p (w ∷ []) a (suc n) b t)) []) (open-more path (core.Negative b c) (not (rests.entails p b w c)) (ap not (entails-named p b c w f.0)))
      ∙ keep_else S (is_open path) (rests.entails p b w c) (started p (w ∷ []) a (suc n) b t)
  leaves-started (Par l r) n b path f at =
      let left : List core.Leaf = core.leaves_of t l (suc n) b path in
      let right : List core.Leaf = core.leaves_of t r (suc n + size l) b path in
      let first : List Closure = started p (w ∷ []) l (suc n) b t in
      let second : List Closure = started p (w ∷ []) r (suc n + size l) b t in
      ap (λ (ls : List NamedLeaf). started_of body ls w) (map-append (leaf_named p) left right)
      ∙ started_of-append body w (map (leaf_named p) left) (map (leaf_named p) right)
      ∙ ap (λ (cs : List Closure). cs ++ started_of body (map (leaf_named p) right) w) (leaves-started l (suc n) b path f.0 (left_listed l r at))
      ∙ ap (λ (cs : List Closure). beyond path first ++ cs) (leaves-started r (suc n + size l) b path f.1 (right_listed l r at))
      ∙ keep_both S (is_open path) first second
  leaves-started (New cell a) n b path f at = leaves-started a (suc n) (b ++ t ∷ []) path f (stands-tail at)

  roots-started : IsWellFormed p → (rs : List Closure) → Each (λ r. IsClosure p r.node r.births) rs → started_of body (root_leaves p rs t) w ≡ filter S (flat_map (starts p w t) rs)
  roots-started is [] own = refl
  roots-started is (r ∷ rs) own =
      let here : List core.Leaf = core.leaves_of t (agent_at p.nodes r.node) r.node r.births [] in
      let at = (placed p is r.node own.0.node).1.place.listed in
      ap (λ (ls : List NamedLeaf). started_of body ls w) (map-append (leaf_named p) here (core.leaves p rs t))
      ∙ started_of-append body w (map (leaf_named p) here) (root_leaves p rs t)
      ∙ ap (λ (cs : List Closure). cs ++ started_of body (root_leaves p rs t) w) (leaves-started (agent_at p.nodes r.node) r.node r.births [] (closure_fits p is r.node r.births own.0 t) at)
      ∙ ap (λ (cs : List Closure). filter S (starts p w t r) ++ cs) (roots-started is rs own.1)
      ∙ sym (filter-append S (starts p w t r) (flat_map (starts p w t) rs))

-- what the leaves of a net start is what its roots start: the bodies of hences, and those of nexts
module _ (p : CoreProgram) (table : List ℕ) (rs : List Closure) (t : ℕ) (net : Flat) (is : IsNetOf p table rs t net) (w : StoreMap) where
  pub hence-started : started_by hence_body net w ≡ filter (stays p) (flat_map (starts p w t) rs)
  hence-started =
      ap (λ (ls : List NamedLeaf). started_of hence_body ls w) is.leaves
      ∙ roots-started p w t (stays p) hence_body (selects_hence p) is.program rs (all_each (λ r. IsClosure p r.node r.births) rs is.roots)

  pub next-started : started_by next_body net w ≡ filter (goes p) (flat_map (starts p w t) rs)
  next-started =
      ap (λ (ls : List NamedLeaf). started_of next_body ls w) is.leaves
      ∙ roots-started p w t (goes p) next_body (selects_next p) is.program rs (all_each (λ r. IsClosure p r.node r.births) rs is.roots)
