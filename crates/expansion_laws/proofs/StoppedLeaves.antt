-- Once an output entails the constraint of a watching that was started, no leaf is run that comes of the watching's body.
use Rattle.std.proofs.Common.{◌≡◌, ◌⊎◌, inl, inr, ℕ, suc, ◌+◌, ◌<◌, ◌≤◌, Bool, true, false, ◌&&◌, not, List, [], ◌∷◌, ◌++◌, length, length-append, take, Some, None, refl, sym, ap, ◌∙◌, subst, arith}
use Rattle.std.specs.Prelude.{Option, slice_get, Contains, IsTrue, IsFalse, nat_lt, if◌then◌else◌}
use Rattle.std.proofs.Math.Seq.{take-append_seam}
use Rattle.std.proofs.lemmas.Bool.{eq-eqb, ne_eqb, ltb-true}
use Rattle.std.proofs.lemmas.Option.{slice_get_within}
use Rattle.std.proofs.lemmas.List.{length-map, append-nil}
use Rattle.token_system.specs.declared.cell.Token.{Token}
use Rattle.token_system.specs.declared.name.CellName.{CellName}
use Rattle.token_system.specs.declared.name.CellName.TheVariants.{Declared, Local}
use Rattle.token_system.specs.Stores.{StoreMap, store_entails}
use Rattle.token_system.proofs.Alike.{true_false}
use Rattle.agent_core.specs.declared.node.CellDecl.{CellDecl}
use Rattle.agent_core.specs.declared.node.Node.TheVariants as nodes
use Rattle.agent_core.specs.Agents.{Constraint}
use Rattle.agent_core.specs.Agents as agent
use Rattle.agent_core.specs.Programs.{CoreProgram}
use Rattle.agent_core.specs.Names.{depth_of, new_of, local_name, name_of}
use Rattle.agent_core.specs.WellFormed.{IsAmong, IsWellFormed, AreInScope}
use Rattle.agent_core.specs.Leaves.{Leaf, Negative, allows, runs}
use Rattle.agent_core.specs.Rests.{holds_at, holds, entails}
use Rattle.agent_core.specs.RestsAfter.{rests_after}
use Rattle.agent_core.specs.Strata.{Each}
use Rattle.agent_core.proofs.Standing.{stands-head, stands-tail}
use Rattle.agent_core.proofs.Places.{depth_of-place}
use Rattle.agent_core.proofs.NewNodes.{new_of-one}
use Rattle.agent_laws.proofs.Eachs.{Each-map}
use Rattle.tdcc_reader.specs.Surfaces.{SurfaceProgram}
use Rattle.tdcc_reader.specs.Trees.{Watch}
use Rattle.surface_laws.specs.Surfaces.{bare, new_cells}
use Rattle.expansion_laws.specs.SymbolicAgents.{SymbolicAgent, Tell, Then, Par, Hence, binders}
use Rattle.expansion_laws.specs.Numbering.{Binding, binding, bound_cell, bound_constraint, bound_agent}
use Rattle.expansion_laws.specs.Table.{signal_on, always, guarded}
use Rattle.expansion_laws.specs.Expanding.{symbolic_of}
use Rattle.expansion_laws.specs.Origins.{cell_binders, copied}
use Rattle.expansion_laws.proofs.Walks.{Way, way, cells_of, Reads, reads_more, reads_first, opens_same, watch_added}
use Rattle.expansion_laws.proofs.Stemming.{Has, has_own}
use Rattle.expansion_laws.proofs.Enclosing.{IsBelow}
use Rattle.expansion_laws.proofs.Clocking.{read_back, all_known, in_scope}
use Rattle.expansion_laws.proofs.CopiedLeaves.{counted, name_same}
use Rattle.expansion_laws.proofs.Members.{all_in}
use Rattle.expansion_laws.proofs.Leading.{both_observe}
use Rattle.expansion_laws.proofs.Stopping.{once, stays_on}
use Rattle.expansion_laws.proofs.NewBinders.{symbolic_binders}
use Rattle.expansion_laws.proofs.Spots.{Trail, binders_of, inside, under, beside, At, Nowhere, not_at, at_new, at_par}
use Rattle.expansion_laws.proofs.FreeForms.{Aim, Found}
use Rattle.expansion_laws.proofs.WatchedLeaves.{Waits, waits}

-- A constraint is read in the same way under births that name its cells alike.
module _ (p : CoreProgram) (b b' : List ℕ) (w : StoreMap) where
  holds_alike : (x : ℕ) (t : Token) → name_of p b x ≡ name_of p b' x → holds p b w (x, t) ≡ holds p b' w (x, t)
  holds_alike x t e = go (slice_get p.cells x)
    where
      go : (o : Option CellDecl) → holds_at o p b w x t ≡ holds_at o p b' w x t
      go None = refl
      go (Some d) = ap (λ (name : CellName). store_entails w name d.cell t) e

  pub entails_alike : (ask : Constraint) → Each (λ (pair : ℕ × Token). name_of p b pair.0 ≡ name_of p b' pair.0) ask → entails p b w ask ≡ entails p b' w ask
  entails_alike [] h = refl
  entails_alike (pair ∷ ask) h = ap (λ (x : Bool). x && entails p b w ask) (holds_alike pair.0 pair.1 h.0) ∙ ap (λ (x : Bool). holds p b' w pair && x) (entails_alike ask h.1)

-- no leaf is run while what it waits for is there
pub not_run : (p : CoreProgram) (v : StoreMap) (l : Leaf) (b : List ℕ) (ask : Constraint) → Contains l.path (Negative b ask) → (IsTrue (runs p v l) → IsTrue (entails p b v ask)) → IsFalse (runs p v l)
not_run p v l b ask k h = go (runs p v l) refl
  where
    go : (r : Bool) → runs p v l ≡ r → r ≡ false
    go false e = refl
    go true e = absurd (true_false (sym (all_in (allows p v) (Negative b ask) l.path e k) ∙ ap not (h e)))

-- a new of another binder changes nothing for a constraint
pub ask_under : (k n : ℕ) (scope : List Binding) (c : Constraint) → Each (λ (pair : ℕ × Token). pair.0 < k) c → bound_constraint (binding k n ∷ scope) c ≡ bound_constraint scope c
ask_under k n scope [] h = refl
ask_under k n scope (pair ∷ c) h =
    let lt = h.0 in
    ap (λ (b : Bool). (if b then n else bound_cell scope pair.0, pair.1) ∷ bound_constraint (binding k n ∷ scope) c) (ne_eqb k pair.0 (λ e. omega arith))
    ∙ ap (λ (ask : Constraint). (bound_cell scope pair.0, pair.1) ∷ ask) (ask_under k n scope c h.1)

-- a declared cell has its own binder
pub own_binder : (s : SurfaceProgram) (d : SymbolicAgent) (k : ℕ) → k < s.declared → slice_get (cell_binders s d) k ≡ Some k
own_binder s d k lt = counted 0 s.declared k (binders d) lt ∙ ap Some (omega arith)

-- what is in scope is a cell of the program
pub cells_below : (q : CoreProgram) (k : ℕ) (locals : List ℕ) → length q.cells ≤ k → (c : Constraint) → AreInScope q locals c → Each (λ (pair : ℕ × Token). pair.0 < k) c
cells_below q k locals le [] h = tt
cells_below q k locals le (pair ∷ c) h = let lt = slice_get_within q.cells pair.0 h.0.decl h.0.found in (omega arith, cells_below q k locals le c h.1)

-- a copy of a watching from which a leaf comes
module _ (x : Trail) (y : Aim x) (f : Found x y) where
  -- the number of the watching's hidden cell, and its binder
  abbrev binder : ℕ
  binder = length x.surface.cells + y.number

  abbrev pub hidden : ℕ
  hidden = f.spot.cell

  abbrev scope : List Binding
  scope = binding binder hidden ∷ f.spot.scope

  abbrev births : List ℕ
  births = f.spot.births ++ f.spot.start ∷ []

  abbrev pub ask : Constraint
  ask = bound_constraint scope y.stop

  -- the part of the watching's own
  abbrev clock : SymbolicAgent
  clock = always (Then None y.stop (Par None (Tell None (signal_on binder)) (Hence None (Tell None (signal_on binder)))))

  abbrev body : SymbolicAgent
  body = guarded binder (symbolic_of (length x.surface.cells) (suc y.number) y.body)

  pub bound : slice_get (binders_of x) hidden ≡ Some binder
  bound = stands-head f.at.part.bound

  inner : At x (inside f.spot binder) (Par None clock body)
  inner = at_new x f.spot None binder (Par None clock body) f.at

  read : bound_cell scope binder ≡ hidden
  read = ap (λ (b : Bool). if b then hidden else bound_cell f.spot.scope binder) (eq-eqb binder binder refl)

  -- THE LEAF WAITS

  not_own : At x (under (inside f.spot binder)) clock → ⊥
  not_own h =
      let In : ℕ → Type 0 = IsBelow y.number (Watch y.body y.stop) in
      let here : Way = way scope births [] in
      let own = has_own (length x.surface.cells) (binders_of x) In Nowhere y.number (λ i. let behind = i.0 in omega arith) in
      let first : Reads (binders_of x) 0 scope binder = reads_first (binders_of x) 0 f.spot.scope binder hidden binder refl bound in
      not_at x In y.form y.stems y.inside clock (under (inside f.spot binder)) [] h
      (watch_added (binders_of x) (Has (length x.surface.cells) (binders_of x) In Nowhere) here binder y.stop own first here (opens_same (binders_of x) here h.even))

  others : Each (λ (k : ℕ). k ≡ binder → ⊥) (binders (symbolic_of (length x.surface.cells) (suc y.number) y.body))
  others =
      symbolic_binders (λ (k : ℕ). k ≡ binder → ⊥) (length x.surface.cells) y.body (suc y.number) (λ i le e. omega arith)
      (Each-map (λ (k : ℕ). k < length x.surface.cells) (λ (k : ℕ). k ≡ binder → ⊥) (λ k lt e. omega arith) (new_cells y.body) f.below)

  pub waiting : Waits x.program x.leaf hidden births
  waiting = go (at_par x (inside f.spot binder) None clock body inner)
    where
      go : At x (under (inside f.spot binder)) clock ⊎ At x (beside (inside f.spot binder) clock) body → Waits x.program x.leaf hidden births
      go (inl own) = absurd (not_own own)
      go (inr at) = waits x binder hidden births (symbolic_of (length x.surface.cells) (suc y.number) y.body) (beside (inside f.spot binder) clock) at read (inl refl) refl others

  -- THE CONSTRAINT

  wider : (k : ℕ) → (k < x.surface.declared) ⊎ IsAmong f.locals k → Reads (binders_of x) x.surface.declared scope k
  wider k h = reads_more (binders_of x) x.surface.declared f.spot.scope binder hidden k bound (f.seen k h)

  pub copies : copied (binders_of x) ask ≡ y.stop
  copies = read_back (binders_of x) x.surface.declared scope y.stop (in_scope (binders_of x) x.surface.declared (bare x.surface) f.locals (way scope births []) refl (record { even = inner.even; reads = wider }) y.stop f.scoped.tokens)

  -- OBSERVED

  observed : IsTrue (runs x.program x.output x.leaf) → IsTrue (rests_after x.program x.output x.output f.spot.stores (agent.Par (once ask (signal_on hidden)) (agent.Hence (once ask (signal_on hidden)))) births f.spot.start)
  observed r =
      subst (λ (k : ℕ). IsTrue (rests_after x.program x.output x.output f.spot.stores (agent.Par (once ask (signal_on k)) (agent.Hence (once ask (signal_on k)))) births f.spot.start)) read
      (both_observe x.program x.output f.spot.stores (bound_agent scope (suc hidden) clock) (bound_agent scope (suc hidden + length (binders clock)) body) births f.spot.start (inner.leads.rests r)).0

  module _ (program : IsWellFormed x.program) (same : x.program.declared ≡ x.surface.declared) (within : x.surface.declared ≤ length x.surface.cells) where
    -- NAMES

    new_is : new_of x.program.nodes hidden ≡ f.spot.node
    new_is = new_of-one x.program program f.spot.node hidden (suc f.spot.node) (stands-head f.at.part.place.listed)

    pub asked : slice_get x.program.nodes (new_of x.program.nodes hidden + 3) ≡ Some (nodes.Then ask (suc (suc (suc (suc f.spot.node)))))
    asked =
        ap (λ (k : ℕ). slice_get x.program.nodes k) (let e = new_is in omega arith)
        ∙ stands-head (stands-tail (stands-tail (stands-tail f.at.part.place.listed)))

    local : nat_lt hidden x.program.declared ≡ false
    local = go (nat_lt hidden x.program.declared) refl
      where
        go : (b : Bool) → nat_lt hidden x.program.declared ≡ b → b ≡ false
        go false e = refl
        go true e =
            let lt = ltb-true hidden x.program.declared e in
            let once : Some hidden ≡ Some binder = sym (own_binder x.surface x.symbolic hidden (omega arith)) ∙ bound in
            let is : hidden ≡ binder = cc in
            absurd (omega arith)

    deep : suc (depth_of x.program.nodes (new_of x.program.nodes hidden)) ≡ length births
    deep =
        let e = ap (depth_of x.program.nodes) new_is ∙ depth_of-place x.program.nodes f.spot.node (cells_of f.spot.scope) _ f.at.part.place ∙ length-map f.spot.scope (λ (q : Binding). q.cell) in
        let even = f.at.even in
        omega (arith, length-append f.spot.births (f.spot.start ∷ []))

    -- the hidden cell's own births are the first ones
    pub named : (more : List ℕ) → name_of x.program (births ++ more) hidden ≡ Local (new_of x.program.nodes hidden) births
    named more =
        ap (λ (b : Bool). if b then Declared hidden else local_name x.program.nodes (births ++ more) (new_of x.program.nodes hidden)) local
        ∙ ap (Local (new_of x.program.nodes hidden)) (ap (λ (k : ℕ). take k (births ++ more)) deep ∙ take-append_seam births more)

    pub leaf_named : name_of x.program x.leaf.births hidden ≡ Local (new_of x.program.nodes hidden) births
    leaf_named = ap (λ (b : List ℕ). name_of x.program b hidden) waiting.first ∙ named waiting.more

    own_named : name_of x.program births hidden ≡ Local (new_of x.program.nodes hidden) births
    own_named = ap (λ (b : List ℕ). name_of x.program b hidden) (sym (append-nil births)) ∙ named []

    -- the constraint is read under the births of the form as under those of its hidden signal
    read_alike : (w : StoreMap) → entails x.program f.spot.births w ask ≡ entails x.program births w ask
    read_alike w =
        let same_ask : ask ≡ bound_constraint f.spot.scope y.stop = ask_under binder hidden f.spot.scope y.stop (cells_below (bare x.surface) binder f.locals (omega arith) y.stop f.scoped.tokens) in
        subst (λ (k : Constraint). entails x.program f.spot.births w k ≡ entails x.program births w k) (sym same_ask)
        (entails_alike x.program f.spot.births births w (bound_constraint f.spot.scope y.stop)
        (Each-map (λ (pair : ℕ × Token). (pair.0 < x.surface.declared) ⊎ IsAmong (cells_of f.spot.scope) pair.0) (λ (pair : ℕ × Token). name_of x.program f.spot.births pair.0 ≡ name_of x.program births pair.0)
        (λ pair h. name_same x.program program f.spot.node _ (cells_of f.spot.scope) f.spot.births (f.spot.start ∷ []) f.at.part.over (f.at.even ∙ sym (length-map f.spot.scope (λ (q : Binding). q.cell))) pair.0 (visible pair.0 h))
        (bound_constraint f.spot.scope y.stop)
        (all_known (binders_of x) x.surface.declared f.spot.scope y.stop (in_scope (binders_of x) x.surface.declared (bare x.surface) f.locals (way f.spot.scope f.spot.births []) refl (record { even = f.at.even; reads = f.seen }) y.stop f.scoped.tokens))))
      where
        visible : (k : ℕ) → (k < x.surface.declared) ⊎ IsAmong (cells_of f.spot.scope) k → (k < x.program.declared) ⊎ IsAmong (cells_of f.spot.scope) k
        visible k (inl lt) = inl (omega arith)
        visible k (inr among) = inr among

    -- STOPPED

    -- where a store since the start entails the constraint, the leaf is not run
    pub stopped : (j : ℕ) (w : StoreMap) → slice_get (f.spot.stores ++ x.output ∷ []) j ≡ Some w → IsTrue (entails x.program f.spot.births w ask) → IsFalse (runs x.program x.output x.leaf)
    stopped j w found h =
        not_run x.program x.output x.leaf x.leaf.births (signal_on hidden) waiting.denied (λ r.
        sym (entails_alike x.program births x.leaf.births x.output (signal_on hidden) (own_named ∙ sym leaf_named, tt))
        ∙ stays_on x.program x.output ask (signal_on hidden) births f.spot.stores f.spot.start j w (observed r) found (sym (read_alike w) ∙ h))
