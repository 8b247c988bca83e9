-- Where a walk down a symbolic agent stands that follows a leaf: at a part of the symbolic agent that leads to the leaf.
use Rattle.std.proofs.Common.{◌≡◌, ◌⊎◌, inl, inr, ℕ, suc, ◌+◌, List, [], ◌∷◌, ◌++◌, length, length-append, Some, None, refl, sym, ap, ◌∙◌, subst, arith}
use Rattle.std.specs.Prelude.{Option, slice_get}
use Rattle.token_system.specs.Stores.{StoreMap}
use Rattle.agent_core.specs.Agents.{Constraint, agent_at}
use Rattle.agent_core.specs.Agents as agent
use Rattle.agent_core.specs.Programs.{CoreProgram}
use Rattle.agent_core.specs.Listing as core
use Rattle.agent_core.specs.Leaves.{Guard, Positive, Negative, Leaf}
use Rattle.agent_core.proofs.Standing.{stands-head}
use Rattle.agent_core.proofs.ListingTrees.{listed_tree}
use Rattle.tdcc_reader.specs.Surfaces.{SurfaceProgram}
use Rattle.expansion_laws.specs.SymbolicAgents.{SymbolicAgent, Skip, Tell, Then, Else, Par, New, Hence, Next, binders, origins}
use Rattle.expansion_laws.specs.Numbering.{Binding, binding, bound_agent, bound_constraint}
use Rattle.expansion_laws.specs.Table.{signal_on, always, when}
use Rattle.expansion_laws.specs.Origins.{cell_binders}
use Rattle.expansion_laws.specs.Paths.{StemsFrom}
use Rattle.expansion_laws.proofs.Walks.{Way, way, below, Reads, reads_first, EachTell}
use Rattle.expansion_laws.proofs.Stemming.{Has, has_own}
use Rattle.expansion_laws.proofs.CopiedLeaves.{stems_there}
use Rattle.expansion_laws.proofs.Numbered.{IsNumbered, then_part, else_part, hence_part, next_part, left_part, right_part, new_part}
use Rattle.expansion_laws.proofs.Leading.{Leads, leads_then, leads_else, leads_new, leads_par, leads_hence, leads_next, leads_skip, leads_tell}

-- a leaf that is followed, a tell, in the program of a surface's symbolic agent, after these closed stores and under the output after them
pub record Trail : Type 0 where
  pub surface : SurfaceProgram
  pub symbolic : SymbolicAgent
  pub program : CoreProgram
  pub closed : List StoreMap
  pub output : StoreMap
  pub leaf : Leaf
  pub told : Constraint
  pub tells : leaf.agent ≡ agent.Tell told

-- the news around a part, its first node and its first cell, the births under which it was started, the instant, and the closed
-- stores since
pub record Spot : Type 0 where
  pub scope : List Binding
  pub node : ℕ
  pub cell : ℕ
  pub births : List ℕ
  pub start : ℕ
  pub stores : List StoreMap

-- the spots of the parts: the first one, the right one of a par, the one under a new, and one that is started later
abbrev pub under : Spot → Spot
under q = record q { node = suc q.node }

abbrev pub beside : Spot → SymbolicAgent → Spot
beside q a = record q { node = suc q.node + core.size (bound_agent q.scope q.cell a); cell = q.cell + length (binders a) }

abbrev pub inside : Spot → ℕ → Spot
inside q binder = record q { scope = binding binder q.cell ∷ q.scope; node = suc q.node; cell = suc q.cell; births = q.births ++ q.start ∷ [] }

abbrev pub later : Spot → List StoreMap → ℕ → Spot
later q since t = record q { node = suc q.node; start = t; stores = since }

-- what holds of no tell
abbrev pub Nowhere : Way → Type 0
Nowhere w = ⊥

pub never : (w : Way) (g : Guard) → Nowhere w → Nowhere (below w g)
never w g h = h

abbrev pub binders_of : Trail → List ℕ
binders_of x = cell_binders x.surface x.symbolic

module _ (x : Trail) where
  -- this part of the symbolic agent stands there and leads to the leaf
  pub record At (q : Spot) (e : SymbolicAgent) : Type 0 where
    pub part : IsNumbered x.program (origins x.symbolic) (binders_of x) q.scope q.node q.cell e
    pub leads : Leads x.program x.closed x.output x.leaf q.stores (bound_agent q.scope q.cell e) q.node q.births q.start
    pub even : length q.births ≡ length q.scope

  pub at_then : (q : Spot) (o : Option ℕ) (c : Constraint) (a : SymbolicAgent) → At q (Then o c a) → At (under q) a
  at_then q o c a h = record {
    part = then_part x.program (origins x.symbolic) (binders_of x) q.scope q.node q.cell o c a h.part;
    leads = leads_then x.program x.closed x.output x.leaf q.stores (bound_constraint q.scope c) (bound_agent q.scope q.cell a) q.node q.births q.start h.leads;
    even = h.even;
  }

  pub at_else : (q : Spot) (o : Option ℕ) (c : Constraint) (a : SymbolicAgent) → At q (Else o c a) → At (under q) a
  at_else q o c a h = record {
    part = else_part x.program (origins x.symbolic) (binders_of x) q.scope q.node q.cell o c a h.part;
    leads = leads_else x.program x.closed x.output x.leaf q.stores (bound_constraint q.scope c) (bound_agent q.scope q.cell a) q.node q.births q.start h.leads;
    even = h.even;
  }

  pub at_new : (q : Spot) (o : Option ℕ) (binder : ℕ) (a : SymbolicAgent) → At q (New o binder a) → At (inside q binder) a
  at_new q o binder a h = let even = h.even in record {
    part = new_part x.program (origins x.symbolic) (binders_of x) q.scope q.node q.cell o binder a h.part;
    leads = leads_new x.program x.closed x.output x.leaf q.stores q.cell (bound_agent (binding binder q.cell ∷ q.scope) (suc q.cell) a) q.node q.births q.start h.leads;
    even = omega (arith, length-append q.births (q.start ∷ []));
  }

  pub at_par : (q : Spot) (o : Option ℕ) (a b : SymbolicAgent) → At q (Par o a b) → At (under q) a ⊎ At (beside q a) b
  at_par q o a b h = elim (leads_par x.program x.closed x.output x.leaf q.stores (bound_agent q.scope q.cell a) (bound_agent q.scope (q.cell + length (binders a)) b) q.node q.births q.start h.leads) [
    | inl left ↦ inl (record { part = left_part x.program (origins x.symbolic) (binders_of x) q.scope q.node q.cell o a b h.part; leads = left; even = h.even })
    | inr right ↦ inr (record { part = right_part x.program (origins x.symbolic) (binders_of x) q.scope q.node q.cell o a b h.part; leads = right; even = h.even })
  ]

  pub at_hence : (q : Spot) (o : Option ℕ) (a : SymbolicAgent) → At q (Hence o a) → (since : List StoreMap) × (t : ℕ) × At (later q since t) a
  at_hence q o a h =
      let part = hence_part x.program (origins x.symbolic) (binders_of x) q.scope q.node q.cell o a h.part in
      let tree = listed_tree x.program.nodes (suc q.node) (bound_agent q.scope q.cell a) part.place.listed in
      let (since, t, leads) = leads_hence x.program x.closed x.output x.leaf x.told x.tells q.stores (bound_agent q.scope q.cell a) q.node q.births q.start tree h.leads in
      (since, t, record { part = part; leads = leads; even = h.even })

  pub at_next : (q : Spot) (o : Option ℕ) (a : SymbolicAgent) → At q (Next o a) → (since : List StoreMap) × (t : ℕ) × At (later q since t) a
  at_next q o a h =
      let part = next_part x.program (origins x.symbolic) (binders_of x) q.scope q.node q.cell o a h.part in
      let tree = listed_tree x.program.nodes (suc q.node) (bound_agent q.scope q.cell a) part.place.listed in
      let (since, t, leads) = leads_next x.program x.closed x.output x.leaf x.told x.tells q.stores (bound_agent q.scope q.cell a) q.node q.births q.start tree h.leads in
      (since, t, record { part = part; leads = leads; even = h.even })

  -- the body of an always, now or later
  pub at_always : (q : Spot) (a : SymbolicAgent) → At q (always a) → (r : Spot) × At r a × (r.scope ≡ q.scope)
  at_always q a h = elim (at_par q None a (Hence None a) h) [
    | inl now ↦ (under q, now, refl)
    | inr other ↦ let (since, t, body) = at_hence (beside q a) None a other in (later (beside q a) since t, body, refl)
  ]

  -- the leaf stems from one of these forms
  module _ (In : ℕ → Type 0) (form : ℕ) (stems : StemsFrom x.surface x.symbolic x.leaf form) (is : In form) where
    -- where no tell of a part stems from one of them, the part does not lead to the leaf
    pub not_at : (e : SymbolicAgent) (q : Spot) (path : List Guard) → At q e → EachTell (binders_of x) (Has (length x.surface.cells) (binders_of x) In Nowhere) (way q.scope q.births path) e → ⊥
    not_at (Skip o) q path h each = leads_skip x.program x.closed x.output x.leaf x.told x.tells q.stores q.node q.births q.start h.leads
    not_at (Tell o c) q path h each =
        let (node, tell) = leads_tell x.program x.closed x.output x.leaf q.stores (bound_constraint q.scope c) q.node q.births q.start h.leads in
        let origin : slice_get (origins x.symbolic) x.leaf.node ≡ Some o = ap (λ (k : ℕ). slice_get (origins x.symbolic) k) node ∙ stands-head h.part.from in
        each form (stems_there x.surface x.symbolic x.leaf (bound_constraint q.scope c) form o origin tell stems) is
    not_at (Then o c a) q path h each = not_at a (under q) (path ++ Positive q.births (bound_constraint q.scope c) ∷ []) (at_then q o c a h) each
    not_at (Else o c a) q path h each = not_at a (under q) (path ++ Negative q.births (bound_constraint q.scope c) ∷ []) (at_else q o c a h) each
    not_at (Par o a b) q path h each = go (λ r. not_at a (under q) path r each.0) (λ r. not_at b (beside q a) path r each.1) (at_par q o a b h)
      where
        go : (At (under q) a → ⊥) → (At (beside q a) b → ⊥) → At (under q) a ⊎ At (beside q a) b → ⊥
        go f g (inl r) = f r
        go f g (inr r) = g r
    not_at (New o binder a) q path h each = not_at a (inside q binder) path (at_new q o binder a h) (each q.cell q.start (stands-head h.part.bound))
    not_at (Hence o a) q path h each =
        let r = at_hence q o a h in
        not_at a (later q r.0 r.1) [] r.2 (each (way q.scope q.births []) (record { wide = λ floor binder reads. reads; even = h.even }))
    not_at (Next o a) q path h each =
        let r = at_next q o a h in
        not_at a (later q r.0 r.1) [] r.2 (each (way q.scope q.births []) (record { wide = λ floor binder reads. reads; even = h.even }))

    -- the body of a when that is none of the forms
    pub at_when : (q : Spot) (n : ℕ) (c : Constraint) (a : SymbolicAgent) → (In n → ⊥) → At q (when (length x.surface.cells + n) c a) → (r : Spot) × At r a × (r.scope ≡ binding (length x.surface.cells + n) q.cell ∷ q.scope)
    at_when q n c a out h =
        let d : ℕ = length x.surface.cells + n in
        let inner : SymbolicAgent = Then None c (Par None (Else None (signal_on d) a) (Hence None (Tell None (signal_on d)))) in
        let ever = at_always (inside q d) inner (at_new q None d (always inner) h) in
        let first : Reads (binders_of x) 0 (binding d q.cell ∷ q.scope) d = reads_first (binders_of x) 0 q.scope d q.cell d refl (stands-head h.part.bound) in
        let read : Reads (binders_of x) 0 ever.0.scope d = subst (λ (scope : List Binding). Reads (binders_of x) 0 scope d) (sym ever.2) first in
        elim (at_par (under ever.0) None (Else None (signal_on d) a) (Hence None (Tell None (signal_on d))) (at_then ever.0 None c (Par None (Else None (signal_on d) a) (Hence None (Tell None (signal_on d)))) ever.1)) [
          | inl body ↦ (under (under (under ever.0)), at_else (under (under ever.0)) None (signal_on d) a body, ever.2)
          | inr own ↦ absurd (not_at (Hence None (Tell None (signal_on d))) (beside (under ever.0) (Else None (signal_on d) a)) [] own (λ w o. has_own (length x.surface.cells) (binders_of x) In Nowhere n out w (o.wide 0 d read)))
        ]
