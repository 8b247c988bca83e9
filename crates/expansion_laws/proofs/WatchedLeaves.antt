-- The tell leaves below the guarded body of a watching wait for the absence of its own hidden signal.
use Rattle.std.proofs.Common.{◌≡◌, ◌⊎◌, inl, inr, ℕ, suc, Bool, List, [], ◌∷◌, ◌++◌, sym, ap, ◌∙◌, subst, append_assoc}
use Rattle.std.specs.Prelude.{Contains, if◌then◌else◌}
use Rattle.std.proofs.lemmas.Bool.{ne_eqb}
use Rattle.std.proofs.lemmas.List.{append-nil}
use Rattle.agent_core.specs.Programs.{CoreProgram}
use Rattle.agent_core.specs.WellFormed.{IsAmong}
use Rattle.agent_core.specs.Leaves.{Leaf, Negative}
use Rattle.agent_core.specs.Strata.{Each}
use Rattle.agent_laws.proofs.Eachs.{Each-parts}
use Rattle.expansion_laws.specs.SymbolicAgents.{SymbolicAgent, Skip, Tell, Then, Else, Par, New, Hence, Next, binders}
use Rattle.expansion_laws.specs.Numbering.{Binding, bound_cell, bound_constraint}
use Rattle.expansion_laws.specs.Table.{signal_on, guarded}
use Rattle.expansion_laws.specs.Origins.{IsAround}
use Rattle.expansion_laws.proofs.Walks.{cells_of}
use Rattle.expansion_laws.proofs.Numbered.{AreOver}
use Rattle.expansion_laws.proofs.CopiedLeaves.{around_one}
use Rattle.expansion_laws.proofs.Leading.{leads_skip, leads_tell, leads_denied}
use Rattle.expansion_laws.proofs.Spots.{Trail, Spot, under, inside, beside, later, At, at_then, at_else, at_par, at_new, at_hence, at_next}

-- the leaf waits for the absence of this cell, whose new stands around the leaf, and has these births first
pub record Waits (p : CoreProgram) (l : Leaf) (cell : ℕ) (births : List ℕ) : Type 0 where
  pub denied : Contains l.path (Negative l.births (signal_on cell))
  pub around : IsAround p cell l.node
  pub more : List ℕ
  pub first : l.births ≡ births ++ more

module _ (x : Trail) (binder cell : ℕ) (births : List ℕ) where
  -- in this scope the binder is read as the cell, and these births begin with those of the cell
  record Under (scope : List Binding) (own : List ℕ) : Type 0 where
    read : bound_cell scope binder ≡ cell
    among : IsAmong (cells_of scope) cell
    more : List ℕ
    first : own ≡ births ++ more

  abbrev IsUnder : Spot → Type 0
  IsUnder q = Under q.scope q.births

  under_new : (q : Spot) (other : ℕ) → (other ≡ binder → ⊥) → IsUnder q → IsUnder (inside q other)
  under_new q other differ u = record {
    read = ap (λ (b : Bool). if b then q.cell else bound_cell q.scope binder) (ne_eqb other binder differ) ∙ u.read;
    among = inr u.among;
    more = u.more ++ q.start ∷ [];
    first = ap (λ (b : List ℕ). b ++ q.start ∷ []) u.first ∙ append_assoc births u.more (q.start ∷ []);
  }

  waits_below : (a : SymbolicAgent) (q : Spot) → At x q (guarded binder a) → IsUnder q → Each (λ (m : ℕ). m ≡ binder → ⊥) (binders a) → Waits x.program x.leaf cell births
  waits_below (Skip o) q h u others = absurd (leads_skip x.program x.closed x.output x.leaf x.told x.tells q.stores q.node q.births q.start h.leads)
  waits_below (Tell o c) q h u others =
      let body = at_else x q _ (signal_on binder) (Tell o c) h in
      let (same, denied) = leads_denied x.program x.closed x.output x.leaf q.stores (bound_constraint q.scope (signal_on binder)) (bound_constraint q.scope c) q.node q.births q.start h.leads in
      let (node, tell) = leads_tell x.program x.closed x.output x.leaf q.stores (bound_constraint q.scope c) (suc q.node) q.births q.start body.leads in
      record {
        denied = subst (λ (b : List ℕ). Contains x.leaf.path (Negative b (signal_on cell))) (sym same) (subst (λ (c : ℕ). Contains x.leaf.path (Negative q.births (signal_on c))) u.read denied);
        around = around_one x.program x.leaf.node (cells_of q.scope) cell (subst (λ (n : ℕ). AreOver x.program n 1 (cells_of q.scope)) (sym node) body.part.over) u.among;
        more = u.more;
        first = same ∙ u.first;
      }
  waits_below (Then o c a) q h u others = waits_below a (under q) (at_then x q o c (guarded binder a) h) u others
  waits_below (Else o c a) q h u others = waits_below a (under q) (at_else x q o c (guarded binder a) h) u others
  waits_below (New o other a) q h u others = waits_below a (inside q other) (at_new x q o other (guarded binder a) h) (under_new q other others.0 u) others.1
  waits_below (Hence o a) q h u others =
      let (since, t, body) = at_hence x q o (guarded binder a) h in
      waits_below a (later q since t) body u others
  waits_below (Next o a) q h u others =
      let (since, t, body) = at_next x q o (guarded binder a) h in
      waits_below a (later q since t) body u others
  waits_below (Par o a b) q h u others =
      let parts = Each-parts (λ (m : ℕ). m ≡ binder → ⊥) (binders a) (binders b) others in
      go (λ s at deep. waits_below a s at deep parts.0) (λ s at deep. waits_below b s at deep parts.1) (at_par x q o (guarded binder a) (guarded binder b) h)
    where
      go : ((s : Spot) → At x s (guarded binder a) → IsUnder s → Waits x.program x.leaf cell births) → ((s : Spot) → At x s (guarded binder b) → IsUnder s → Waits x.program x.leaf cell births)
          → At x (under q) (guarded binder a) ⊎ At x (beside q (guarded binder a)) (guarded binder b) → Waits x.program x.leaf cell births
      go f g (inl at) = f (under q) at u
      go f g (inr at) = g (beside q (guarded binder a)) at u

  -- below the new of the binder itself, where no new inside has the binder
  pub waits : (a : SymbolicAgent) (q : Spot) → At x q (guarded binder a) → bound_cell q.scope binder ≡ cell → IsAmong (cells_of q.scope) cell → q.births ≡ births → Each (λ (m : ℕ). m ≡ binder → ⊥) (binders a) → Waits x.program x.leaf cell births
  waits a q h read among same others = waits_below a q h (record { read = read; among = among; more = []; first = same ∙ sym (append-nil births) }) others
