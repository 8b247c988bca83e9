-- What is to hold where tells stand that stem from some forms: those that copy one, and those that an expansion adds for the
-- hidden signal of one.
use Rattle.std.proofs.Common.{◌≡◌, ℕ, ◌+◌, List, [], ◌∷◌, Some, None, sym, ap, subst, ◌∙◌, arith, ◌⊎◌, inl, inr}
use Rattle.std.specs.Prelude.{Option, slice_get}
use Rattle.agent_core.specs.Agents.{Constraint}
use Rattle.agent_core.specs.Leaves.{Guard}
use Rattle.expansion_laws.specs.Numbering.{bound_cell, bound_constraint}
use Rattle.expansion_laws.specs.Table.{signal_on}
use Rattle.expansion_laws.proofs.Walks.{Way, below, Own}

-- the first cell of a constraint
first_cell : Constraint → ℕ
first_cell [] = 0
first_cell (pair ∷ ask) = pair.0

module _ (cells : ℕ) (ms : List ℕ) where
  -- a tell with this origin and this constraint copies the form, or it was added for the form's hidden signal
  abbrev pub Stems : Option ℕ → Constraint → ℕ → Type 0
  Stems o ask form = (o ≡ Some form) ⊎ ((o ≡ None) × ((k : ℕ) × (slice_get ms k ≡ Some (cells + form)) × (ask ≡ signal_on k)))

  module _ (In : ℕ → Type 0) (G : Way → Type 0) where
    -- the tell is where it is to be, if it stems from one of these forms
    abbrev pub Has : Option ℕ → Way → Constraint → Type 0
    Has o w c = (form : ℕ) → Stems o (bound_constraint w.scope c) form → In form → G w

    pub has_below : ((w : Way) (g : Guard) → G w → G (below w g)) → (o : Option ℕ) (w : Way) (c : Constraint) (g : Guard) → Has o w c → Has o (below w g) c
    has_below push o w c g h form stems i = push w g (h form stems i)

    -- a copy of another form
    pub has_copy : (n : ℕ) (w : Way) (c : Constraint) → (In n → ⊥) → Has (Some n) w c
    has_copy n w c out form (inl e) i = absurd (let same : n ≡ form = cc in out (subst In (sym same) i))
    has_copy n w c out form (inr added) i = absurd (let e = added.0 in cc)

    -- a tell for another form's hidden signal
    pub has_own : (n : ℕ) → (In n → ⊥) → Own ms Has (cells + n)
    unfolding first_cell
    has_own n out w reads form (inl e) i = absurd (cc)
    has_own n out w reads form (inr added) i =
        let told : bound_cell w.scope (cells + n) ≡ added.1.0 = ap first_cell added.1.2 in
        let bound = added.1.1 in
        let first = reads.bound in
        let second : slice_get ms (bound_cell w.scope (cells + n)) ≡ Some (cells + form) = ap (slice_get ms) told ∙ bound in
        let sum : cells + n ≡ cells + form = cc in
        let same : n ≡ form = omega arith in
        absurd (out (subst In (sym same) i))
