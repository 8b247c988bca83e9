-- Walks down a symbolic agent, and what holds of each tell that they come to, at whatever instants they begin. It is kept by the
-- expansions of the forms around.
use Rattle.std.proofs.Common.{◌≡◌, ℕ, ◌<◌, Bool, true, false, List, [], ◌∷◌, ◌++◌, map, length, Some, None, refl, sym, ap, ◌∙◌, arith, length-append, ◌⊎◌, inl, inr}
use Rattle.std.specs.Prelude.{Option, slice_get, nat_eq, if◌then◌else◌}
use Rattle.std.proofs.lemmas.Bool.{eqb-true, eq-eqb}
use Rattle.token_system.specs.declared.cell.Token.{Token}
use Rattle.agent_core.specs.Agents.{Constraint}
use Rattle.agent_core.specs.Leaves.{Guard, Positive, Negative}
use Rattle.agent_core.specs.WellFormed.{IsAmong}
use Rattle.agent_core.specs.Strata.{Each}
use Rattle.expansion_laws.specs.SymbolicAgents.{SymbolicAgent, Skip, Tell, Then, Else, Par, New, Hence, Next}
use Rattle.expansion_laws.specs.Numbering.{Binding, binding, bound_cell, bound_constraint}
use Rattle.expansion_laws.specs.Table.{signal_on, always, when, guarded, watching, clocked, timed}

-- WAYS

-- how far a walk has come: the cells of the news around, the newest first; their births; and the guards since the instant began
pub record Way : Type 0 where
  pub scope : List Binding
  pub births : List ℕ
  pub path : List Guard

abbrev pub way : List Binding → List ℕ → List Guard → Way
way scope births path = record { scope = scope; births = births; path = path }

-- below one more guard
abbrev pub below : Way → Guard → Way
below w g = way w.scope w.births (w.path ++ g ∷ [])

abbrev pub asked : Way → Constraint → Way
asked w c = below w (Positive w.births (bound_constraint w.scope c))

abbrev pub denied : Way → Constraint → Way
denied w c = below w (Negative w.births (bound_constraint w.scope c))

-- below a new whose cell has this binder and this number, and that was started at t
abbrev pub born : Way → ℕ → ℕ → ℕ → Way
born w binder cell t = way (binding binder cell ∷ w.scope) (w.births ++ t ∷ []) w.path

abbrev pub cells_of : List Binding → List ℕ
cells_of scope = map (λ (q : Binding). q.cell) scope

-- SCOPES

-- the cell is below the floor, or one of these
abbrev pub IsKnown : ℕ → List ℕ → ℕ → Type 0
IsKnown floor cells cell = (cell < floor) ⊎ IsAmong cells cell

-- each cell of the constraint is
abbrev pub AreKnown : ℕ → List ℕ → Constraint → Type 0
AreKnown floor cells ask = Each (λ (pair : ℕ × Token). IsKnown floor cells pair.0) ask

-- in this scope the binder stands for a cell that has it, and that is below the floor or has its new around
pub record Reads (ms : List ℕ) (floor : ℕ) (scope : List Binding) (binder : ℕ) : Type 0 where
  pub bound : slice_get ms (bound_cell scope binder) ≡ Some binder
  pub known : IsKnown floor (cells_of scope) (bound_cell scope binder)

module _ (ms : List ℕ) (floor : ℕ) (scope : List Binding) (new cell binder : ℕ) (e : slice_get ms cell ≡ Some new) where
  abbrev chosen : Bool → ℕ
  chosen b = if b then cell else bound_cell scope binder

  abbrev IsRead : Bool → Type 0
  IsRead b = (slice_get ms (chosen b) ≡ Some binder) × IsKnown floor (cell ∷ cells_of scope) (chosen b)

  -- one more new around takes no binder away
  pub reads_more : Reads ms floor scope binder → Reads ms floor (binding new cell ∷ scope) binder
  reads_more h = let r = go (nat_eq new binder) refl in record { bound = r.0; known = r.1 }
    where
      further : (c : ℕ) → IsKnown floor (cells_of scope) c → IsKnown floor (cell ∷ cells_of scope) c
      further c (inl lt) = inl lt
      further c (inr among) = inr (inr among)

      go : (b : Bool) → nat_eq new binder ≡ b → IsRead b
      go true same = (e ∙ ap Some (eqb-true new binder same), inr (inl refl))
      go false other = (h.bound, further (bound_cell scope binder) h.known)

-- the newest one is read
pub reads_first : (ms : List ℕ) (floor : ℕ) (scope : List Binding) (new cell binder : ℕ) → binder ≡ new → slice_get ms cell ≡ Some new → Reads ms floor (binding new cell ∷ scope) binder
reads_first ms floor scope new cell binder same e = record {
  bound = ap (λ (b : Bool). slice_get ms (if b then cell else bound_cell scope binder)) found ∙ e ∙ ap Some (sym same);
  known = inr (inl (ap (λ (b : Bool). if b then cell else bound_cell scope binder) found));
}
  where
    found : nat_eq new binder ≡ true
    found = eq-eqb new binder (sym same)

-- no cell is below the floor 0
pub among_of : (cells : List ℕ) (cell : ℕ) → IsKnown 0 cells cell → IsAmong cells cell
among_of cells cell (inl lt) = absurd (omega arith)
among_of cells cell (inr among) = among

-- INSTANTS

-- an instant may begin so, below a hence or a next to which the other way led: what was in scope there still is
pub record Opens (ms : List ℕ) (w v : Way) : Type 0 where
  pub wide : (floor binder : ℕ) → Reads ms floor w.scope binder → Reads ms floor v.scope binder
  pub even : length v.births ≡ length v.scope

abbrev pub IsEven : Way → Type 0
IsEven w = length w.births ≡ length w.scope

pub even_born : (w : Way) (binder cell t : ℕ) → IsEven w → IsEven (born w binder cell t)
even_born w binder cell t even = omega (arith, length-append w.births (t ∷ []))

module _ (ms : List ℕ) where
  pub opens_same : (w : Way) → IsEven w → Opens ms w w
  opens_same w even = record { wide = λ floor binder h. h; even = even }

  pub opens_path : (w v : Way) (path : List Guard) → Opens ms w v → Opens ms w (way v.scope v.births path)
  opens_path w v path o = record { wide = o.wide; even = o.even }

  pub opens_born : (w v : Way) (binder cell t : ℕ) → slice_get ms cell ≡ Some binder → Opens ms w v → Opens ms w (born v binder cell t)
  opens_born w v new cell t e o = record {
    wide = λ floor binder h. reads_more ms floor v.scope new cell binder e (o.wide floor binder h);
    even = even_born v new cell t o.even;
  }

  pub opens_on : (w v u : Way) → Opens ms w v → Opens ms v u → Opens ms w u
  opens_on w v u o q = record { wide = λ floor binder h. q.wide floor binder (o.wide floor binder h); even = q.even }

-- TELLS

module _ (ms : List ℕ) (R : Option ℕ → Way → Constraint → Type 0) where
  -- R holds of each tell under this way, by its origin, the way to it and its constraint
  abbrev pub EachTell : Way → SymbolicAgent → Type 0
  EachTell w (Skip o) = Unit {0}
  EachTell w (Tell o c) = R o w c
  EachTell w (Then o c a) = EachTell (asked w c) a
  EachTell w (Else o c a) = EachTell (denied w c) a
  EachTell w (Par o l r) = EachTell w l × EachTell w r
  EachTell w (New o binder a) = (cell t : ℕ) → slice_get ms cell ≡ Some binder → EachTell (born w binder cell t) a
  EachTell w (Hence o a) = (v : Way) → Opens ms w v → EachTell v a
  EachTell w (Next o a) = (v : Way) → Opens ms w v → EachTell v a

  -- the same at whatever instant it begins
  abbrev pub Ever : Way → SymbolicAgent → Type 0
  Ever w a = (v : Way) → Opens ms w v → EachTell v a

  -- R holds of the tells that the expansion of a form adds for its hidden signal
  abbrev pub Own : ℕ → Type 0
  Own d = (w : Way) → Reads ms 0 w.scope d → R None w (signal_on d)

  pub always_kept : (w : Way) (a : SymbolicAgent) → Ever w a → Ever w (always a)
  always_kept w a h v o = (h v o, λ u q. h u (opens_on ms w v u o q))

  pub when_kept : (w : Way) (d : ℕ) (c : Constraint) (a : SymbolicAgent) → Own d → Ever w a → Ever w (when d c a)
  when_kept w d c a own h v o cell t e = always_kept under inner ever under (opens_same ms under (even_born v d cell t o.even))
    where
      under : Way
      under = born v d cell t

      inner : SymbolicAgent
      inner = Then None c (Par None (Else None (signal_on d) a) (Hence None (Tell None (signal_on d))))

      ever : Ever under inner
      ever u q =
          let deeper = denied (asked u c) (signal_on d) in
          let first = reads_first ms 0 v.scope d cell d refl e in (
            h deeper (opens_path ms w u deeper.path (opens_on ms w under u (opens_born ms w v d cell t e o) q)),
            λ x r. own x (r.wide 0 d (q.wide 0 d first)),
          )

  -- the tells of a watching's own
  pub watch_added : (w : Way) (k : ℕ) (c : Constraint) → Own k → Reads ms 0 w.scope k → Ever w (always (Then None c (Par None (Tell None (signal_on k)) (Hence None (Tell None (signal_on k))))))
  watch_added w k c own first = always_kept w inner (λ v o. (own (asked v c) (o.wide 0 k first), λ u q. own u (q.wide 0 k (o.wide 0 k first))))
    where
      inner : SymbolicAgent
      inner = Then None c (Par None (Tell None (signal_on k)) (Hence None (Tell None (signal_on k))))

  pub clocked_kept : (d : ℕ) (c : Constraint) → Own d → (w : Way) (a : SymbolicAgent) → EachTell w a → EachTell w (clocked d c a)
  clocked_kept d c own w (Skip o) h = tt
  clocked_kept d c own w (Tell o b) h = h
  clocked_kept d c own w (Then o b a) h = clocked_kept d c own (asked w b) a h
  clocked_kept d c own w (Else o b a) h = clocked_kept d c own (denied w b) a h
  clocked_kept d c own w (Par o l r) h = (clocked_kept d c own w l h.0, clocked_kept d c own w r h.1)
  clocked_kept d c own w (New o binder a) h = λ cell t e. clocked_kept d c own (born w binder cell t) a (h cell t e)
  clocked_kept d c own w (Hence o a) h = λ v q. clocked_kept d c own (asked v c) a (h (asked v c) (opens_path ms w v (asked v c).path q))
  clocked_kept d c own w (Next o a) h = when_kept w d c (clocked d c a) own (λ v q. clocked_kept d c own v a (h v q))

  pub timed_kept : (w : Way) (d : ℕ) (c : Constraint) (a : SymbolicAgent) → Own d → Ever w a → Ever w (timed d c a)
  timed_kept w d c a own h = when_kept w d c (clocked d c a) own (λ v o. clocked_kept d c own v a (h v o))

  -- where R holds below one more guard
  module _ (push : (o : Option ℕ) (w : Way) (c : Constraint) (g : Guard) → R o w c → R o (below w g) c) where
    pub guarded_kept : (k : ℕ) (w : Way) (a : SymbolicAgent) → EachTell w a → EachTell w (guarded k a)
    guarded_kept k w (Skip o) h = tt
    guarded_kept k w (Tell o c) h = push o w c (Negative w.births (bound_constraint w.scope (signal_on k))) h
    guarded_kept k w (Then o c a) h = guarded_kept k (asked w c) a h
    guarded_kept k w (Else o c a) h = guarded_kept k (denied w c) a h
    guarded_kept k w (Par o l r) h = (guarded_kept k w l h.0, guarded_kept k w r h.1)
    guarded_kept k w (New o binder a) h = λ cell t e. guarded_kept k (born w binder cell t) a (h cell t e)
    guarded_kept k w (Hence o a) h = λ v o. guarded_kept k v a (h v o)
    guarded_kept k w (Next o a) h = λ v o. guarded_kept k v a (h v o)

    pub watching_kept : (w : Way) (k : ℕ) (c : Constraint) (a : SymbolicAgent) → Own k → Ever w a → Ever w (watching k c a)
    watching_kept w k c a own h v o cell t e =
        let under = born v k cell t in (
          watch_added under k c own (reads_first ms 0 v.scope k cell k refl e) under (opens_same ms under (even_born v k cell t o.even)),
          guarded_kept k under a (h under (opens_born ms w v k cell t e o)),
        )
