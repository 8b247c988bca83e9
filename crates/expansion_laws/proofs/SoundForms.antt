-- The symbolic agent of a surface is sound.
use Rattle.std.proofs.Common.{◌⊎◌, inl, inr, ℕ, suc, ◌+◌, ◌<◌, ◌≤◌, List, [], ◌∷◌, length, Option, None, refl, sym, subst, arith}
use Rattle.std.specs.Prelude.{unwrap_or}
use Rattle.token_system.specs.Tokens.{Fits}
use Rattle.token_system.specs.declared.cell.Token.{Token}
use Rattle.agent_core.specs.declared.node.CellDecl.{CellDecl}
use Rattle.agent_core.specs.Agents.{Constraint}
use Rattle.agent_core.specs.WellFormed.{IsAmong, IsInScope, AreInScope, IsConstraint}
use Rattle.agent_core.specs.Strata.{Each}
use Rattle.tdcc_reader.specs.Surfaces.{SurfaceProgram}
use Rattle.tdcc_reader.specs.Trees.{Tree, form_count}
use Rattle.tdcc_reader.specs.Trees as tree
use Rattle.surface_laws.specs.Surfaces.{bare, IsScopedTree, IsFreshName, AreFreshInTree}
use Rattle.expansion_laws.specs.SymbolicAgents.{SymbolicAgent, Skip, Tell, Then, Else, Par, New, Hence, Next}
use Rattle.expansion_laws.specs.Table.{signal_on, when, guarded, watching, clocked}
use Rattle.expansion_laws.specs.Numbering.{hidden}
use Rattle.expansion_laws.specs.Expanding.{symbolic_of}
use Rattle.expansion_laws.proofs.Sound.{Means, IsMeant, IsNew, Sound, AreIn, in_more, Widens, widens_hidden, widens_under, meant_in, sound_wider, on_meant, hidden_new}

-- EACH DERIVED FORM

module _ (cells : List CellDecl) (declared : ℕ) where
  abbrev Is : List ℕ → SymbolicAgent → Type 0
  Is = Sound cells declared

  -- the constraint of a form stands for the same under a new in the form's body
  under : (binder : ℕ) (xs : List ℕ) (c : Constraint) → IsMeant cells declared xs c → IsMeant cells declared (binder ∷ xs) c
  under binder xs c h = meant_in cells declared xs (binder ∷ xs) c (in_more binder xs) h

  own : (d : ℕ) (xs : List ℕ) → length cells ≤ d → IsMeant cells declared (d ∷ xs) (signal_on d)
  own d xs past = on_meant cells declared d (d ∷ xs) past (inl refl)

  when_sound : (d : ℕ) (c : Constraint) (xs : List ℕ) (a : SymbolicAgent) → length cells ≤ d → IsMeant cells declared xs c → Is xs a → Is xs (when d c a)
  when_sound d c xs a past clock h =
      let inside : Is (d ∷ xs) a = sound_wider cells declared xs (d ∷ xs) a (widens_hidden cells declared d xs past) h in
      let started : Is (d ∷ xs) (Then None c (Par None (Else None (signal_on d) a) (Hence None (Tell None (signal_on d))))) = (under d xs c clock, ((own d xs past, inside), own d xs past)) in
      (hidden_new cells declared d xs past, (started, started))

  guarded_sound : (k : ℕ) (xs : List ℕ) (a : SymbolicAgent) → IsMeant cells declared xs (signal_on k) → Is xs a → Is xs (guarded k a)
  guarded_sound k xs (Skip o) guard h = tt
  guarded_sound k xs (Tell o b) guard h = (guard, h)
  guarded_sound k xs (Then o b a) guard h = (h.0, guarded_sound k xs a guard h.1)
  guarded_sound k xs (Else o b a) guard h = (h.0, guarded_sound k xs a guard h.1)
  guarded_sound k xs (Par o a b) guard h = (guarded_sound k xs a guard h.0, guarded_sound k xs b guard h.1)
  guarded_sound k xs (New o binder a) guard h = (h.0, guarded_sound k (binder ∷ xs) a (under binder xs (signal_on k) guard) h.1)
  guarded_sound k xs (Hence o a) guard h = guarded_sound k xs a guard h
  guarded_sound k xs (Next o a) guard h = guarded_sound k xs a guard h

  watching_sound : (k : ℕ) (c : Constraint) (xs : List ℕ) (a : SymbolicAgent) → length cells ≤ k → IsMeant cells declared xs c → Is xs a → Is xs (watching k c a)
  watching_sound k c xs a past stop h =
      let inside : Is (k ∷ xs) a = sound_wider cells declared xs (k ∷ xs) a (widens_hidden cells declared k xs past) h in
      let stopped : Is (k ∷ xs) (Then None c (Par None (Tell None (signal_on k)) (Hence None (Tell None (signal_on k))))) = (under k xs c stop, (own k xs past, own k xs past)) in
      (hidden_new cells declared k xs past, ((stopped, stopped), guarded_sound k (k ∷ xs) a (own k xs past) inside))

  clocked_sound : (d : ℕ) (c : Constraint) (xs : List ℕ) (a : SymbolicAgent) → length cells ≤ d → IsMeant cells declared xs c → Is xs a → Is xs (clocked d c a)
  clocked_sound d c xs (Skip o) past clock h = tt
  clocked_sound d c xs (Tell o b) past clock h = h
  clocked_sound d c xs (Then o b a) past clock h = (h.0, clocked_sound d c xs a past clock h.1)
  clocked_sound d c xs (Else o b a) past clock h = (h.0, clocked_sound d c xs a past clock h.1)
  clocked_sound d c xs (Par o a b) past clock h = (clocked_sound d c xs a past clock h.0, clocked_sound d c xs b past clock h.1)
  clocked_sound d c xs (New o binder a) past clock h = (h.0, clocked_sound d c (binder ∷ xs) a past (under binder xs c clock) h.1)
  clocked_sound d c xs (Next o a) past clock h = when_sound d c xs (clocked d c a) past clock (clocked_sound d c xs a past clock h)
  clocked_sound d c xs (Hence o a) past clock h = (clock, clocked_sound d c xs a past clock h)

-- EACH TREE

module _ (s : SurfaceProgram) where
  -- a constraint of the surface, where these binders stand for its local cells
  constraint_meant : (locals around : List ℕ) (c : Constraint) → AreIn locals around → IsConstraint (bare s) locals c → IsMeant s.cells s.declared around c
  constraint_meant locals around c are h = record { some = h.some; few = h.few; tokens = tokens c h.tokens }
    where
      seen : (m : ℕ) → (m < s.declared) ⊎ IsAmong locals m → (m < s.declared) ⊎ IsAmong around m
      seen m (inl lt) = inl lt
      seen m (inr among) = inr (are m among)

      meant : (pair : ℕ × Token) → IsInScope (bare s) locals pair → Means s.cells s.declared around pair
      meant pair is = record {
        visible = seen pair.0 is.visible;
        fits = subst (λ (o : Option CellDecl). Fits (unwrap_or o (hidden 0)).cell pair.1) (sym is.found) is.fits;
      }

      tokens : (b : Constraint) → AreInScope (bare s) locals b → Each (Means s.cells s.declared around) b
      tokens [] are = tt
      tokens (pair ∷ b) are = (meant pair are.0, tokens b are.1)

  cell_new : (locals around : List ℕ) (cell : ℕ) → Widens s.cells locals around → IsFreshName (bare s) locals cell → IsNew s.cells s.declared around cell
  cell_new locals around cell w fresh within c lt visible same = fresh c (seen visible) same
    where
      local : IsAmong locals c ⊎ (length s.cells ≤ c) → (c < s.declared) ⊎ IsAmong locals c
      local (inl h) = inr h
      local (inr past) = absurd (omega arith)

      seen : (c < s.declared) ⊎ IsAmong around c → (c < s.declared) ⊎ IsAmong locals c
      seen (inl h) = inl h
      seen (inr h) = local (w.adds c h)

  past : (m : ℕ) → length s.cells ≤ length s.cells + m
  past m = omega arith

  -- The symbolic agent of a tree in scope is sound.
  pub symbolic_sound : (t : Tree) (m : ℕ) (locals around : List ℕ) → Widens s.cells locals around → IsScopedTree (bare s) locals t → AreFreshInTree (bare s) locals t
      → Sound s.cells s.declared around (symbolic_of (length s.cells) m t)
  symbolic_sound tree.Skip m locals around w scoped fresh = tt
  symbolic_sound (tree.Tell c) m locals around w scoped fresh = constraint_meant locals around c w.keeps scoped
  symbolic_sound (tree.Then c a) m locals around w scoped fresh = (constraint_meant locals around c w.keeps scoped.0, symbolic_sound a (suc m) locals around w scoped.1 fresh)
  symbolic_sound (tree.Else c a) m locals around w scoped fresh = (constraint_meant locals around c w.keeps scoped.0, symbolic_sound a (suc m) locals around w scoped.1 fresh)
  symbolic_sound (tree.Par l r) m locals around w scoped fresh = (symbolic_sound l (suc m) locals around w scoped.0 fresh.0, symbolic_sound r (suc m + form_count l) locals around w scoped.1 fresh.1)
  symbolic_sound (tree.New cell a) m locals around w scoped fresh = (
    cell_new locals around cell w fresh.0,
    symbolic_sound a (suc m) (cell ∷ locals) (cell ∷ around) (widens_under s.cells s.declared cell locals around w) scoped fresh.1,
  )
  symbolic_sound (tree.Hence a) m locals around w scoped fresh = symbolic_sound a (suc m) locals around w scoped fresh
  symbolic_sound (tree.Next a) m locals around w scoped fresh = symbolic_sound a (suc m) locals around w scoped fresh
  symbolic_sound (tree.Always a) m locals around w scoped fresh = let body = symbolic_sound a (suc m) locals around w scoped fresh in (body, body)
  symbolic_sound (tree.When c a) m locals around w scoped fresh =
      when_sound s.cells s.declared (length s.cells + m) c around (symbolic_of (length s.cells) (suc m) a) (past m) (constraint_meant locals around c w.keeps scoped.0) (symbolic_sound a (suc m) locals around w scoped.1 fresh)
  symbolic_sound (tree.Watch a c) m locals around w scoped fresh =
      watching_sound s.cells s.declared (length s.cells + m) c around (symbolic_of (length s.cells) (suc m) a) (past m) (constraint_meant locals around c w.keeps scoped.1) (symbolic_sound a (suc m) locals around w scoped.0 fresh)
  symbolic_sound (tree.Time a c) m locals around w scoped fresh =
      let clock = constraint_meant locals around c w.keeps scoped.1 in
      let d : ℕ = length s.cells + m in
      let body : SymbolicAgent = symbolic_of (length s.cells) (suc m) a in
      when_sound s.cells s.declared d c around (clocked d c body) (past m) clock (clocked_sound s.cells s.declared d c around body (past m) clock (symbolic_sound a (suc m) locals around w scoped.0 fresh))
