-- The binders of the news of a symbolic agent: those of its tree's local cells, and of the hidden signals of its forms.
use Rattle.std.proofs.Common.{◌≡◌, ℕ, suc, ◌+◌, ◌≤◌, List, [], ◌∷◌, ◌++◌, refl, ap, ◌∙◌, subst, sym, arith, None}
use Rattle.agent_core.specs.Agents.{Constraint}
use Rattle.agent_core.specs.Strata.{Each}
use Rattle.agent_laws.proofs.Eachs.{Each-append, Each-parts}
use Rattle.tdcc_reader.specs.Trees as tree
use Rattle.tdcc_reader.specs.Trees.{Tree, form_count}
use Rattle.surface_laws.specs.Surfaces.{new_cells}
use Rattle.expansion_laws.specs.SymbolicAgents.{SymbolicAgent, Skip, Tell, Then, Else, Par, New, Hence, Next, binders}
use Rattle.expansion_laws.specs.Table.{signal_on, always, when, guarded, clocked}
use Rattle.expansion_laws.specs.Expanding.{symbolic_of}

binders-guarded : (k : ℕ) (a : SymbolicAgent) → binders (guarded k a) ≡ binders a
binders-guarded k (Skip o) = refl
binders-guarded k (Tell o c) = refl
binders-guarded k (Then o c a) = binders-guarded k a
binders-guarded k (Else o c a) = binders-guarded k a
binders-guarded k (Par o a b) = ap (λ (xs : List ℕ). xs ++ binders (guarded k b)) (binders-guarded k a) ∙ ap (λ (xs : List ℕ). binders a ++ xs) (binders-guarded k b)
binders-guarded k (New o binder a) = ap (λ (xs : List ℕ). binder ∷ xs) (binders-guarded k a)
binders-guarded k (Hence o a) = binders-guarded k a
binders-guarded k (Next o a) = binders-guarded k a

module _ (P : ℕ → Type 0) where
  always_binders : (a : SymbolicAgent) → Each P (binders a) → Each P (binders (always a))
  always_binders a h = Each-append P (binders a) (binders a) h h

  when_binders : (d : ℕ) (c : Constraint) (a : SymbolicAgent) → P d → Each P (binders a) → Each P (binders (when d c a))
  when_binders d c a own h = (own, always_binders (Then None c (Par None (Else None (signal_on d) a) (Hence None (Tell None (signal_on d))))) (Each-append P (binders a) [] h tt))

  clocked_binders : (d : ℕ) (c : Constraint) (a : SymbolicAgent) → P d → Each P (binders a) → Each P (binders (clocked d c a))
  clocked_binders d c (Skip o) own h = tt
  clocked_binders d c (Tell o b) own h = tt
  clocked_binders d c (Then o b a) own h = clocked_binders d c a own h
  clocked_binders d c (Else o b a) own h = clocked_binders d c a own h
  clocked_binders d c (Par o a b) own h =
      let parts = Each-parts P (binders a) (binders b) h in
      Each-append P (binders (clocked d c a)) (binders (clocked d c b)) (clocked_binders d c a own parts.0) (clocked_binders d c b own parts.1)
  clocked_binders d c (New o binder a) own h = (h.0, clocked_binders d c a own h.1)
  clocked_binders d c (Next o a) own h = when_binders d c (clocked d c a) own (clocked_binders d c a own h)
  clocked_binders d c (Hence o a) own h = clocked_binders d c a own h

  -- what holds of the local cells of a tree, and of the hidden binders from its number on
  pub symbolic_binders : (cells : ℕ) (t : Tree) (n : ℕ) → ((m : ℕ) → n ≤ m → P (cells + m)) → Each P (new_cells t) → Each P (binders (symbolic_of cells n t))
  symbolic_binders cells tree.Skip n hidden h = tt
  symbolic_binders cells (tree.Tell c) n hidden h = tt
  symbolic_binders cells (tree.Then c a) n hidden h = symbolic_binders cells a (suc n) (λ m le. hidden m (omega arith)) h
  symbolic_binders cells (tree.Else c a) n hidden h = symbolic_binders cells a (suc n) (λ m le. hidden m (omega arith)) h
  symbolic_binders cells (tree.Par l r) n hidden h =
      let parts = Each-parts P (new_cells l) (new_cells r) h in
      Each-append P (binders (symbolic_of cells (suc n) l)) (binders (symbolic_of cells (suc n + form_count l) r))
      (symbolic_binders cells l (suc n) (λ m le. hidden m (omega arith)) parts.0)
      (symbolic_binders cells r (suc n + form_count l) (λ m le. hidden m (omega arith)) parts.1)
  symbolic_binders cells (tree.New cell a) n hidden h = (h.0, symbolic_binders cells a (suc n) (λ m le. hidden m (omega arith)) h.1)
  symbolic_binders cells (tree.Hence a) n hidden h = symbolic_binders cells a (suc n) (λ m le. hidden m (omega arith)) h
  symbolic_binders cells (tree.Next a) n hidden h = symbolic_binders cells a (suc n) (λ m le. hidden m (omega arith)) h
  symbolic_binders cells (tree.Always a) n hidden h = always_binders (symbolic_of cells (suc n) a) (symbolic_binders cells a (suc n) (λ m le. hidden m (omega arith)) h)
  symbolic_binders cells (tree.When c a) n hidden h = when_binders (cells + n) c (symbolic_of cells (suc n) a) (hidden n (omega arith)) (symbolic_binders cells a (suc n) (λ m le. hidden m (omega arith)) h)
  symbolic_binders cells (tree.Watch a c) n hidden h =
      (hidden n (omega arith), subst (Each P) (sym (binders-guarded (cells + n) (symbolic_of cells (suc n) a))) (symbolic_binders cells a (suc n) (λ m le. hidden m (omega arith)) h))
  symbolic_binders cells (tree.Time a c) n hidden h =
      when_binders (cells + n) c (clocked (cells + n) c (symbolic_of cells (suc n) a)) (hidden n (omega arith))
      (clocked_binders (cells + n) c (symbolic_of cells (suc n) a) (hidden n (omega arith)) (symbolic_binders cells a (suc n) (λ m le. hidden m (omega arith)) h))
