-- The tells of a watching's body wait for the absence of its hidden signal.
use Rattle.std.proofs.Common.{◌≡◌, ℕ, suc, ◌+◌, List, [], ◌∷◌, Some, refl, arith}
use Rattle.std.specs.Prelude.{Option, slice_get, Contains}
use Rattle.std.proofs.lemmas.List.Elements.{Contains-append_left, Contains-push}
use Rattle.agent_core.specs.Agents.{Constraint}
use Rattle.agent_core.specs.Leaves.{Guard, Negative}
use Rattle.agent_core.specs.WellFormed.{IsAmong}
use Rattle.tdcc_reader.specs.Trees.{Tree, Watch}
use Rattle.expansion_laws.specs.SymbolicAgents.{SymbolicAgent, Skip, Tell, Then, Else, Par, New, Hence, Next}
use Rattle.expansion_laws.specs.Numbering.{bound_cell, bound_constraint}
use Rattle.expansion_laws.specs.Table.{signal_on, guarded, watching}
use Rattle.expansion_laws.specs.Expanding.{symbolic_of}
use Rattle.expansion_laws.specs.Origins.{subtree, subtrees}
use Rattle.expansion_laws.proofs.Walks.{Way, way, below, asked, denied, born, cells_of, IsKnown, Reads, reads_more, among_of, IsEven, even_born, reads_first, opens_same, EachTell, Own, watch_added}
use Rattle.expansion_laws.proofs.Stemming.{Has, has_own}
use Rattle.expansion_laws.proofs.Enclosing.{IsBelow, stands}

-- the path waits for the absence of a cell that has this binder and whose new stands around, under all births
pub record IsGuarded (ms : List ℕ) (k : ℕ) (w : Way) : Type 0 where
  pub cell : ℕ
  pub bound : slice_get ms cell ≡ Some k
  pub around : IsAmong (cells_of w.scope) cell
  pub denies : Contains w.path (Negative w.births (signal_on cell))

pub guarded_on : (ms : List ℕ) (k : ℕ) (w : Way) (g : Guard) → IsGuarded ms k w → IsGuarded ms k (below w g)
guarded_on ms k w g h = record { cell = h.cell; bound = h.bound; around = h.around; denies = Contains-append_left w.path (g ∷ []) (Negative w.births (signal_on h.cell)) h.denies }

module _ (ms : List ℕ) (k : ℕ) (R : Option ℕ → Way → Constraint → Type 0) (has : (o : Option ℕ) (w : Way) (c : Constraint) → IsGuarded ms k w → R o w c) where
  among : (w : Way) → Reads ms 0 w.scope k → IsGuarded ms k (denied w (signal_on k))
  among w h = record { cell = bound_cell w.scope k; bound = h.bound; around = among_of (cells_of w.scope) (bound_cell w.scope k) h.known; denies = Contains-push w.path (Negative w.births (bound_constraint w.scope (signal_on k))) }

  -- where a cell with this binder is in scope, each tell of the guarded symbolic agent waits for its absence
  guards_each : (a : SymbolicAgent) (w : Way) → Reads ms 0 w.scope k → EachTell ms R w (guarded k a)
  guards_each (Skip o) w h = tt
  guards_each (Tell o c) w h = has o (denied w (signal_on k)) c (among w h)
  guards_each (Then o c a) w h = guards_each a (asked w c) h
  guards_each (Else o c a) w h = guards_each a (denied w c) h
  guards_each (Par o l r) w h = (guards_each l w h, guards_each r w h)
  guards_each (New o binder a) w h = λ cell t e. guards_each a (born w binder cell t) (reads_more ms 0 w.scope binder cell k e h)
  guards_each (Hence o a) w h = λ v o. guards_each a v (o.wide 0 k h)
  guards_each (Next o a) w h = λ v o. guards_each a v (o.wide 0 k h)

  watch_guards : (c : Constraint) (a : SymbolicAgent) → Own ms R k → (w : Way) → IsEven w → EachTell ms R w (watching k c a)
  watch_guards c a own w even cell t e =
      let under = born w k cell t in
      let first = reads_first ms 0 w.scope k cell k refl e in
      (watch_added ms R under k c own first under (opens_same ms under (even_born w k cell t even)), guards_each a under first)

-- in the symbolic agent of a tree each tell that stems from a form inside this watching is guarded
pub tree_guards : (cells : ℕ) (ms : List ℕ) (tree : Tree) (m : ℕ) (a : Tree) (c : Constraint) → Contains (subtrees 0 tree) (subtree m (Watch a c))
    → EachTell ms (Has cells ms (IsBelow m (Watch a c)) (IsGuarded ms (cells + m))) (way [] [] []) (symbolic_of cells 0 tree)
tree_guards cells ms tree m a c k =
    let In = IsBelow m (Watch a c) in
    let G = IsGuarded ms (cells + m) in
    let at = stands cells ms 0 m (Watch a c) G (guarded_on ms (cells + m)) [] tree 0 k in
    let here = watch_guards ms (cells + m) (Has cells ms In G) (λ o w b h form stems i. h) c (symbolic_of cells (suc m) a) (has_own cells ms In G m (λ i. let behind = i.0 in omega arith)) in
    at.each (λ w v. here w v.even) (way [] [] []) (record { even = refl; reads = none })
  where
    none : (binder : ℕ) → IsKnown 0 [] binder → Reads ms 0 [] binder
    none binder known = absurd (among_of [] binder known)
