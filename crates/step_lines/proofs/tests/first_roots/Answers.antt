use Rattle.std.proofs.Common.{◌≡◌, ℕ, List, [], ◌∷◌, ◌++◌, ap, sym, ◌∙◌, subst}
use Rattle.std.specs.List.Sorted.{IsStrictlySortedBy}
use Rattle.std.proofs.lemmas.List.Elements.{All-cons, All-nil}
use Rattle.agent_core.specs.declared.node.Closure.{Closure}
use Rattle.agent_core.specs.Closures.{closure_cmp}
use Rattle.agent_core.specs.WellFormed.{IsWellFormed}
use Rattle.agent_core.specs.Names.{IsClosure}
use Rattle.agent_core.specs.Programs.{CoreProgram}
use Rattle.agent_core.proofs.Scopes.{root-IsClosure}
use Rattle.agent_laws.specs.Laws.{AreClosures}
use Rattle.step_lines.proofs.tests.first_roots.Goals as goal

-- a list to which one closure was pushed
one : (rs front : List Closure) (x : Closure) → rs ≡ front ++ x ∷ [] → front ≡ [] → rs ≡ x ∷ []
one rs front x e f = e ∙ ap (λ ys. ys ++ x ∷ []) f

one-closure : (p : CoreProgram) → IsWellFormed p → (rs front : List Closure) (b : List ℕ) → rs ≡ front ++ record { node = 0; births = b } ∷ [] → front ≡ [] → b ≡ [] → AreClosures p rs
one-closure p is rs front b e f g =
    subst (AreClosures p) (sym (one rs front (record { node = 0; births = b }) e f))
    (All-cons (λ r. IsClosure p r.node r.births) (record { node = 0; births = b }) [] (subst (IsClosure p 0) (sym g) (root-IsClosure p is)) (All-nil (λ r. IsClosure p r.node r.births)))

one-sorted : (rs front : List Closure) (x : Closure) → rs ≡ front ++ x ∷ [] → front ≡ [] → IsStrictlySortedBy closure_cmp rs
unfolding IsStrictlySortedBy
one-sorted rs front x e f = subst (IsStrictlySortedBy closure_cmp) (sym (one rs front x e f)) (tt, tt)

pub returns-clause-closures : goal.returns-clause-closures
returns-clause-closures c = one-closure c.args.program.now c.requires _ _ _ c.in_ok-push.ensures.items c.new-roots.ensures.items (c.make.ensures ∙ c.new.ensures.items)

pub returns-clause-sorted : goal.returns-clause-sorted
returns-clause-sorted c = one-sorted _ _ _ c.in_ok-push.ensures.items c.new-roots.ensures.items
