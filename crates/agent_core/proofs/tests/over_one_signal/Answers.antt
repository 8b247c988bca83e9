use Rattle.std.proofs.Common.{◌≡◌, ℕ, List, [], ◌∷◌, ◌++◌, Some, refl, ap, ◌∙◌}
use Rattle.std.specs.Prelude.{slice_get}
use Rattle.token_system.specs.declared.cell.Kind.TheVariants.{Signal}
use Rattle.agent_core.specs.declared.node.CellDecl.{CellDecl}
use Rattle.agent_core.specs.declared.node.Node.{Node}
use Rattle.agent_core.specs.Programs.{CoreProgram}
use Rattle.agent_core.proofs.tests.over_one_signal.Goals as goal

-- a program whose one cell was pushed to an empty list
one_cell : (p : CoreProgram) (cells front : List CellDecl) (n : ℕ) (nodes : List Node) (d : CellDecl) → p ≡ record { cells = cells; declared = n; nodes = nodes } → cells ≡ front ++ d ∷ [] → front ≡ [] → d.cell.kind ≡ Signal
    → (x : CellDecl) × (slice_get p.cells 0 ≡ Some x) × (x.cell.kind ≡ Signal)
one_cell p cells front n nodes d e f g k =
    (d, ap (λ (q : CoreProgram). slice_get q.cells 0) e ∙ ap (λ (xs : List CellDecl). slice_get xs 0) (f ∙ ap (λ (xs : List CellDecl). xs ++ d ∷ []) g), k)

pub returns-in-Some-clause-signal : goal.returns-in-Some-clause-signal
returns-in-Some-clause-signal c = one_cell _ _ _ _ _ _ c.in-Some.ensures.same c.in_ok-push.ensures.items c.new-cells.ensures.items refl
