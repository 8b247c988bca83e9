use Rattle.std.proofs.Common.{◌≡◌, ℕ, suc, List, [], ◌∷◌, ◌++◌, Some, sym, ap, ◌∙◌}
use Rattle.std.specs.Prelude.{Result, Ok, Err, IfOk, slice_get}
use Rattle.token_system.specs.declared.cell.Kind.TheVariants.{Signal}
use Rattle.token_system.specs.declared.name.CellName.TheVariants.{Local}
use Rattle.agent_core.specs.declared.node.CellDecl.{CellDecl}
use Rattle.agent_core.specs.declared.node.Node.{Node}
use Rattle.agent_core.specs.declared.node.Node.TheVariants as nodes
use Rattle.agent_core.specs.Agents.{Constraint}
use Rattle.agent_core.specs.Programs.{CoreProgram}
use Rattle.agent_core.specs.Names.{Names, depth_of}
use Rattle.agent_core.proofs.tests.local_at_each_instant.Goals as goal

-- four nodes, pushed one by one to an empty list
four_nodes : (none one two three four : List Node) (a b c d : Node) → none ≡ [] → one ≡ none ++ a ∷ [] → two ≡ one ++ b ∷ [] → three ≡ two ++ c ∷ [] → four ≡ three ++ d ∷ [] → four ≡ a ∷ b ∷ c ∷ d ∷ []
four_nodes none one two three four a b c d e0 e1 e2 e3 e4 =
    e4 ∙ ap (λ (xs : List Node). xs ++ d ∷ []) (e3 ∙ ap (λ (xs : List Node). xs ++ c ∷ []) (e2 ∙ ap (λ (xs : List Node). xs ++ b ∷ []) (e1 ∙ ap (λ (xs : List Node). xs ++ a ∷ []) e0)))

-- the new node below the hence has the local cell
local_below : {E : Type 0} (r : Result CoreProgram E) (all : List Node) (ask : Constraint) → IfOk r (λ p. (d : CellDecl) × (slice_get p.cells 0 ≡ Some d) × (d.cell.kind ≡ Signal)) → IfOk r (λ p. p.nodes ≡ all)
    → all ≡ nodes.Hence 1 ∷ nodes.New 0 2 ∷ nodes.Next 3 ∷ nodes.Tell ask ∷ []
    → IfOk r (λ p. (birth : ℕ) → (d : CellDecl) × Names p (Local 1 (birth ∷ [])) d × (slice_get p.cells 0 ≡ Some d) × (d.cell.kind ≡ Signal))
local_below (Ok p) all ask signal n e =
    λ birth. (
      signal.0,
      (0, 2, ap (λ (xs : List Node). slice_get xs 1) (n ∙ e), signal.1, ap (λ (xs : List Node). suc (depth_of xs 1)) (sym (n ∙ e))),
      signal.1,
      signal.2,
    )
local_below (Err x) all ask signal n e = tt

pub returns-clause-signal : goal.returns-clause-signal
returns-clause-signal c =
    local_below c.over_one_signal.result _ _ c.over_one_signal.ensures.signal c.over_one_signal.ensures.nodes
    (four_nodes _ _ _ _ _ _ _ _ _ c.new-nodes.ensures.items c.in_ok-push.ensures.items c.in_ok-push-2.ensures.items c.in_ok-push-3.ensures.items c.in_ok-push-4.ensures.items)
