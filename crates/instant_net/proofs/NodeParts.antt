-- The part and the constraint of a then or an else.
use Rattle.std.proofs.Common.{◌≡◌, ℕ, List, Some, ap, ◌∙◌, ◌⊎◌, inl, inr}
use Rattle.std.specs.Prelude.{slice_get}
use Rattle.agent_core.specs.declared.node.Node.{Node}
use Rattle.agent_core.specs.declared.node.Node.TheVariants as nodes
use Rattle.agent_core.specs.Agents.{Constraint}
use Rattle.agent_core.specs.Programs.{CoreProgram}
use Rattle.agent_core.specs.WellFormed.{IsWellFormed}
use Rattle.agent_core.specs.Names.{IsClosure}
use Rattle.agent_core.specs.Scope.{ConstraintFits}
use Rattle.agent_core.proofs.RestTests.{IsBodyOf, own_ask_fits, then_body, else_body}

module _ (p : CoreProgram) (is : IsWellFormed p) (n : ℕ) (b : List ℕ) (closure : IsClosure p n b) where
  pub body_of : (d : Node) (c : Constraint) (m : ℕ) → (d ≡ nodes.Then c m) ⊎ (d ≡ nodes.Else c m) → slice_get p.nodes n ≡ Some d → IsBodyOf p is n b closure b m
  body_of d c m (inl e) found = then_body p is n b closure c m (found ∙ ap Some e)
  body_of d c m (inr e) found = else_body p is n b closure c m (found ∙ ap Some e)

  pub body-asked : (d : Node) (c : Constraint) (m : ℕ) → (d ≡ nodes.Then c m) ⊎ (d ≡ nodes.Else c m) → slice_get p.nodes n ≡ Some d → ConstraintFits p b c
  body-asked d c m (inl e) found = own_ask_fits p is n b closure (nodes.Then c m) (found ∙ ap Some e)
  body-asked d c m (inr e) found = own_ask_fits p is n b closure (nodes.Else c m) (found ∙ ap Some e)
