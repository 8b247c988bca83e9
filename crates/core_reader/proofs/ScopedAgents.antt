-- The constraints of an agent are in scope where those of its tree are.
use Rattle.std.proofs.Common.{◌≡◌, ◌⊎◌, ℕ, ◌<◌, List, [], ◌∷◌, ap, sym, ◌∙◌, subst}
use Rattle.std.specs.Prelude.{slice_get}
use Rattle.token_system.specs.declared.cell.Token.{Token}
use Rattle.agent_core.specs.declared.node.CellDecl.{CellDecl}
use Rattle.agent_core.specs.Agents.{Agent, Constraint, Skip, Tell, Then, Else, Par, New, Hence, Next}
use Rattle.agent_core.specs.Programs.{CoreProgram}
use Rattle.agent_core.specs.WellFormed.{IsAmong, IsInScope, AreInScope, IsConstraint, Scoped}
use Rattle.surface_laws.specs.Surfaces as surface
use Rattle.core_reader.specs.Trees.{tree_of}

-- in a program of the same cells
module _ (p q : CoreProgram) (cells : p.cells ≡ q.cells) (declared : p.declared ≡ q.declared) where
  in_scope : (locals : List ℕ) (pair : ℕ × Token) → IsInScope p locals pair → IsInScope q locals pair
  in_scope locals pair is = record {
    visible = subst (λ (n : ℕ). (pair.0 < n) ⊎ IsAmong locals pair.0) declared is.visible;
    decl = is.decl;
    found = ap (λ (cs : List CellDecl). slice_get cs pair.0) (sym cells) ∙ is.found;
    fits = is.fits;
  }

  all_in_scope : (locals : List ℕ) (ask : Constraint) → AreInScope p locals ask → AreInScope q locals ask
  all_in_scope locals [] are = tt
  all_in_scope locals (pair ∷ ask) are = (in_scope locals pair are.0, all_in_scope locals ask are.1)

  constraint_in : (locals : List ℕ) (ask : Constraint) → IsConstraint p locals ask → IsConstraint q locals ask
  constraint_in locals ask is = record { some = is.some; few = is.few; tokens = all_in_scope locals ask is.tokens }

  pub agent_scoped : (a : Agent) (locals : List ℕ) → surface.IsScopedTree p locals (tree_of a) → Scoped q locals a
  agent_scoped Skip locals s = tt
  agent_scoped (Tell c) locals s = constraint_in locals c s
  agent_scoped (Then c a) locals s = (constraint_in locals c s.0, agent_scoped a locals s.1)
  agent_scoped (Else c a) locals s = (constraint_in locals c s.0, agent_scoped a locals s.1)
  agent_scoped (Par l r) locals s = (agent_scoped l locals s.0, agent_scoped r locals s.1)
  agent_scoped (New cell a) locals s = agent_scoped a (cell ∷ locals) s
  agent_scoped (Hence a) locals s = agent_scoped a locals s
  agent_scoped (Next a) locals s = agent_scoped a locals s
