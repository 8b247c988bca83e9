-- Constraints that have a meaning under births: each token is one of a cell that has a name there, and fits it. This project's own.
use Rattle.std.specs.Prelude.{◌≡◌, ℕ, suc, List, [], ◌∷◌, ◌++◌, length, slice_get, Some}
use Rattle.token_system.specs.declared.cell.Token.{Token}
use Rattle.token_system.specs.Tokens.{Fits}
use Rattle.agent_core.specs.declared.node.CellDecl.{CellDecl}
use Rattle.agent_core.specs.Programs.{CoreProgram}
use Rattle.agent_core.specs.Agents.{Agent, Constraint, Skip, Tell, Then, Else, Par, New, Hence, Next}
use Rattle.agent_core.specs.Names.{Names, name_of}

-- the token's cell has a name under the births, and the token fits it
pub record TokenFits (p : CoreProgram) (births : List ℕ) (pair : ℕ × Token) : Type 0 where
  pub decl : CellDecl
  pub found : slice_get p.cells pair.0 ≡ Some decl
  pub named : Names p (name_of p births pair.0) decl
  pub fits : Fits decl.cell pair.1

-- each token of the constraint does
abbrev pub ConstraintFits : CoreProgram → List ℕ → Constraint → Type 0
ConstraintFits p births [] = Unit {0}
ConstraintFits p births (pair ∷ ask) = TokenFits p births pair × ConstraintFits p births ask

-- each constraint of the agent within the instant does, where the agent is started at t under these births
abbrev pub AgentFits : CoreProgram → ℕ → Agent → List ℕ → Type 0
AgentFits p t Skip b = Unit {0}
AgentFits p t (Tell c) b = ConstraintFits p b c
AgentFits p t (Then c a) b = ConstraintFits p b c × AgentFits p t a b
AgentFits p t (Else c a) b = ConstraintFits p b c × AgentFits p t a b
AgentFits p t (Par a a') b = AgentFits p t a b × AgentFits p t a' b
AgentFits p t (New cell a) b = AgentFits p t a (b ++ t ∷ [])
AgentFits p t (Hence a) b = Unit {0}
AgentFits p t (Next a) b = Unit {0}

-- each constraint of the agent does under any births, as many as new nodes enclose it, where d enclose the agent
abbrev pub AlwaysFits : CoreProgram → Agent → ℕ → Type 0
AlwaysFits p Skip d = Unit {0}
AlwaysFits p (Tell c) d = (b : List ℕ) → length b ≡ d → ConstraintFits p b c
AlwaysFits p (Then c a) d = ((b : List ℕ) → length b ≡ d → ConstraintFits p b c) × AlwaysFits p a d
AlwaysFits p (Else c a) d = ((b : List ℕ) → length b ≡ d → ConstraintFits p b c) × AlwaysFits p a d
AlwaysFits p (Par a a') d = AlwaysFits p a d × AlwaysFits p a' d
AlwaysFits p (New cell a) d = AlwaysFits p a (suc d)
AlwaysFits p (Hence a) d = AlwaysFits p a d
AlwaysFits p (Next a) d = AlwaysFits p a d
