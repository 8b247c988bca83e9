-- Which names the cells of an instant need to have: those of the local cells that its constraints speak of. This project's own.
use Rattle.std.specs.Prelude.{ℕ, ◌≤◌, List, [], ◌∷◌, ◌++◌, All, Contains}
use Rattle.token_system.specs.declared.cell.Token.{Token}
use Rattle.token_system.specs.declared.name.CellName.{CellName}
use Rattle.agent_core.specs.declared.node.Closure.{Closure}
use Rattle.agent_core.specs.Programs.{CoreProgram}
use Rattle.agent_core.specs.Agents.{Agent, Constraint, Skip, Tell, Then, Else, Par, New, Hence, Next, agent_at}
use Rattle.agent_core.specs.Names.{name_of}

-- the token's cell is a declared one, or its name under the births is one of these
abbrev pub TokenCovered : CoreProgram → List ℕ → List CellName → (ℕ × Token) → Type 0
TokenCovered p b names x = p.declared ≤ x.0 → Contains names (name_of p b x.0)

-- so is each token's of the constraint
abbrev pub AskCovered : CoreProgram → List ℕ → List CellName → Constraint → Type 0
AskCovered p b names ask = All (TokenCovered p b names) ask

-- and of each constraint of the agent within the instant, where the agent is started at t under these births
abbrev pub AgentCovered : CoreProgram → ℕ → List CellName → Agent → List ℕ → Type 0
AgentCovered p t names Skip b = Unit {0}
AgentCovered p t names (Tell c) b = AskCovered p b names c
AgentCovered p t names (Then c a) b = AskCovered p b names c × AgentCovered p t names a b
AgentCovered p t names (Else c a) b = AskCovered p b names c × AgentCovered p t names a b
AgentCovered p t names (Par a a') b = AgentCovered p t names a b × AgentCovered p t names a' b
AgentCovered p t names (New cell a) b = AgentCovered p t names a (b ++ t ∷ [])
AgentCovered p t names (Hence a) b = Unit {0}
AgentCovered p t names (Next a) b = Unit {0}

-- and of each constraint of these roots
abbrev pub RootsCovered : CoreProgram → ℕ → List CellName → List Closure → Type 0
RootsCovered p t names rs = All (λ r. AgentCovered p t names (agent_at p.nodes r.node) r.births) rs

-- each name from before is there still
abbrev pub KeepsNames : List CellName → List CellName → Type 0
KeepsNames before after = (n : CellName) → Contains before n → Contains after n

-- the names from before are there, and those that the constraint needs
pub record CoversAsk (p : CoreProgram) (b : List ℕ) (ask : Constraint) (before after : List CellName) : Type 0 where
  pub keeps : KeepsNames before after
  pub covers : AskCovered p b after ask

-- the names from before are there, and those that node n needs, which is started at t under births b
pub record CoversNode (p : CoreProgram) (t n : ℕ) (b : List ℕ) (before after : List CellName) : Type 0 where
  pub keeps : KeepsNames before after
  pub covers : AgentCovered p t after (agent_at p.nodes n) b
