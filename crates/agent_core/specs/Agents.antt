-- Agents: the core of Default cc after Saraswat, Jagadeesan and Gupta, with `hence` for every later instant, and `next`, which is this project's own.
-- A program keeps its agents as a list of nodes; here they are read off that list as trees.
use Rattle.std.specs.Prelude.{ℕ, suc, ◌-◌, List, [], ◌∷◌, slice_index_or}
use Rattle.token_system.specs.declared.cell.Token.{Token}
use Rattle.agent_core.specs.declared.node.Node.{Node}
use Rattle.agent_core.specs.declared.node.Node.TheVariants as nodes

-- tokens of cells, each cell by its number
abbrev pub Constraint : Type 0
Constraint = List (ℕ × Token)

pub data Agent : Type 0 where
  Skip : Agent
  Tell : Constraint → Agent
  Then : Constraint → Agent → Agent
  Else : Constraint → Agent → Agent
  Par : Agent → Agent → Agent
  New : ℕ → Agent → Agent
  Hence : Agent → Agent
  Next : Agent → Agent

-- the agent of a node, from those of its parts
abbrev pub agent_of : (ℕ → Agent) → Node → Agent
agent_of part nodes.Skip = Skip
agent_of part (nodes.Tell ask) = Tell ask
agent_of part (nodes.Then ask body) = Then ask (part body)
agent_of part (nodes.Else ask body) = Else ask (part body)
agent_of part (nodes.Par left right) = Par (part left) (part right)
agent_of part (nodes.New cell body) = New cell (part body)
agent_of part (nodes.Hence body) = Hence (part body)
agent_of part (nodes.Next body) = Next (part body)

-- the agents of the nodes from number n on; it reads them rightly where each part has a greater number than its node, as in every program
abbrev pub agents_from : ℕ → List Node → List Agent
agents_from n [] = []
agents_from n (node ∷ later) =
    let agents = agents_from (suc n) later in
    agent_of (λ part. slice_index_or agents (part - suc n) Skip) node ∷ agents

-- the agent of the node with this number
abbrev pub agent_at : List Node → ℕ → Agent
agent_at all n = slice_index_or (agents_from 0 all) n Skip
