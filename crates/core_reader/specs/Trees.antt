-- The tree of an agent as trees of programs are written: the core forms stand for themselves. This project's own.
use Rattle.agent_core.specs.Agents.{Agent}
use Rattle.agent_core.specs.Agents as agent
use Rattle.tdcc_reader.specs.Trees.{Tree}
use Rattle.tdcc_reader.specs.Trees as tree

abbrev pub tree_of : Agent → Tree
tree_of agent.Skip = tree.Skip
tree_of (agent.Tell ask) = tree.Tell ask
tree_of (agent.Then ask a) = tree.Then ask (tree_of a)
tree_of (agent.Else ask a) = tree.Else ask (tree_of a)
tree_of (agent.Par l r) = tree.Par (tree_of l) (tree_of r)
tree_of (agent.New cell a) = tree.New cell (tree_of a)
tree_of (agent.Hence a) = tree.Hence (tree_of a)
tree_of (agent.Next a) = tree.Next (tree_of a)
