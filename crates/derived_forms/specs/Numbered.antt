-- Agents as lists of their nodes in preorder, and the numbers of these. This project's own.
use Rattle.std.specs.Prelude.{ℕ, suc, ◌+◌, List, [], ◌∷◌, ◌++◌}
use Rattle.agent_core.specs.Agents.{Agent, Skip, Tell, Then, Else, Par, New, Hence, Next}
use Rattle.agent_core.specs.Listing.{size}
use Rattle.agent_core.specs.declared.node.Node.{Node}
use Rattle.agent_core.specs.declared.node.Node.TheVariants as nodes
use Rattle.derived_forms.specs.declared.flat_node.FlatNode.{FlatNode}
use Rattle.derived_forms.specs.declared.flat_node.FlatNode.TheVariants as flat_node

-- the first node of an agent; a new has its cell for a binder
abbrev pub agent_first_flat_node : Agent → FlatNode
agent_first_flat_node Skip = flat_node.Skip
agent_first_flat_node (Tell c) = flat_node.Tell c
agent_first_flat_node (Then c a) = flat_node.Then c
agent_first_flat_node (Else c a) = flat_node.Else c
agent_first_flat_node (Par a b) = flat_node.Par
agent_first_flat_node (New cell a) = flat_node.New cell
agent_first_flat_node (Hence a) = flat_node.Hence
agent_first_flat_node (Next a) = flat_node.Next

-- the nodes of an agent
abbrev pub agent_flat_nodes : Agent → List FlatNode
agent_flat_nodes Skip = flat_node.Skip ∷ []
agent_flat_nodes (Tell c) = flat_node.Tell c ∷ []
agent_flat_nodes (Then c a) = flat_node.Then c ∷ agent_flat_nodes a
agent_flat_nodes (Else c a) = flat_node.Else c ∷ agent_flat_nodes a
agent_flat_nodes (Par a b) = flat_node.Par ∷ (agent_flat_nodes a ++ agent_flat_nodes b)
agent_flat_nodes (New cell a) = flat_node.New cell ∷ agent_flat_nodes a
agent_flat_nodes (Hence a) = flat_node.Hence ∷ agent_flat_nodes a
agent_flat_nodes (Next a) = flat_node.Next ∷ agent_flat_nodes a

-- the first node of an agent, with number n
abbrev pub first_node : ℕ → Agent → Node
first_node n Skip = nodes.Skip
first_node n (Tell c) = nodes.Tell c
first_node n (Then c a) = nodes.Then c (suc n)
first_node n (Else c a) = nodes.Else c (suc n)
first_node n (Par a b) = nodes.Par (suc n) (suc n + size a)
first_node n (New cell a) = nodes.New cell (suc n)
first_node n (Hence a) = nodes.Hence (suc n)
first_node n (Next a) = nodes.Next (suc n)

-- the numbers at which the parts of an agent end, where the first part has number n
abbrev pub part_ends : ℕ → Agent → List ℕ
part_ends n Skip = []
part_ends n (Tell c) = []
part_ends n (Then c a) = (n + size a) ∷ []
part_ends n (Else c a) = (n + size a) ∷ []
part_ends n (Par a b) = (n + size a) ∷ (n + size a + size b) ∷ []
part_ends n (New cell a) = (n + size a) ∷ []
part_ends n (Hence a) = (n + size a) ∷ []
part_ends n (Next a) = (n + size a) ∷ []
