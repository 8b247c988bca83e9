use Rattle.std.proofs.Common.{◌≡◌, ◌≤◌, length, vec_len}
use Rattle.std.specs.Prelude.{reverse}
use Rattle.agent_core.specs.Agents.{Agent}
use Rattle.derived_forms.specs.Numbered.{agent_flat_nodes}
use Rattle.derived_forms.proofs.NumberedNodes.{IsNumbered}
use Rattle.derived_forms.proofs.numbering.number_nodes.Given as goal

-- the agents behind the nodes that are left are numbered
abbrev pub invariant-loop-flat_node : goal.invariant-loop-flat_node
invariant-loop-flat_node l = record {
  few : length l.flat_nodes.items ≤ 4096;
  done : (a : Agent) → l.fn.flat_nodes.items ≡ agent_flat_nodes a → IsNumbered a l.flat_nodes.items (reverse l.ends.items) (reverse l.nodes.items);
}

abbrev pub decreases-loop-flat_node : goal.decreases-loop-flat_node
decreases-loop-flat_node l = vec_len l.flat_nodes
