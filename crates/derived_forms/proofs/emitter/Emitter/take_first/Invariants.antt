use Rattle.std.proofs.Common.{◌≡◌, ◌++◌, ◌+◌, ◌≤◌, List, length, vec_len}
use Rattle.expansion_laws.specs.SymbolicAgents.{SymbolicAgent}
use Rattle.derived_forms.specs.declared.flat_node.FlatNode.{FlatNode}
use Rattle.derived_forms.specs.Emitters.{emitted_nodes}
use Rattle.derived_forms.specs.FlatNodes.{flat_nodes}
use Rattle.derived_forms.proofs.Taken.{Left}
use Rattle.derived_forms.proofs.emitter.Emitter.take_first.Given as goal

-- what is left is so many symbolic agents, which are parts of the first one, and the rest
abbrev pub invariant-loop-flat_node : goal.invariant-loop-flat_node
invariant-loop-flat_node l = record {
  some : 1 ≤ l.open;
  few : l.open ≤ 1 + length l.body.items;
  all : l.body.items ++ emitted_nodes l.self ≡ emitted_nodes l.fn.self;
  left : (a : SymbolicAgent) (rest : List FlatNode) → emitted_nodes l.fn.self ≡ flat_nodes a ++ rest
      → Left (emitted_nodes l.self) rest l.open;
}

abbrev pub decreases-loop-flat_node : goal.decreases-loop-flat_node
decreases-loop-flat_node l = vec_len l.self.flat_nodes
