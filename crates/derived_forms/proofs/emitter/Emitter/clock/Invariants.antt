use Rattle.std.proofs.Common.{◌≡◌, ◌++◌, ◌≤◌, List, [], ◌∷◌, length, vec_len}
use Rattle.expansion_laws.specs.SymbolicAgents.{SymbolicAgent}
use Rattle.derived_forms.specs.declared.flat_node.FlatNode.{FlatNode}
use Rattle.derived_forms.specs.Emitters.{emitted_nodes}
use Rattle.derived_forms.specs.FlatNodes.{symbolic_parts, flat_nodes}
use Rattle.derived_forms.proofs.Backwards.{IsBack}
use Rattle.derived_forms.proofs.Clocked.{on_clock}
use Rattle.derived_forms.proofs.emitter.Emitter.clock.Given as goal

-- the symbolic agents behind the nodes that are left are on the clock
abbrev pub invariant-loop-flat_node : goal.invariant-loop-flat_node
invariant-loop-flat_node l = record {
  room : length (emitted_nodes l.self) ≤ 4096;
  back : (a : SymbolicAgent) (rest : List FlatNode) → emitted_nodes l.fn.self ≡ flat_nodes a ++ rest
      → IsBack symbolic_parts flat_nodes (on_clock l.binder l.ask) (a ∷ []) rest l.body.items (emitted_nodes l.self);
}

abbrev pub decreases-loop-flat_node : goal.decreases-loop-flat_node
decreases-loop-flat_node l = vec_len l.body
