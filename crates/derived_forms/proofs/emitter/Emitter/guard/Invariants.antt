use Rattle.std.proofs.Common.{◌≡◌, ◌++◌, ◌≤◌, length, vec_len}
use Rattle.std.specs.List.{flat_map}
use Rattle.derived_forms.specs.Emitters.{emitted_nodes}
use Rattle.derived_forms.specs.FlatNodes.{guarded_flat_nodes}
use Rattle.derived_forms.proofs.emitter.Emitter.guard.Given as goal

-- what is not yet guarded stands in front of the nodes
abbrev pub invariant-loop-flat_node : goal.invariant-loop-flat_node
invariant-loop-flat_node l = record {
  room : length (emitted_nodes l.self) ≤ 4096;
  put : flat_map (guarded_flat_nodes l.binder) l.body.items ++ emitted_nodes l.self ≡ flat_map (guarded_flat_nodes l.binder) l.initial.body.items ++ emitted_nodes l.initial.self;
}

abbrev pub decreases-loop-flat_node : goal.decreases-loop-flat_node
decreases-loop-flat_node l = vec_len l.body
