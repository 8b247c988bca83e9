use Rattle.std.proofs.Common.{◌≡◌, ◌++◌, vec_len}
use Rattle.derived_forms.specs.Emitters.{emitted_nodes}
use Rattle.derived_forms.proofs.emitter.Emitter.put_back.Given as goal

-- what is not yet put back stands in front of the nodes
abbrev pub invariant-loop-flat_node : goal.invariant-loop-flat_node
invariant-loop-flat_node l = l.body.items ++ emitted_nodes l.self ≡ l.initial.body.items ++ emitted_nodes l.initial.self

abbrev pub decreases-loop-flat_node : goal.decreases-loop-flat_node
decreases-loop-flat_node l = vec_len l.body
