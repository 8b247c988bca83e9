use Rattle.std.proofs.Common.{◌≡◌, map}
use Rattle.core_reader.specs.Forms.{form_of_node}
use Rattle.core_reader.proofs.nodes.nodes_of.Given as goal

abbrev pub invariant-loop-form : goal.invariant-loop-form
invariant-loop-form l = map form_of_node l.nodes.items ≡ l.yielded
