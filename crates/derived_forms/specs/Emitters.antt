-- The nodes that are emitted, in preorder.
use Rattle.std.specs.Prelude.{List, reverse}
use Rattle.derived_forms.specs.declared.emitter.Emitter.{Emitter}
use Rattle.derived_forms.specs.declared.flat_node.FlatNode.{FlatNode}

abbrev pub emitted_nodes : Emitter → List FlatNode
emitted_nodes emitter = reverse emitter.flat_nodes.items
