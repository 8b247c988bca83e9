-- Symbolic agents as lists of their nodes in preorder. This project's own.
use Rattle.std.specs.Prelude.{ℕ, List, [], ◌∷◌, ◌++◌, Option, Some, None}
use Rattle.expansion_laws.specs.SymbolicAgents.{SymbolicAgent, Skip, Tell, Then, Else, Par, New, Hence, Next}
use Rattle.expansion_laws.specs.Table.{signal_on}
use Rattle.derived_forms.specs.declared.flat_node.FlatNode.{FlatNode}
use Rattle.derived_forms.specs.declared.flat_node.FlatNode.TheVariants as flat_node

-- the first node of a symbolic agent
abbrev pub first_flat_node : SymbolicAgent → FlatNode
first_flat_node (Skip o) = flat_node.Skip
first_flat_node (Tell o c) = flat_node.Tell c
first_flat_node (Then o c a) = flat_node.Then c
first_flat_node (Else o c a) = flat_node.Else c
first_flat_node (Par o a b) = flat_node.Par
first_flat_node (New o binder a) = flat_node.New binder
first_flat_node (Hence o a) = flat_node.Hence
first_flat_node (Next o a) = flat_node.Next

-- the parts of a symbolic agent
abbrev pub symbolic_parts : SymbolicAgent → List SymbolicAgent
symbolic_parts (Skip o) = []
symbolic_parts (Tell o c) = []
symbolic_parts (Then o c a) = a ∷ []
symbolic_parts (Else o c a) = a ∷ []
symbolic_parts (Par o a b) = a ∷ b ∷ []
symbolic_parts (New o binder a) = a ∷ []
symbolic_parts (Hence o a) = a ∷ []
symbolic_parts (Next o a) = a ∷ []

-- the nodes of a symbolic agent
abbrev pub flat_nodes : SymbolicAgent → List FlatNode
flat_nodes (Skip o) = flat_node.Skip ∷ []
flat_nodes (Tell o c) = flat_node.Tell c ∷ []
flat_nodes (Then o c a) = flat_node.Then c ∷ flat_nodes a
flat_nodes (Else o c a) = flat_node.Else c ∷ flat_nodes a
flat_nodes (Par o a b) = flat_node.Par ∷ (flat_nodes a ++ flat_nodes b)
flat_nodes (New o binder a) = flat_node.New binder ∷ flat_nodes a
flat_nodes (Hence o a) = flat_node.Hence ∷ flat_nodes a
flat_nodes (Next o a) = flat_node.Next ∷ flat_nodes a

-- the binder of a new
abbrev pub binder_of : FlatNode → Option ℕ
binder_of (flat_node.New binder) = Some binder
binder_of _ = None

-- how many parts the symbolic agent of a node has
abbrev pub part_count : FlatNode → ℕ
part_count flat_node.Skip = 0
part_count (flat_node.Tell c) = 0
part_count flat_node.Par = 2
part_count _ = 1

-- a tell waits for k to be absent
abbrev pub guarded_flat_nodes : ℕ → FlatNode → List FlatNode
guarded_flat_nodes k (flat_node.Tell c) = flat_node.Else (signal_on k) ∷ flat_node.Tell c ∷ []
guarded_flat_nodes k p = p ∷ []
