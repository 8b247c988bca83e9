-- Nodes as forms: a node stands for the form of its name, and the forms of the core are those of nodes. This project's
-- own.
use Rattle.agent_core.specs.declared.node.Node.{Node}
use Rattle.agent_core.specs.declared.node.Node.TheVariants as nodes
use Rattle.tdcc_reader.specs.declared.surface.Form.{Form}
use Rattle.tdcc_reader.specs.declared.surface.Form.TheVariants as form

-- the form of a node
abbrev pub form_of_node : Node → Form
form_of_node nodes.Skip = form.Skip
form_of_node (nodes.Tell ask) = form.Tell ask
form_of_node (nodes.Then ask body) = form.Then ask body
form_of_node (nodes.Else ask body) = form.Else ask body
form_of_node (nodes.Par left right) = form.Par left right
form_of_node (nodes.New cell body) = form.New cell body
form_of_node (nodes.Hence body) = form.Hence body
form_of_node (nodes.Next body) = form.Next body

-- the form is one of the core: it is not always, when, do-watching or time-on
abbrev pub IsCoreForm : Form → Type 0
IsCoreForm (form.Always body) = ⊥
IsCoreForm (form.When ask body) = ⊥
IsCoreForm (form.Watch body stop) = ⊥
IsCoreForm (form.Time body clock) = ⊥
IsCoreForm _ = Unit {0}
