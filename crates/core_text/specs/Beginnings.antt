-- What a node writes before its parts, and what is then still to be written. This project's own.
use Rattle.std.specs.Prelude.{ℕ, Bool, true, false, List, [], ◌∷◌, ◌++◌, codes}
use Rattle.agent_core.specs.declared.node.CellDecl.{CellDecl}
use Rattle.agent_core.specs.declared.node.Node.{Node}
use Rattle.agent_core.specs.declared.node.Node.TheVariants as nodes
use Rattle.core_text.specs.CoreTexts.{constraint_text, decl_at}
use Rattle.core_text.specs.declared.agents.Pending.{Pending}
use Rattle.core_text.specs.declared.agents.Pending.TheVariants.{Part, Bars, Brace}

-- the text of a node up to its first part, where the node is to be one unit or not
abbrev pub beginning : List CellDecl → Bool → Node → List ℕ
beginning cells unit nodes.Skip = codes "skip"
beginning cells unit (nodes.Tell c) = constraint_text cells c
beginning cells unit (nodes.Then c body) = codes "if " ++ constraint_text cells c ++ codes " then "
beginning cells unit (nodes.Else c body) = codes "if " ++ constraint_text cells c ++ codes " else "
beginning cells true (nodes.Par left right) = codes "{ "
beginning cells false (nodes.Par left right) = []
beginning cells unit (nodes.New cell body) = codes "new " ++ decl_at cells cell ++ codes " in "
beginning cells unit (nodes.Hence body) = codes "hence "
beginning cells unit (nodes.Next body) = codes "next "

-- what a node writes then, the first in front
abbrev pub pending_of : Bool → Node → List Pending
pending_of unit nodes.Skip = []
pending_of unit (nodes.Tell c) = []
pending_of unit (nodes.Then c body) = Part true ∷ []
pending_of unit (nodes.Else c body) = Part true ∷ []
pending_of true (nodes.Par left right) = Part true ∷ Bars ∷ Part false ∷ Brace ∷ []
pending_of false (nodes.Par left right) = Part true ∷ Bars ∷ Part false ∷ []
pending_of unit (nodes.New cell body) = Part true ∷ []
pending_of unit (nodes.Hence body) = Part true ∷ []
pending_of unit (nodes.Next body) = Part true ∷ []
