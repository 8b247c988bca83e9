-- A tree by its first form and its parts, and the nodes of the symbolic agents of these. This project's own.
use Rattle.std.specs.Prelude.{ℕ, suc, ◌+◌, List, [], ◌∷◌}
use Rattle.tdcc_reader.specs.declared.surface.Form.{Form}
use Rattle.tdcc_reader.specs.declared.surface.Form.TheVariants as form
use Rattle.tdcc_reader.specs.Trees.{Tree, Skip, Tell, Then, Else, Par, New, Hence, Next, Always, When, Watch, Time, form_count}
use Rattle.expansion_laws.specs.Expanding.{symbolic_of}
use Rattle.expansion_laws.specs.Origins.{Subtree, subtree}
use Rattle.derived_forms.specs.declared.flat_node.FlatNode.{FlatNode}
use Rattle.derived_forms.specs.FlatNodes.{flat_nodes}

-- the first form of a tree, with number n
abbrev pub first_form : ℕ → Tree → Form
first_form n Skip = form.Skip
first_form n (Tell c) = form.Tell c
first_form n (Then c a) = form.Then c (suc n)
first_form n (Else c a) = form.Else c (suc n)
first_form n (Par l r) = form.Par (suc n) (suc n + form_count l)
first_form n (New cell a) = form.New cell (suc n)
first_form n (Hence a) = form.Hence (suc n)
first_form n (Next a) = form.Next (suc n)
first_form n (Always a) = form.Always (suc n)
first_form n (When c a) = form.When c (suc n)
first_form n (Watch a c) = form.Watch (suc n) c
first_form n (Time a c) = form.Time (suc n) c

-- the parts of a tree with number n, each with its own
abbrev pub child_subtrees : ℕ → Tree → List Subtree
child_subtrees n Skip = []
child_subtrees n (Tell c) = []
child_subtrees n (Then c a) = subtree (suc n) a ∷ []
child_subtrees n (Else c a) = subtree (suc n) a ∷ []
child_subtrees n (Par l r) = subtree (suc n) l ∷ subtree (suc n + form_count l) r ∷ []
child_subtrees n (New cell a) = subtree (suc n) a ∷ []
child_subtrees n (Hence a) = subtree (suc n) a ∷ []
child_subtrees n (Next a) = subtree (suc n) a ∷ []
child_subtrees n (Always a) = subtree (suc n) a ∷ []
child_subtrees n (When c a) = subtree (suc n) a ∷ []
child_subtrees n (Watch a c) = subtree (suc n) a ∷ []
child_subtrees n (Time a c) = subtree (suc n) a ∷ []

-- the nodes of the symbolic agent of a numbered tree, in a surface with so many cells
abbrev pub subtree_flat_nodes : ℕ → Subtree → List FlatNode
subtree_flat_nodes cells p = flat_nodes (symbolic_of cells p.number p.tree)
