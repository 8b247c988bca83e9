-- Trees of forms, the lists of their forms, and the symbolic agents that are emitted of them.
use Rattle.std.proofs.Common.{◌≡◌, ℕ, suc, ◌+◌, ◌≤◌, List, [], ◌∷◌, ◌++◌, length, refl, ap, sym, ◌∙◌, arith}
use Rattle.std.specs.List.{flat_map}
use Rattle.std.proofs.lemmas.List.{append-nil, length-append}
use Rattle.agent_core.specs.Agents.{Constraint}
use Rattle.tdcc_reader.specs.declared.surface.Form.{Form}
use Rattle.tdcc_reader.specs.declared.surface.Form.TheVariants as form
use Rattle.tdcc_reader.specs.Trees.{Tree, form_listing}
use Rattle.tdcc_reader.specs.Trees as tree
use Rattle.expansion_laws.specs.Expanding.{symbolic_of}
use Rattle.expansion_laws.specs.Origins.{Subtree, subtree}
use Rattle.expansion_laws.specs.SymbolicAgents.{SymbolicAgent, Skip, Tell, Then, Else, Par, New, Hence, Next, symbolic_size}
use Rattle.expansion_laws.specs.Table.{guarded, clocked}
use Rattle.derived_forms.specs.declared.flat_node.FlatNode.{FlatNode}
use Rattle.derived_forms.specs.FormParts.{first_form, subtree_flat_nodes, child_subtrees}
use Rattle.derived_forms.specs.FlatNodes.{flat_nodes}
use Rattle.derived_forms.proofs.Forests.{Follows, Splits}
use Rattle.derived_forms.proofs.FlatLists.{length-flat_nodes}

-- the forms of a numbered tree, the first of them, its parts, its number and its size
abbrev pub part_forms : Subtree → List Form
part_forms p = form_listing p.number p.tree

abbrev pub part_form : Subtree → Form
part_form p = first_form p.number p.tree

abbrev pub part_parts : Subtree → List Subtree
part_parts p = child_subtrees p.number p.tree

abbrev pub part_number : Subtree → ℕ
part_number p = p.number

abbrev pub part_size : Subtree → ℕ
part_size p = tree.form_count p.tree

one_part : (f : Form) (l : List Form) → f ∷ l ≡ f ∷ (l ++ [])
one_part f l = ap (λ m. f ∷ m) (sym (append-nil l))

listing-split : (n : ℕ) (t : Tree) → form_listing n t ≡ first_form n t ∷ flat_map part_forms (child_subtrees n t)
listing-split n tree.Skip = refl
listing-split n (tree.Tell c) = refl
listing-split n (tree.Then c a) = one_part (form.Then c (suc n)) (form_listing (suc n) a)
listing-split n (tree.Else c a) = one_part (form.Else c (suc n)) (form_listing (suc n) a)
listing-split n (tree.Par l r) = ap (λ m. form.Par (suc n) (suc n + tree.form_count l) ∷ (form_listing (suc n) l ++ m)) (sym (append-nil (form_listing (suc n + tree.form_count l) r)))
listing-split n (tree.New cell a) = one_part (form.New cell (suc n)) (form_listing (suc n) a)
listing-split n (tree.Hence a) = one_part (form.Hence (suc n)) (form_listing (suc n) a)
listing-split n (tree.Next a) = one_part (form.Next (suc n)) (form_listing (suc n) a)
listing-split n (tree.Always a) = one_part (form.Always (suc n)) (form_listing (suc n) a)
listing-split n (tree.When c a) = one_part (form.When c (suc n)) (form_listing (suc n) a)
listing-split n (tree.Watch a c) = one_part (form.Watch (suc n) c) (form_listing (suc n) a)
listing-split n (tree.Time a c) = one_part (form.Time (suc n) c) (form_listing (suc n) a)

pub forms-split : Splits part_parts part_forms part_form
forms-split p = listing-split p.number p.tree

tree_follows : (n : ℕ) (t : Tree) → Follows part_parts part_number part_size (subtree n t) (suc n)
tree_follows n tree.Skip = record { row = tt; end = omega arith }
tree_follows n (tree.Tell c) = record { row = tt; end = omega arith }
tree_follows n (tree.Then c a) = record { row = (refl, tt); end = omega arith }
tree_follows n (tree.Else c a) = record { row = (refl, tt); end = omega arith }
tree_follows n (tree.Par l r) = record { row = (refl, (refl, tt)); end = omega arith }
tree_follows n (tree.New cell a) = record { row = (refl, tt); end = omega arith }
tree_follows n (tree.Hence a) = record { row = (refl, tt); end = omega arith }
tree_follows n (tree.Next a) = record { row = (refl, tt); end = omega arith }
tree_follows n (tree.Always a) = record { row = (refl, tt); end = omega arith }
tree_follows n (tree.When c a) = record { row = (refl, tt); end = omega arith }
tree_follows n (tree.Watch a c) = record { row = (refl, tt); end = omega arith }
tree_follows n (tree.Time a c) = record { row = (refl, tt); end = omega arith }

-- The parts of a form are numbered one behind the other, from behind the form on.
pub parts_follow : (p : Subtree) → Follows part_parts part_number part_size p (suc (part_number p))
parts_follow p = tree_follows p.number p.tree

-- guarded symbolic agents and those on a clock are no smaller
size-guarded : (k : ℕ) (d : SymbolicAgent) → symbolic_size d ≤ symbolic_size (guarded k d)
size-guarded k (Skip o) = omega arith
size-guarded k (Tell o c) = omega arith
size-guarded k (Then o c a) = let i = size-guarded k a in omega arith
size-guarded k (Else o c a) = let i = size-guarded k a in omega arith
size-guarded k (Par o a b) = let i = size-guarded k a in let j = size-guarded k b in omega arith
size-guarded k (New o binder a) = let i = size-guarded k a in omega arith
size-guarded k (Hence o a) = let i = size-guarded k a in omega arith
size-guarded k (Next o a) = let i = size-guarded k a in omega arith

size-clocked : (k : ℕ) (c : Constraint) (d : SymbolicAgent) → symbolic_size d ≤ symbolic_size (clocked k c d)
size-clocked k c (Skip o) = omega arith
size-clocked k c (Tell o b) = omega arith
size-clocked k c (Then o b a) = let i = size-clocked k c a in omega arith
size-clocked k c (Else o b a) = let i = size-clocked k c a in omega arith
size-clocked k c (Par o a b) = let i = size-clocked k c a in let j = size-clocked k c b in omega arith
size-clocked k c (New o binder a) = let i = size-clocked k c a in omega arith
size-clocked k c (Hence o a) = let i = size-clocked k c a in omega arith
size-clocked k c (Next o a) = let i = size-clocked k c a in omega arith

one_long : (d : SymbolicAgent) → length (flat_nodes d ++ []) ≡ symbolic_size d
one_long d = ap length (append-nil (flat_nodes d)) ∙ length-flat_nodes d

-- The symbolic agent of a form has at least one node more than those of its parts together.
pub parts_fit : (cells n : ℕ) (t : Tree) → length (flat_map (subtree_flat_nodes cells) (child_subtrees n t)) + 1 ≤ symbolic_size (symbolic_of cells n t)
parts_fit cells n tree.Skip = omega arith
parts_fit cells n (tree.Tell c) = omega arith
parts_fit cells n (tree.Then c a) = let e = one_long (symbolic_of cells (suc n) a) in omega arith
parts_fit cells n (tree.Else c a) = let e = one_long (symbolic_of cells (suc n) a) in omega arith
parts_fit cells n (tree.Par l r) =
    let e = length-flat_nodes (symbolic_of cells (suc n) l) in
    let f = one_long (symbolic_of cells (suc n + tree.form_count l) r) in
    let g = length-append (flat_nodes (symbolic_of cells (suc n) l)) (flat_nodes (symbolic_of cells (suc n + tree.form_count l) r) ++ []) in omega arith
parts_fit cells n (tree.New cell a) = let e = one_long (symbolic_of cells (suc n) a) in omega arith
parts_fit cells n (tree.Hence a) = let e = one_long (symbolic_of cells (suc n) a) in omega arith
parts_fit cells n (tree.Next a) = let e = one_long (symbolic_of cells (suc n) a) in omega arith
parts_fit cells n (tree.Always a) = let e = one_long (symbolic_of cells (suc n) a) in omega arith
parts_fit cells n (tree.When c a) = let e = one_long (symbolic_of cells (suc n) a) in omega arith
parts_fit cells n (tree.Watch a c) = let e = one_long (symbolic_of cells (suc n) a) in let s = size-guarded (cells + n) (symbolic_of cells (suc n) a) in omega arith
parts_fit cells n (tree.Time a c) = let e = one_long (symbolic_of cells (suc n) a) in let s = size-clocked (cells + n) c (symbolic_of cells (suc n) a) in omega arith

-- so a node in front of these nodes and the rest is not one too many
pub form_fits : (cells n : ℕ) (t : Tree) (old rest : List FlatNode) → old ≡ flat_map (subtree_flat_nodes cells) (child_subtrees n t) ++ rest → length old + 1 ≤ symbolic_size (symbolic_of cells n t) + length rest
form_fits cells n t old rest e =
    let f = ap length e in
    let g = length-append (flat_map (subtree_flat_nodes cells) (child_subtrees n t)) rest in
    let h = parts_fit cells n t in omega arith

pub parts_no_longer : (cells : ℕ) (p : Subtree) → length (flat_map (subtree_flat_nodes cells) (part_parts p)) ≤ length (subtree_flat_nodes cells p)
parts_no_longer cells p = let f = parts_fit cells p.number p.tree in let l = length-flat_nodes (symbolic_of cells p.number p.tree) in omega arith

-- A symbolic agent has at least as many nodes as its tree has forms.
pub size-symbolic : (cells n : ℕ) (t : Tree) → tree.form_count t ≤ symbolic_size (symbolic_of cells n t)
size-symbolic cells n tree.Skip = omega arith
size-symbolic cells n (tree.Tell c) = omega arith
size-symbolic cells n (tree.Then c a) = let i = size-symbolic cells (suc n) a in omega arith
size-symbolic cells n (tree.Else c a) = let i = size-symbolic cells (suc n) a in omega arith
size-symbolic cells n (tree.Par l r) = let i = size-symbolic cells (suc n) l in let j = size-symbolic cells (suc n + tree.form_count l) r in omega arith
size-symbolic cells n (tree.New cell a) = let i = size-symbolic cells (suc n) a in omega arith
size-symbolic cells n (tree.Hence a) = let i = size-symbolic cells (suc n) a in omega arith
size-symbolic cells n (tree.Next a) = let i = size-symbolic cells (suc n) a in omega arith
size-symbolic cells n (tree.Always a) = let i = size-symbolic cells (suc n) a in omega arith
size-symbolic cells n (tree.When c a) = let i = size-symbolic cells (suc n) a in omega arith
size-symbolic cells n (tree.Watch a c) = let i = size-symbolic cells (suc n) a in let s = size-guarded (cells + n) (symbolic_of cells (suc n) a) in omega arith
size-symbolic cells n (tree.Time a c) = let i = size-symbolic cells (suc n) a in let s = size-clocked (cells + n) c (symbolic_of cells (suc n) a) in omega arith

pub length-listing : (n : ℕ) (t : Tree) → length (form_listing n t) ≡ tree.form_count t
length-listing n tree.Skip = refl
length-listing n (tree.Tell c) = refl
length-listing n (tree.Then c a) = ap suc (length-listing (suc n) a)
length-listing n (tree.Else c a) = ap suc (length-listing (suc n) a)
length-listing n (tree.Par l r) =
    let e = length-append (form_listing (suc n) l) (form_listing (suc n + tree.form_count l) r) in
    let f = length-listing (suc n) l in
    let g = length-listing (suc n + tree.form_count l) r in omega arith
length-listing n (tree.New cell a) = ap suc (length-listing (suc n) a)
length-listing n (tree.Hence a) = ap suc (length-listing (suc n) a)
length-listing n (tree.Next a) = ap suc (length-listing (suc n) a)
length-listing n (tree.Always a) = ap suc (length-listing (suc n) a)
length-listing n (tree.When c a) = ap suc (length-listing (suc n) a)
length-listing n (tree.Watch a c) = ap suc (length-listing (suc n) a)
length-listing n (tree.Time a c) = ap suc (length-listing (suc n) a)
