-- One form further to the front, while the symbolic agent of a surface is emitted.
use Rattle.std.proofs.Common.{◌≡◌, ℕ, ◌+◌, ◌<◌, ◌≤◌, List, [], ◌∷◌, ◌++◌, length, take, get_or, refl, ap, sym, ◌∙◌, subst, arith}
use Rattle.std.specs.List.{flat_map}
use Rattle.std.proofs.lemmas.List.{append-nil, length-take-le, take_more}
use Rattle.tdcc_reader.specs.declared.surface.Form.{Form}
use Rattle.tdcc_reader.specs.Trees.{Tree, form_listing}
use Rattle.expansion_laws.specs.Expanding.{symbolic_of}
use Rattle.expansion_laws.specs.Origins.{Subtree, subtree}
use Rattle.expansion_laws.specs.SymbolicAgents.{symbolic_size}
use Rattle.derived_forms.specs.declared.flat_node.FlatNode.{FlatNode}
use Rattle.derived_forms.specs.FormParts.{first_form, subtree_flat_nodes, child_subtrees}
use Rattle.derived_forms.specs.FlatNodes.{flat_nodes}
use Rattle.derived_forms.proofs.Forests.{IsRow, row-behind}
use Rattle.derived_forms.proofs.Backwards.{IsBack, back_start, back_step, back_end}
use Rattle.derived_forms.proofs.EmittedForms.{forms-split, part_form, part_forms, part_number, part_parts, part_size, parts_follow, parts_no_longer}
use Rattle.derived_forms.proofs.FlatLists.{length-flat_nodes}

-- the symbolic agents of the trees behind so many forms are emitted
abbrev pub IsEmitted : ℕ → Tree → List Form → List FlatNode → Type 0
IsEmitted cells t front nodes = IsBack part_parts part_forms (subtree_flat_nodes cells) (subtree 0 t ∷ []) [] front nodes

pub emit_start : (cells : ℕ) (t : Tree) (forms front : List Form) (nodes : List FlatNode) → forms ≡ form_listing 0 t → front ≡ forms → nodes ≡ [] → IsEmitted cells t front nodes
emit_start cells t forms front nodes e f none = back_start part_parts part_forms part_form (subtree_flat_nodes cells) forms-split (subtree 0 t ∷ []) [] front nodes (f ∙ e ∙ sym (append-nil (form_listing 0 t))) none

-- the tree of the form with this number, and the nodes behind its symbolic agent
pub record Emits (cells : ℕ) (t : Tree) (forms : List Form) (left : ℕ) (f : Form) (nodes : List FlatNode) : Type 0 where
  pub tree : Tree
  pub later : List FlatNode
  pub form : f ≡ first_form left tree
  pub parts : nodes ≡ flat_map (subtree_flat_nodes cells) (child_subtrees left tree) ++ later
  pub next : (new : List FlatNode) → new ≡ flat_nodes (symbolic_of cells left tree) ++ later → IsEmitted cells t (take left forms) new
  pub fits : symbolic_size (symbolic_of cells left tree) + length later ≤ symbolic_size (symbolic_of cells 0 t)

-- the same, where the tree has its own number
emits_at : (cells : ℕ) (t : Tree) (forms : List Form) (left : ℕ) (f : Form) (nodes : List FlatNode) (p : Subtree) (later : List FlatNode) → part_number p ≡ left → f ≡ part_form p → nodes ≡ flat_map (subtree_flat_nodes cells) (part_parts p) ++ later → ((new : List FlatNode) → new ≡ subtree_flat_nodes cells p ++ later → IsEmitted cells t (take left forms) new) → symbolic_size (symbolic_of cells p.number p.tree) + length later ≤ symbolic_size (symbolic_of cells 0 t) → Emits cells t forms left f nodes
emits_at cells t forms left f nodes p later n form parts next fits = record {
  tree = p.tree;
  later = later;
  form = form ∙ ap (λ (m : ℕ). first_form m p.tree) n;
  parts = parts ∙ ap (λ (m : ℕ). flat_map (subtree_flat_nodes cells) (child_subtrees m p.tree) ++ later) n;
  next = λ new e. next new (e ∙ ap (λ (m : ℕ). flat_nodes (symbolic_of cells m p.tree) ++ later) (sym n));
  fits = let s = ap (λ (m : ℕ). symbolic_size (symbolic_of cells m p.tree)) n in omega arith;
}

pub emit_step : (cells : ℕ) (t : Tree) (forms : List Form) (more left : ℕ) (f : Form) (nodes : List FlatNode) → left < length forms → more ≡ left + 1 → f ≡ get_or forms left f → IsEmitted cells t (take more forms) nodes → Emits cells t forms left f nodes
emit_step cells t forms more left f nodes within e read emitted =
    let le : left ≤ length forms = omega arith in
    let long : length (take left forms) ≡ left = length-take-le left forms le in
    let popped : take more forms ≡ take left forms ++ f ∷ [] = ap (λ (k : ℕ). take k forms) e ∙ take_more forms left f within ∙ ap (λ (g : Form). take left forms ++ g ∷ []) (sym read) in
    let b = back_step part_parts part_forms part_form (subtree_flat_nodes cells) forms-split (subtree 0 t ∷ []) [] (take more forms) (take left forms) f nodes popped emitted in
    let row = row-behind part_parts part_number part_size parts_follow (length (take left forms)) (subtree 0 t ∷ []) (refl, tt) in
    let here = subst (IsRow part_number part_size (length (take left forms))) b.here row in
    let fits = b.fits (parts_no_longer cells) in
    let sized = length-flat_nodes (symbolic_of cells b.tree.number b.tree.tree) in
    let whole = length-flat_nodes (symbolic_of cells 0 t) in
    let one = ap length (append-nil (subtree_flat_nodes cells (subtree 0 t))) in
    emits_at cells t forms left f nodes b.tree b.later (here.0 ∙ long) b.node b.parts_made b.next (omega arith)

pub emit_end : (cells : ℕ) (t : Tree) (front : List Form) (nodes : List FlatNode) → front ≡ [] → IsEmitted cells t front nodes → nodes ≡ flat_nodes (symbolic_of cells 0 t)
emit_end cells t front nodes none emitted =
    back_end part_parts part_forms (subtree_flat_nodes cells) (subtree 0 t ∷ []) [] front nodes none emitted
    ∙ append-nil (flat_map (subtree_flat_nodes cells) (subtree 0 t ∷ []))
    ∙ append-nil (subtree_flat_nodes cells (subtree 0 t))
