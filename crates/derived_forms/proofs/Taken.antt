-- The first symbolic agent, taken off node by node.
use Rattle.std.proofs.Common.{◌≡◌, ℕ, ◌+◌, ◌-◌, ◌≤◌, List, [], ◌∷◌, ◌++◌, length, refl, ap, sym, ◌∙◌, arith}
use Rattle.std.specs.List.{flat_map}
use Rattle.std.proofs.lemmas.List.{append-nil, append_cancel_right, length-append}
use Rattle.std.proofs.lemmas.List.Concat.{flat_map-append}
use Rattle.expansion_laws.specs.SymbolicAgents.{SymbolicAgent}
use Rattle.derived_forms.specs.declared.flat_node.FlatNode.{FlatNode}
use Rattle.derived_forms.specs.declared.flat_node.FlatNode.TheVariants as flat_node
use Rattle.derived_forms.specs.FlatNodes.{first_flat_node, symbolic_parts, flat_nodes, part_count}
use Rattle.derived_forms.proofs.FlatLists.{flat_nodes-split, length-parts}

pub part_count_le : (p : FlatNode) → part_count p ≤ 2
part_count_le flat_node.Skip = omega arith
part_count_le (flat_node.Tell c) = omega arith
part_count_le (flat_node.Then c) = omega arith
part_count_le (flat_node.Else c) = omega arith
part_count_le flat_node.Par = omega arith
part_count_le (flat_node.New binder) = omega arith
part_count_le flat_node.Hence = omega arith
part_count_le flat_node.Next = omega arith

-- these symbolic agents and the rest are left
pub record Left (nodes rest : List FlatNode) (count : ℕ) : Type 0 where
  pub symbolics : List SymbolicAgent
  pub are : nodes ≡ flat_map flat_nodes symbolics ++ rest
  pub many : count ≡ length symbolics

pub one_left : (nodes rest : List FlatNode) (a : SymbolicAgent) → nodes ≡ flat_nodes a ++ rest → Left nodes rest 1
one_left nodes rest a e = record { symbolics = a ∷ []; are = e ∙ ap (λ (l : List FlatNode). l ++ rest) (sym (append-nil (flat_nodes a))); many = refl }

-- Behind the first node of these symbolic agents stand its parts and the other symbolic agents.
left_behind : (p : FlatNode) (nodes rest : List FlatNode) (ds : List SymbolicAgent) → p ∷ nodes ≡ flat_map flat_nodes ds ++ rest → 1 ≤ length ds → Left nodes rest ((length ds - 1) + part_count p)
left_behind p nodes rest [] e some = absurd (omega arith)
left_behind p nodes rest (d ∷ ds) e some =
    let s : p ∷ nodes ≡ ((first_flat_node d ∷ flat_map flat_nodes (symbolic_parts d)) ++ flat_map flat_nodes ds) ++ rest = e ∙ ap (λ (l : List FlatNode). (l ++ flat_map flat_nodes ds) ++ rest) (flat_nodes-split d) in
    let node : p ≡ first_flat_node d = cc in
    let behind : nodes ≡ (flat_map flat_nodes (symbolic_parts d) ++ flat_map flat_nodes ds) ++ rest = cc in
    let a = length-append (symbolic_parts d) ds in
    let l = length-parts d in
    let n = ap part_count node in
    record {
      symbolics = symbolic_parts d ++ ds;
      are = behind ∙ ap (λ (l : List FlatNode). l ++ rest) (sym (flat_map-append flat_nodes (symbolic_parts d) ds));
      many = omega arith;
    }

pub still_left : (p : FlatNode) (nodes more rest : List FlatNode) (count : ℕ) → more ≡ p ∷ nodes → Left more rest count → 1 ≤ count → Left nodes rest ((count - 1) + part_count p)
still_left p nodes more rest count e l some =
    let m = l.many in
    let n : 1 ≤ length l.symbolics = omega arith in
    let b = left_behind p nodes rest l.symbolics (sym e ∙ l.are) n in
    let k = b.many in
    record { symbolics = b.symbolics; are = b.are; many = omega arith }

-- Where no symbolic agent is left, the first one was taken whole.
pub all_taken : (body nodes all rest : List FlatNode) (a : SymbolicAgent) (count : ℕ) → body ++ nodes ≡ all → all ≡ flat_nodes a ++ rest → Left nodes rest count → count ≡ 0 → (body ≡ flat_nodes a) × (nodes ≡ rest)
all_taken body nodes all rest a count e whole l none = taken l.symbolics l.are (sym l.many ∙ none)
  where
    taken : (ds : List SymbolicAgent) → nodes ≡ flat_map flat_nodes ds ++ rest → length ds ≡ 0 → (body ≡ flat_nodes a) × (nodes ≡ rest)
    taken [] f z = (append_cancel_right body (flat_nodes a) rest (ap (λ (l : List FlatNode). body ++ l) (sym f) ∙ e ∙ whole), f)
    taken (d ∷ ds) f z = absurd (omega arith)
