-- Symbolic agents and the lists of their nodes.
use Rattle.std.proofs.Common.{◌≡◌, ℕ, suc, ◌+◌, ◌≤◌, List, [], ◌∷◌, ◌++◌, length, refl, ap, sym, ◌∙◌, arith}
use Rattle.std.specs.List.{flat_map}
use Rattle.std.proofs.lemmas.List.{append-nil, length-append}
use Rattle.std.proofs.lemmas.List.Concat.{flat_map-append}
use Rattle.expansion_laws.specs.SymbolicAgents.{SymbolicAgent, Skip, Tell, Then, Else, Par, New, Hence, Next, symbolic_size}
use Rattle.expansion_laws.specs.Table.{guarded}
use Rattle.derived_forms.specs.declared.flat_node.FlatNode.{FlatNode}
use Rattle.derived_forms.specs.declared.flat_node.FlatNode.TheVariants as flat_node
use Rattle.derived_forms.specs.FlatNodes.{first_flat_node, symbolic_parts, flat_nodes, guarded_flat_nodes, part_count}
use Rattle.derived_forms.proofs.Forests.{Splits}

-- a node and the nodes of its one part
one_part : (p : FlatNode) (l : List FlatNode) → p ∷ l ≡ p ∷ (l ++ [])
one_part p l = ap (λ m. p ∷ m) (sym (append-nil l))

-- The nodes of a symbolic agent are its first one and those of its parts.
pub flat_nodes-split : Splits symbolic_parts flat_nodes first_flat_node
flat_nodes-split (Skip o) = refl
flat_nodes-split (Tell o c) = refl
flat_nodes-split (Then o c a) = one_part (flat_node.Then c) (flat_nodes a)
flat_nodes-split (Else o c a) = one_part (flat_node.Else c) (flat_nodes a)
flat_nodes-split (Par o a b) = ap (λ m. flat_node.Par ∷ (flat_nodes a ++ m)) (sym (append-nil (flat_nodes b)))
flat_nodes-split (New o binder a) = one_part (flat_node.New binder) (flat_nodes a)
flat_nodes-split (Hence o a) = one_part flat_node.Hence (flat_nodes a)
flat_nodes-split (Next o a) = one_part flat_node.Next (flat_nodes a)

pub length-flat_nodes : (d : SymbolicAgent) → length (flat_nodes d) ≡ symbolic_size d
length-flat_nodes (Skip o) = refl
length-flat_nodes (Tell o c) = refl
length-flat_nodes (Then o c a) = ap suc (length-flat_nodes a)
length-flat_nodes (Else o c a) = ap suc (length-flat_nodes a)
length-flat_nodes (Par o a b) = let e = length-append (flat_nodes a) (flat_nodes b) in let l = length-flat_nodes a in let r = length-flat_nodes b in omega arith
length-flat_nodes (New o binder a) = ap suc (length-flat_nodes a)
length-flat_nodes (Hence o a) = ap suc (length-flat_nodes a)
length-flat_nodes (Next o a) = ap suc (length-flat_nodes a)

-- so many parts
pub length-parts : (d : SymbolicAgent) → length (symbolic_parts d) ≡ part_count (first_flat_node d)
length-parts (Skip o) = refl
length-parts (Tell o c) = refl
length-parts (Then o c a) = refl
length-parts (Else o c a) = refl
length-parts (Par o a b) = refl
length-parts (New o binder a) = refl
length-parts (Hence o a) = refl
length-parts (Next o a) = refl

-- The nodes of a guarded symbolic agent are guarded one by one.
pub flat_nodes-guarded : (k : ℕ) (d : SymbolicAgent) → flat_nodes (guarded k d) ≡ flat_map (guarded_flat_nodes k) (flat_nodes d)
flat_nodes-guarded k (Skip o) = refl
flat_nodes-guarded k (Tell o c) = refl
flat_nodes-guarded k (Then o c a) = ap (λ l. flat_node.Then c ∷ l) (flat_nodes-guarded k a)
flat_nodes-guarded k (Else o c a) = ap (λ l. flat_node.Else c ∷ l) (flat_nodes-guarded k a)
flat_nodes-guarded k (Par o a b) =
    ap (λ l. flat_node.Par ∷ (l ++ flat_nodes (guarded k b))) (flat_nodes-guarded k a)
    ∙ ap (λ l. flat_node.Par ∷ (flat_map (guarded_flat_nodes k) (flat_nodes a) ++ l)) (flat_nodes-guarded k b)
    ∙ ap (λ l. flat_node.Par ∷ l) (sym (flat_map-append (guarded_flat_nodes k) (flat_nodes a) (flat_nodes b)))
flat_nodes-guarded k (New o binder a) = ap (λ l. flat_node.New binder ∷ l) (flat_nodes-guarded k a)
flat_nodes-guarded k (Hence o a) = ap (λ l. flat_node.Hence ∷ l) (flat_nodes-guarded k a)
flat_nodes-guarded k (Next o a) = ap (λ l. flat_node.Next ∷ l) (flat_nodes-guarded k a)

-- what is guarded so far, and what is to be guarded, is no longer than the guarded symbolic agent
pub guard_fits : (k : ℕ) (a : SymbolicAgent) (rest nodes less body body0 nodes0 : List FlatNode) (p : FlatNode) → body ≡ less ++ p ∷ [] → flat_map (guarded_flat_nodes k) body ++ nodes ≡ flat_map (guarded_flat_nodes k) body0 ++ nodes0 → body0 ≡ flat_nodes a → nodes0 ≡ rest → length (guarded_flat_nodes k p) + length nodes ≤ symbolic_size (guarded k a) + length rest
guard_fits k a rest nodes less body body0 nodes0 p popped put first_flat_node behind =
    let e = ap length put in
    let f = length-append (flat_map (guarded_flat_nodes k) body) nodes in
    let g = length-append (flat_map (guarded_flat_nodes k) body0) nodes0 in
    let h = ap (λ (l : List FlatNode). length (flat_map (guarded_flat_nodes k) l)) popped in
    let i = ap length (flat_map-append (guarded_flat_nodes k) less (p ∷ [])) in
    let j = length-append (flat_map (guarded_flat_nodes k) less) (guarded_flat_nodes k p ++ []) in
    let m = length-append (guarded_flat_nodes k p) [] in
    let n = ap (λ (l : List FlatNode). length (flat_map (guarded_flat_nodes k) l)) first_flat_node in
    let o = ap length (flat_nodes-guarded k a) in
    let q = length-flat_nodes (guarded k a) in
    let r = ap length behind in omega arith
