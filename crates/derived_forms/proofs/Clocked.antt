-- Symbolic agents on a clock, and the lists of their nodes.
use Rattle.std.proofs.Common.{◌≡◌, ℕ, ◌+◌, ◌≤◌, List, [], ◌∷◌, ◌++◌, length, refl, ap, sym, ◌∙◌, arith}
use Rattle.std.specs.Prelude.{◌≢◌}
use Rattle.std.specs.List.{flat_map}
use Rattle.std.proofs.lemmas.List.{append-nil, length-append}
use Rattle.agent_core.specs.Agents.{Constraint}
use Rattle.expansion_laws.specs.SymbolicAgents.{SymbolicAgent, Skip, Tell, Then, Else, Par, New, Hence, Next, symbolic_size}
use Rattle.expansion_laws.specs.Table.{when, clocked}
use Rattle.derived_forms.specs.declared.flat_node.FlatNode.{FlatNode}
use Rattle.derived_forms.specs.declared.flat_node.FlatNode.TheVariants as flat_node
use Rattle.derived_forms.specs.FlatNodes.{first_flat_node, symbolic_parts, flat_nodes}
use Rattle.derived_forms.proofs.FlatLists.{length-flat_nodes}

-- the nodes of a symbolic agent on the clock
abbrev pub on_clock : ℕ → Constraint → SymbolicAgent → List FlatNode
on_clock k c d = flat_nodes (clocked k c d)

one_part : (p : FlatNode) (l : List FlatNode) → p ∷ l ≡ p ∷ (l ++ [])
one_part p l = ap (λ m. p ∷ m) (sym (append-nil l))

-- Of a form that leaves nothing for later, the parts alone are put on the clock.
pub clocked_other : (k : ℕ) (c : Constraint) (d : SymbolicAgent) → first_flat_node d ≢ flat_node.Hence → first_flat_node d ≢ flat_node.Next → on_clock k c d ≡ first_flat_node d ∷ flat_map (on_clock k c) (symbolic_parts d)
clocked_other k c (Skip o) h n = refl
clocked_other k c (Tell o b) h n = refl
clocked_other k c (Then o b a) h n = one_part (flat_node.Then b) (on_clock k c a)
clocked_other k c (Else o b a) h n = one_part (flat_node.Else b) (on_clock k c a)
clocked_other k c (Par o a b) h n = ap (λ m. flat_node.Par ∷ (on_clock k c a ++ m)) (sym (append-nil (on_clock k c b)))
clocked_other k c (New o binder a) h n = one_part (flat_node.New binder) (on_clock k c a)
clocked_other k c (Hence o a) h n = absurd (h refl)
clocked_other k c (Next o a) h n = absurd (n refl)

-- no form is shorter than its parts together
pub parts_shorter : (k : ℕ) (c : Constraint) (d : SymbolicAgent) → length (flat_map (on_clock k c) (symbolic_parts d)) ≤ length (on_clock k c d)
parts_shorter k c (Skip o) = omega arith
parts_shorter k c (Tell o b) = omega arith
parts_shorter k c (Then o b a) = let e = ap length (append-nil (on_clock k c a)) in omega arith
parts_shorter k c (Else o b a) = let e = ap length (append-nil (on_clock k c a)) in omega arith
parts_shorter k c (Par o a b) =
    let e = ap length (append-nil (on_clock k c b)) in
    let f = length-append (on_clock k c a) (on_clock k c b ++ []) in
    let g = length-append (on_clock k c a) (on_clock k c b) in omega arith
parts_shorter k c (New o binder a) = let e = ap length (append-nil (on_clock k c a)) in omega arith
parts_shorter k c (Hence o a) = let e = ap length (append-nil (on_clock k c a)) in omega arith
parts_shorter k c (Next o a) =
    let e = ap length (append-nil (on_clock k c a)) in
    let f = length-flat_nodes (clocked k c a) in
    let g = length-flat_nodes (when k c (clocked k c a)) in omega arith

-- a node in front of its parts is not longer than its form
pub other_fits : (k : ℕ) (c : Constraint) (d : SymbolicAgent) (old rest : List FlatNode) → first_flat_node d ≢ flat_node.Hence → first_flat_node d ≢ flat_node.Next → old ≡ flat_map (on_clock k c) (symbolic_parts d) ++ rest → length old + 1 ≤ symbolic_size (clocked k c d) + length rest
other_fits k c d old rest h n e =
    let f = ap length e in
    let g = length-append (flat_map (on_clock k c) (symbolic_parts d)) rest in
    let i = ap length (clocked_other k c d h n) in
    let j = length-flat_nodes (clocked k c d) in omega arith

pub hence_fits : (k : ℕ) (c : Constraint) (d : SymbolicAgent) (old rest : List FlatNode) → flat_node.Hence ≡ first_flat_node d → old ≡ flat_map (on_clock k c) (symbolic_parts d) ++ rest → length old + 2 ≤ symbolic_size (clocked k c d) + length rest
hence_fits k c (Skip o) old rest h e = cc
hence_fits k c (Tell o b) old rest h e = cc
hence_fits k c (Then o b a) old rest h e = cc
hence_fits k c (Else o b a) old rest h e = cc
hence_fits k c (Par o a b) old rest h e = cc
hence_fits k c (New o binder a) old rest h e = cc
hence_fits k c (Next o a) old rest h e = cc
hence_fits k c (Hence o a) old rest h e =
    let f = ap length e in
    let g = length-append (on_clock k c a ++ []) rest in
    let i = ap length (append-nil (on_clock k c a)) in
    let j = length-flat_nodes (clocked k c a) in omega arith

pub next_fits : (k : ℕ) (c : Constraint) (d : SymbolicAgent) (old new rest : List FlatNode) → flat_node.Next ≡ first_flat_node d → old ≡ flat_map (on_clock k c) (symbolic_parts d) ++ rest → ((a : SymbolicAgent) (rest : List FlatNode) → old ≡ flat_nodes a ++ rest → new ≡ flat_nodes (when k c a) ++ rest) → length new + 1 ≤ symbolic_size (clocked k c d) + length rest
next_fits k c (Skip o) old new rest h e emitted = cc
next_fits k c (Tell o b) old new rest h e emitted = cc
next_fits k c (Then o b a) old new rest h e emitted = cc
next_fits k c (Else o b a) old new rest h e emitted = cc
next_fits k c (Par o a b) old new rest h e emitted = cc
next_fits k c (New o binder a) old new rest h e emitted = cc
next_fits k c (Hence o a) old new rest h e emitted = cc
next_fits k c (Next o a) old new rest h e emitted =
    let f = ap length (emitted (clocked k c a) rest (e ∙ ap (λ (l : List FlatNode). l ++ rest) (append-nil (on_clock k c a)))) in
    let g = length-append (flat_nodes (when k c (clocked k c a))) rest in
    let i = length-flat_nodes (when k c (clocked k c a)) in omega arith
