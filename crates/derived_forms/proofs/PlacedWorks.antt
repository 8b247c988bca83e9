-- Symbolic agents that get their cells node by node.
use Rattle.std.proofs.Common.{◌≡◌, ℕ, suc, ◌+◌, ◌≤◌, List, [], ◌∷◌, ◌++◌, length, refl, ap, sym, ◌∙◌, subst, arith}
use Rattle.std.specs.Prelude.{map, option_to_list, reverse}
use Rattle.std.specs.List.{flat_map}
use Rattle.std.proofs.lemmas.List.{append-nil, append_assoc, length-append, map-append}
use Rattle.std.proofs.lemmas.List.Concat.{flat_map-append}
use Rattle.agent_core.specs.Agents.{Constraint}
use Rattle.expansion_laws.specs.Numbering.{Binding, bound_agent, bound_constraint, binding}
use Rattle.expansion_laws.specs.SymbolicAgents.{SymbolicAgent, Skip, Tell, Then, Else, Par, New, Hence, Next, binders}
use Rattle.derived_forms.specs.declared.flat_node.FlatNode.{FlatNode}
use Rattle.derived_forms.specs.declared.flat_node.FlatNode.TheVariants as flat_node
use Rattle.derived_forms.specs.declared.placing.Scope.{Scope}
use Rattle.derived_forms.specs.Numbered.{agent_flat_nodes, agent_first_flat_node}
use Rattle.derived_forms.specs.FlatNodes.{first_flat_node, binder_of, symbolic_parts, flat_nodes}
use Rattle.derived_forms.specs.Placing.{AreScopes, KeepsScopes, Work, part_works, placed_agent, scope_of, work, works_of}
use Rattle.derived_forms.proofs.Forests.{Follows, IsRow, Splits, first_tree, none_behind, row-parts}

-- the nodes of a work without cells and with them, its scope, its first cell and how many cells it has
abbrev pub work_flat_nodes : Work → List FlatNode
work_flat_nodes w = flat_nodes w.symbolic

abbrev pub work_flat_node : Work → FlatNode
work_flat_node w = first_flat_node w.symbolic

abbrev pub placed_flat_nodes : Work → List FlatNode
placed_flat_nodes w = agent_flat_nodes (placed_agent w)

abbrev pub work_scope : Work → List Binding
work_scope w = w.scope

abbrev pub work_next : Work → ℕ
work_next w = w.next

abbrev pub work_cells : Work → ℕ
work_cells w = length (binders w.symbolic)

one_part : (p : FlatNode) (l : List FlatNode) → p ∷ l ≡ p ∷ (l ++ [])
one_part p l = ap (λ m. p ∷ m) (sym (append-nil l))

works-split : (s : List Binding) (n : ℕ) (d : SymbolicAgent) → flat_nodes d ≡ first_flat_node d ∷ flat_map work_flat_nodes (works_of s n d)
works-split s n (Skip o) = refl
works-split s n (Tell o c) = refl
works-split s n (Then o c a) = one_part (flat_node.Then c) (flat_nodes a)
works-split s n (Else o c a) = one_part (flat_node.Else c) (flat_nodes a)
works-split s n (Par o a b) = ap (λ m. flat_node.Par ∷ (flat_nodes a ++ m)) (sym (append-nil (flat_nodes b)))
works-split s n (New o binder a) = one_part (flat_node.New binder) (flat_nodes a)
works-split s n (Hence o a) = one_part flat_node.Hence (flat_nodes a)
works-split s n (Next o a) = one_part flat_node.Next (flat_nodes a)

flat_nodes-split : Splits part_works work_flat_nodes work_flat_node
flat_nodes-split w = works-split w.scope w.next w.symbolic

agents-split : (s : List Binding) (n : ℕ) (d : SymbolicAgent) → agent_flat_nodes (bound_agent s n d) ≡ agent_first_flat_node (bound_agent s n d) ∷ flat_map placed_flat_nodes (works_of s n d)
agents-split s n (Skip o) = refl
agents-split s n (Tell o c) = refl
agents-split s n (Then o c a) = one_part (flat_node.Then (bound_constraint s c)) (agent_flat_nodes (bound_agent s n a))
agents-split s n (Else o c a) = one_part (flat_node.Else (bound_constraint s c)) (agent_flat_nodes (bound_agent s n a))
agents-split s n (Par o a b) = ap (λ m. flat_node.Par ∷ (agent_flat_nodes (bound_agent s n a) ++ m)) (sym (append-nil (agent_flat_nodes (bound_agent s (n + length (binders a)) b))))
agents-split s n (New o binder a) = one_part (flat_node.New n) (agent_flat_nodes (bound_agent (binding binder n ∷ s) (suc n) a))
agents-split s n (Hence o a) = one_part flat_node.Hence (agent_flat_nodes (bound_agent s n a))
agents-split s n (Next o a) = one_part flat_node.Next (agent_flat_nodes (bound_agent s n a))

-- how many cells the node itself has
abbrev pub own_cells : FlatNode → ℕ
own_cells p = length (option_to_list (binder_of p))

pub own_cells_le : (p : FlatNode) → own_cells p ≤ 1
own_cells_le flat_node.Skip = omega arith
own_cells_le (flat_node.Tell c) = omega arith
own_cells_le (flat_node.Then c) = omega arith
own_cells_le (flat_node.Else c) = omega arith
own_cells_le flat_node.Par = omega arith
own_cells_le (flat_node.New binder) = omega arith
own_cells_le flat_node.Hence = omega arith
own_cells_le flat_node.Next = omega arith

works_follow : (s : List Binding) (n : ℕ) (d : SymbolicAgent) → Follows part_works work_next work_cells (work s n d) (n + own_cells (first_flat_node d))
works_follow s n (Skip o) = record { row = tt; end = omega arith }
works_follow s n (Tell o c) = record { row = tt; end = omega arith }
works_follow s n (Then o c a) = record { row = (omega arith, tt); end = omega arith }
works_follow s n (Else o c a) = record { row = (omega arith, tt); end = omega arith }
works_follow s n (Par o a b) = let e = length-append (binders a) (binders b) in record { row = (omega arith, (omega arith, tt)); end = omega arith }
works_follow s n (New o binder a) = record { row = (omega arith, tt); end = omega arith }
works_follow s n (Hence o a) = record { row = (omega arith, tt); end = omega arith }
works_follow s n (Next o a) = record { row = (omega arith, tt); end = omega arith }

pub parts_follow : (w : Work) → Follows part_works work_next work_cells w (w.next + own_cells (work_flat_node w))
parts_follow w = works_follow w.scope w.next w.symbolic

-- behind a node without parts, the scopes of the other symbolic agents are left
leaf_none : (s : List Binding) (n : ℕ) (d : SymbolicAgent) → symbolic_parts d ≡ [] → works_of s n d ≡ []
leaf_none s n (Skip o) e = refl
leaf_none s n (Tell o c) e = refl
leaf_none s n (Then o c a) e = cc
leaf_none s n (Else o c a) e = cc
leaf_none s n (Par o a b) e = cc
leaf_none s n (New o binder a) e = cc
leaf_none s n (Hence o a) e = cc
leaf_none s n (Next o a) e = cc

tell_alone : (c : Constraint) (d : SymbolicAgent) → flat_node.Tell c ≡ first_flat_node d → symbolic_parts d ≡ []
tell_alone c (Skip o) e = refl
tell_alone c (Tell o b) e = refl
tell_alone c (Then o b a) e = cc
tell_alone c (Else o b a) e = cc
tell_alone c (Par o a b) e = cc
tell_alone c (New o binder a) e = cc
tell_alone c (Hence o a) e = cc
tell_alone c (Next o a) e = cc

skip_alone : (d : SymbolicAgent) → flat_node.Skip ≡ first_flat_node d → symbolic_parts d ≡ []
skip_alone (Skip o) e = refl
skip_alone (Tell o b) e = refl
skip_alone (Then o b a) e = cc
skip_alone (Else o b a) e = cc
skip_alone (Par o a b) e = cc
skip_alone (New o binder a) e = cc
skip_alone (Hence o a) e = cc
skip_alone (Next o a) e = cc

leaf_scopes : (w : Work) (outer : List (List Binding)) (s : Scope) → symbolic_parts w.symbolic ≡ [] → AreScopes s outer → AreScopes s (map work_scope (part_works w) ++ outer)
leaf_scopes w outer s none h =
    let P : List Work → Type 0 = λ ws. AreScopes s (map work_scope ws ++ outer) in
    subst P (sym (leaf_none w.scope w.next w.symbolic none)) h

pub tell_scopes : (c : Constraint) (w : Work) (outer : List (List Binding)) (s : Scope) → flat_node.Tell c ≡ first_flat_node w.symbolic → AreScopes s outer → AreScopes s (map work_scope (part_works w) ++ outer)
tell_scopes c w outer s e h = leaf_scopes w outer s (tell_alone c w.symbolic e) h

pub skip_scopes : (w : Work) (outer : List (List Binding)) (s : Scope) → flat_node.Skip ≡ first_flat_node w.symbolic → AreScopes s outer → AreScopes s (map work_scope (part_works w) ++ outer)
skip_scopes w outer s e h = leaf_scopes w outer s (skip_alone w.symbolic e) h

-- before the first node no binder is in scope
pub no_scopes : (s : Scope) → s.placed.items ≡ [] → s.kept.items ≡ [] → AreScopes s ([] ∷ [])
no_scopes s e f =
    let P : List ℕ → Type 0 = λ kept. KeepsScopes s.placed.items (reverse kept) ([] ∷ []) in
    subst P (sym f) (sym (ap scope_of e), refl)

-- These nodes are left of these symbolic agents, what is placed stands in front of theirs, and the binders in scope and the next cell
-- are those of the first of them.
pub record IsPlaced (d : SymbolicAgent) (declared : ℕ) (left done : List FlatNode) (s : Scope) : Type 0 where
  pub works : List Work
  pub are : left ≡ flat_map work_flat_nodes works
  pub whole : done ++ flat_map placed_flat_nodes works ≡ agent_flat_nodes (bound_agent [] declared d)
  pub scopes : AreScopes s (map work_scope works)
  pub row : IsRow work_next work_cells s.next works

pub place_start : (d : SymbolicAgent) (declared : ℕ) (left : List FlatNode) (s : Scope) → left ≡ flat_nodes d → AreScopes s ([] ∷ []) → s.next ≡ declared → IsPlaced d declared left [] s
place_start d declared left s e scopes next = record {
  works = work [] declared d ∷ [];
  are = e ∙ sym (append-nil (flat_nodes d));
  whole = append-nil (agent_flat_nodes (bound_agent [] declared d));
  scopes = scopes;
  row = (sym next, tt);
}

-- the symbolic agent that is next to get its cells
pub record Places (d : SymbolicAgent) (declared : ℕ) (p : FlatNode) (left done : List FlatNode) (s : Scope) : Type 0 where
  pub next_work : Work
  pub outer : List (List Binding)
  pub node : p ≡ first_flat_node next_work.symbolic
  pub next : next_work.next ≡ s.next
  pub scopes : AreScopes s (next_work.scope ∷ outer)
  pub go_on : (q : FlatNode) (t : Scope) → q ≡ agent_first_flat_node (placed_agent next_work) → AreScopes t (map work_scope (part_works next_work) ++ outer) → t.next ≡ s.next + own_cells p → IsPlaced d declared left (done ++ q ∷ []) t

places_at : (d : SymbolicAgent) (declared : ℕ) (p : FlatNode) (left done : List FlatNode) (s : Scope) (w : Work) (others : List Work) → p ≡ work_flat_node w → left ≡ flat_map work_flat_nodes (part_works w ++ others) → done ++ flat_map placed_flat_nodes (w ∷ others) ≡ agent_flat_nodes (bound_agent [] declared d) → AreScopes s (map work_scope (w ∷ others)) → IsRow work_next work_cells s.next (w ∷ others) → Places d declared p left done s
places_at d declared p left done s w others node are whole scopes row = record {
  next_work = w;
  outer = map work_scope others;
  node = node;
  next = row.0;
  scopes = scopes;
  go_on = λ q t e h n. record {
    works = part_works w ++ others;
    are = are;
    whole =
        ap (λ (x : FlatNode). (done ++ x ∷ []) ++ flat_map placed_flat_nodes (part_works w ++ others)) e
        ∙ append_assoc done (agent_first_flat_node (placed_agent w) ∷ []) (flat_map placed_flat_nodes (part_works w ++ others))
        ∙ ap (λ (l : List FlatNode). done ++ agent_first_flat_node (placed_agent w) ∷ l) (flat_map-append placed_flat_nodes (part_works w) others)
        ∙ ap (λ (l : List FlatNode). done ++ (l ++ flat_map placed_flat_nodes others)) (sym (agents-split w.scope w.next w.symbolic))
        ∙ whole;
    scopes = subst (AreScopes t) (sym (map-append work_scope (part_works w) others)) h;
    row =
        let k : t.next ≡ w.next + own_cells (work_flat_node w) = n ∙ ap (λ (m : ℕ). m + own_cells p) (sym row.0) ∙ ap (λ (x : FlatNode). w.next + own_cells x) node in
        let P : ℕ → Type 0 = λ m. IsRow work_next work_cells m (part_works w ++ others) in
        subst P (sym k) (row-parts part_works work_next work_cells w others s.next (w.next + own_cells (work_flat_node w)) row (parts_follow w));
  };
}

pub place_step : (d : SymbolicAgent) (declared : ℕ) (p : FlatNode) (more left done : List FlatNode) (s : Scope) → more ≡ p ∷ left → IsPlaced d declared more done s → Places d declared p left done s
place_step d declared p more left done s e is =
    let f = first_tree part_works work_flat_nodes work_flat_node flat_nodes-split is.works p left (sym is.are ∙ e) in
    places_at d declared p left done s f.tree f.others f.node f.rest
    (ap (λ (ws : List Work). done ++ flat_map placed_flat_nodes ws) (sym f.are) ∙ is.whole)
    (let P : List Work → Type 0 = λ ws. AreScopes s (map work_scope ws) in subst P f.are is.scopes)
    (subst (IsRow work_next work_cells s.next) f.are is.row)

pub place_end : (d : SymbolicAgent) (declared : ℕ) (left done : List FlatNode) (s : Scope) → left ≡ [] → IsPlaced d declared left done s → done ≡ agent_flat_nodes (bound_agent [] declared d)
place_end d declared left done s none is =
    let e = none_behind part_works work_flat_nodes work_flat_node flat_nodes-split is.works (sym is.are ∙ none) in
    sym (append-nil done) ∙ ap (λ (ws : List Work). done ++ flat_map placed_flat_nodes ws) (sym e) ∙ is.whole
