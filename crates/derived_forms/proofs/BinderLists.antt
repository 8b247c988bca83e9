-- The binders of a symbolic agent are those of its nodes.
use Rattle.std.proofs.Common.{◌≡◌, ℕ, List, ◌∷◌, ◌++◌, refl, ap, ◌∙◌}
use Rattle.std.specs.Prelude.{filter_map}
use Rattle.std.proofs.lemmas.List.Elements.{filter_map-append}
use Rattle.expansion_laws.specs.SymbolicAgents.{SymbolicAgent, Skip, Tell, Then, Else, Par, New, Hence, Next, binders}
use Rattle.derived_forms.specs.FlatNodes.{flat_nodes, binder_of}

pub binders-flat_nodes : (d : SymbolicAgent) → filter_map binder_of (flat_nodes d) ≡ binders d
binders-flat_nodes (Skip o) = refl
binders-flat_nodes (Tell o c) = refl
binders-flat_nodes (Then o c a) = binders-flat_nodes a
binders-flat_nodes (Else o c a) = binders-flat_nodes a
binders-flat_nodes (Par o a b) =
    filter_map-append binder_of (flat_nodes a) (flat_nodes b)
    ∙ ap (λ (l : List ℕ). l ++ filter_map binder_of (flat_nodes b)) (binders-flat_nodes a)
    ∙ ap (λ (l : List ℕ). binders a ++ l) (binders-flat_nodes b)
binders-flat_nodes (New o binder a) = ap (λ (l : List ℕ). binder ∷ l) (binders-flat_nodes a)
binders-flat_nodes (Hence o a) = binders-flat_nodes a
binders-flat_nodes (Next o a) = binders-flat_nodes a
