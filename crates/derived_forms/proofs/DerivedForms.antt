-- The symbolic agents that derived forms are built of, node by node.
use Rattle.std.proofs.Common.{◌≡◌, ℕ, List, [], ◌∷◌, ◌++◌, None, ap, sym, ◌∙◌}
use Rattle.std.proofs.lemmas.List.{append_assoc}
use Rattle.agent_core.specs.Agents.{Constraint}
use Rattle.expansion_laws.specs.SymbolicAgents.{SymbolicAgent, Tell, Then, Else, Par, New, Hence}
use Rattle.expansion_laws.specs.Table.{signal_on, always}
use Rattle.derived_forms.specs.declared.flat_node.FlatNode.{FlatNode}
use Rattle.derived_forms.specs.declared.flat_node.FlatNode.TheVariants as flat_node
use Rattle.derived_forms.specs.FlatNodes.{flat_nodes}

-- once the constraint holds, the agent is started where d is not on, and d is on from the next instant on
abbrev pub starting : ℕ → Constraint → SymbolicAgent → SymbolicAgent
starting d c a = Then None c (Par None (Else None (signal_on d) a) (Hence None (Tell None (signal_on d))))

-- once the constraint holds, k is on from now on
abbrev pub stopping : ℕ → Constraint → SymbolicAgent
stopping k c = Then None c (Par None (Tell None (signal_on k)) (Hence None (Tell None (signal_on k))))

pub starting_built : (d : ℕ) (c : Constraint) (a : SymbolicAgent) (rest body old new : List FlatNode) → body ≡ flat_nodes a → old ≡ rest → new ≡ flat_node.Then c ∷ flat_node.Par ∷ flat_node.Else (signal_on d) ∷ (body ++ (flat_node.Hence ∷ flat_node.Tell (signal_on d) ∷ old)) → new ≡ flat_nodes (starting d c a) ++ rest
starting_built d c a rest body old new first behind built =
    built
    ∙ ap (λ (l : List FlatNode). flat_node.Then c ∷ flat_node.Par ∷ flat_node.Else (signal_on d) ∷ (l ++ (flat_node.Hence ∷ flat_node.Tell (signal_on d) ∷ old))) first
    ∙ ap (λ (l : List FlatNode). flat_node.Then c ∷ flat_node.Par ∷ flat_node.Else (signal_on d) ∷ (flat_nodes a ++ (flat_node.Hence ∷ flat_node.Tell (signal_on d) ∷ l))) behind
    ∙ ap (λ (l : List FlatNode). flat_node.Then c ∷ flat_node.Par ∷ flat_node.Else (signal_on d) ∷ l) (sym (append_assoc (flat_nodes a) (flat_node.Hence ∷ flat_node.Tell (signal_on d) ∷ []) rest))

pub stopping_built : (k : ℕ) (c : Constraint) (b : SymbolicAgent) (rest old new : List FlatNode) → old ≡ flat_nodes b ++ rest → new ≡ flat_node.Then c ∷ flat_node.Par ∷ flat_node.Tell (signal_on k) ∷ flat_node.Hence ∷ flat_node.Tell (signal_on k) ∷ old → new ≡ flat_nodes (stopping k c) ++ (flat_nodes b ++ rest)
stopping_built k c b rest old new e built = built ∙ ap (λ (l : List FlatNode). flat_node.Then c ∷ flat_node.Par ∷ flat_node.Tell (signal_on k) ∷ flat_node.Hence ∷ flat_node.Tell (signal_on k) ∷ l) e

-- a watching of a guarded symbolic agent b
pub watching_built : (k : ℕ) (c : Constraint) (b : SymbolicAgent) (rest old : List FlatNode) → old ≡ flat_nodes (always (stopping k c)) ++ (flat_nodes b ++ rest) → flat_node.New k ∷ flat_node.Par ∷ old ≡ flat_nodes (New None k (Par None (always (stopping k c)) b)) ++ rest
watching_built k c b rest old e = ap (λ (l : List FlatNode). flat_node.New k ∷ flat_node.Par ∷ l) (e ∙ sym (append_assoc (flat_nodes (always (stopping k c))) (flat_nodes b) rest))
