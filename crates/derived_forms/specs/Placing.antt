-- Symbolic agents that are still to get their cells, and the binders that are in scope for each. This project's own.
use Rattle.std.specs.Prelude.{◌≡◌, ℕ, suc, ◌+◌, ◌≤◌, List, [], ◌∷◌, length, map, reverse, take}
use Rattle.agent_core.specs.Agents.{Agent}
use Rattle.expansion_laws.specs.Numbering.{Binding, bound_agent, binding}
use Rattle.expansion_laws.specs.SymbolicAgents.{SymbolicAgent, Skip, Tell, Then, Else, Par, New, Hence, Next, binders}
use Rattle.derived_forms.specs.declared.placing.Binding as code
use Rattle.derived_forms.specs.declared.placing.Scope.{Scope}

-- the binders in scope, the newest first
abbrev pub binding_of : code.Binding → Binding
binding_of one = binding one.binder one.cell

abbrev pub scope_of : List code.Binding → List Binding
scope_of ones = reverse (map binding_of ones)

-- these are the scopes of the symbolic agents to come, if so many binders are kept for each behind the first
abbrev pub KeepsScopes : List code.Binding → List ℕ → List (List Binding) → Type 0
KeepsScopes ones kept [] = Unit {0}
KeepsScopes ones [] (scope ∷ outer) = (scope ≡ scope_of ones) × (outer ≡ [])
KeepsScopes ones (count ∷ kept) (scope ∷ outer) =
    (scope ≡ scope_of ones) × (count ≤ length ones) × KeepsScopes (take count ones) kept outer

abbrev pub AreScopes : Scope → List (List Binding) → Type 0
AreScopes s scopes = KeepsScopes s.placed.items (reverse s.kept.items) scopes

-- a symbolic agent, the binders in scope for it, and the number of its first cell
pub record Work : Type 0 where
  pub scope : List Binding
  pub next : ℕ
  pub symbolic : SymbolicAgent

abbrev pub work : List Binding → ℕ → SymbolicAgent → Work
work scope next symbolic = record { scope = scope; next = next; symbolic = symbolic }

-- its agent
abbrev pub placed_agent : Work → Agent
placed_agent w = bound_agent w.scope w.next w.symbolic

-- its parts
abbrev pub works_of : List Binding → ℕ → SymbolicAgent → List Work
works_of scope n (Skip o) = []
works_of scope n (Tell o c) = []
works_of scope n (Then o c a) = work scope n a ∷ []
works_of scope n (Else o c a) = work scope n a ∷ []
works_of scope n (Par o a b) = work scope n a ∷ work scope (n + length (binders a)) b ∷ []
works_of scope n (New o binder a) = work (binding binder n ∷ scope) (suc n) a ∷ []
works_of scope n (Hence o a) = work scope n a ∷ []
works_of scope n (Next o a) = work scope n a ∷ []

abbrev pub part_works : Work → List Work
part_works w = works_of w.scope w.next w.symbolic
