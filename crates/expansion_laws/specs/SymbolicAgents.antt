-- Symbolic agents: agents in the making. Each node has the form of the surface that it copies, or none where an
-- expansion adds it; and a new has a binder for its cell, which says what the cell stands for. Several news may have
-- one binder: the nearest one around a token is meant. This project's own.
use Rattle.std.specs.Prelude.{ℕ, suc, ◌+◌, List, [], ◌∷◌, ◌++◌, Option}
use Rattle.agent_core.specs.Agents.{Constraint}

pub data SymbolicAgent : Type 0 where
  Skip : (origin : Option ℕ) → SymbolicAgent
  Tell : (origin : Option ℕ) → (ask : Constraint) → SymbolicAgent
  Then : (origin : Option ℕ) → (ask : Constraint) → (body : SymbolicAgent) → SymbolicAgent
  Else : (origin : Option ℕ) → (ask : Constraint) → (body : SymbolicAgent) → SymbolicAgent
  Par : (origin : Option ℕ) → (left right : SymbolicAgent) → SymbolicAgent
  New : (origin : Option ℕ) → (binder : ℕ) → (body : SymbolicAgent) → SymbolicAgent
  Hence : (origin : Option ℕ) → (body : SymbolicAgent) → SymbolicAgent
  Next : (origin : Option ℕ) → (body : SymbolicAgent) → SymbolicAgent

-- how many nodes a symbolic agent has
abbrev pub symbolic_size : SymbolicAgent → ℕ
symbolic_size (Skip o) = 1
symbolic_size (Tell o ask) = 1
symbolic_size (Then o ask a) = suc (symbolic_size a)
symbolic_size (Else o ask a) = suc (symbolic_size a)
symbolic_size (Par o a b) = suc (symbolic_size a + symbolic_size b)
symbolic_size (New o binder a) = suc (symbolic_size a)
symbolic_size (Hence o a) = suc (symbolic_size a)
symbolic_size (Next o a) = suc (symbolic_size a)

-- the origins of the nodes, in preorder
abbrev pub origins : SymbolicAgent → List (Option ℕ)
origins (Skip o) = o ∷ []
origins (Tell o ask) = o ∷ []
origins (Then o ask a) = o ∷ origins a
origins (Else o ask a) = o ∷ origins a
origins (Par o a b) = o ∷ (origins a ++ origins b)
origins (New o binder a) = o ∷ origins a
origins (Hence o a) = o ∷ origins a
origins (Next o a) = o ∷ origins a

-- the binders of the news, in preorder
abbrev pub binders : SymbolicAgent → List ℕ
binders (Skip o) = []
binders (Tell o ask) = []
binders (Then o ask a) = binders a
binders (Else o ask a) = binders a
binders (Par o a b) = binders a ++ binders b
binders (New o binder a) = binder ∷ binders a
binders (Hence o a) = binders a
binders (Next o a) = binders a
