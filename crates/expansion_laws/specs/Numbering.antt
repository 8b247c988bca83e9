-- The program of a symbolic agent: its nodes and its local cells are numbered in preorder, behind the declared cells.
-- A copied cell is as the surface has it; a hidden one is a signal whose name is a dollar and its number. This
-- project's own.
use Rattle.std.specs.Prelude.{ℕ, suc, ◌+◌, pos, refl, List, [], ◌∷◌, map, length, nat_eq, if◌then◌else◌, slice_get, unwrap_or, codes, ◌++◌}
use Rattle.std.specs.Fmt.{decimal}
use Rattle.token_system.specs.declared.cell.Token.{Token}
use Rattle.token_system.specs.declared.cell.Kind.TheVariants.{Signal}
use Rattle.agent_core.specs.declared.node.CellDecl.{CellDecl}
use Rattle.agent_core.specs.Agents.{Agent, Constraint}
use Rattle.agent_core.specs.Agents as agent
use Rattle.expansion_laws.specs.SymbolicAgents.{SymbolicAgent, Skip, Tell, Then, Else, Par, New, Hence, Next, binders}

-- a binder, and the number of the cell that it is to have
pub record Binding : Type 0 where
  pub binder : ℕ
  pub cell : ℕ

abbrev pub binding : ℕ → ℕ → Binding
binding m n = record { binder = m; cell = n }

-- the cell of a binder, the newest first; a declared cell is its own binder
abbrev pub bound_cell : List Binding → ℕ → ℕ
bound_cell [] binder = binder
bound_cell (p ∷ ps) binder = if nat_eq p.binder binder then p.cell else bound_cell ps binder

-- the constraint by its cells
abbrev pub bound_constraint : List Binding → Constraint → Constraint
bound_constraint scope ask = map (λ (pair : ℕ × Token). (bound_cell scope pair.0, pair.1)) ask

-- the agent of a symbolic agent under these cells, where so many cells stand before its own
abbrev pub bound_agent : List Binding → ℕ → SymbolicAgent → Agent
bound_agent scope n (Skip o) = agent.Skip
bound_agent scope n (Tell o c) = agent.Tell (bound_constraint scope c)
bound_agent scope n (Then o c a) = agent.Then (bound_constraint scope c) (bound_agent scope n a)
bound_agent scope n (Else o c a) = agent.Else (bound_constraint scope c) (bound_agent scope n a)
bound_agent scope n (Par o a b) = agent.Par (bound_agent scope n a) (bound_agent scope (n + length (binders a)) b)
bound_agent scope n (New o binder a) = agent.New n (bound_agent (binding binder n ∷ scope) (suc n) a)
bound_agent scope n (Hence o a) = agent.Hence (bound_agent scope n a)
bound_agent scope n (Next o a) = agent.Next (bound_agent scope n a)

-- the hidden signal with this number
abbrev pub hidden : ℕ → CellDecl
hidden n = record {
  name = codes "$" ++ decimal n;
  cell = record { kind = Signal; lo = pos 0; hi = pos 0; lawful = refl };
}

-- the cells with these binders, numbered from n on
abbrev pub cells_from : List CellDecl → ℕ → List ℕ → List CellDecl
cells_from cells n [] = []
cells_from cells n (binder ∷ binders) = unwrap_or (slice_get cells binder) (hidden n) ∷ cells_from cells (suc n) binders
