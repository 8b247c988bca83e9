-- Where the nodes and the cells of a core program come from. This project's own.
use Rattle.std.specs.Prelude.{◌≡◌, ◌⊎◌, ℕ, suc, ◌+◌, ◌<◌, List, [], ◌∷◌, ◌++◌, map, Some, All, slice_get, unwrap_or}
use Rattle.token_system.specs.declared.cell.Token.{Token}
use Rattle.agent_core.specs.declared.node.Node.TheVariants as nodes
use Rattle.agent_core.specs.Agents.{Constraint, agent_at}
use Rattle.agent_core.specs.Programs.{CoreProgram}
use Rattle.agent_core.specs.Listing as core
use Rattle.agent_core.specs.WellFormed.{count_up}
use Rattle.tdcc_reader.specs.Surfaces.{SurfaceProgram}
use Rattle.tdcc_reader.specs.Trees.{Tree, Skip, Tell, Then, Else, Par, New, Hence, Next, Always, When, Watch, Time, form_count}
use Rattle.expansion_laws.specs.SymbolicAgents.{SymbolicAgent, binders}

-- a form of a tree: its number, and the tree that begins there
pub record Subtree : Type 0 where
  pub number : ℕ
  pub tree : Tree

abbrev pub subtree : ℕ → Tree → Subtree
subtree n t = record { number = n; tree = t }

-- the forms of a tree whose root has number n
abbrev pub subtrees : ℕ → Tree → List Subtree
subtrees n Skip = subtree n Skip ∷ []
subtrees n (Tell c) = subtree n (Tell c) ∷ []
subtrees n (Then c a) = subtree n (Then c a) ∷ subtrees (suc n) a
subtrees n (Else c a) = subtree n (Else c a) ∷ subtrees (suc n) a
subtrees n (Par l r) = subtree n (Par l r) ∷ (subtrees (suc n) l ++ subtrees (suc n + form_count l) r)
subtrees n (New cell a) = subtree n (New cell a) ∷ subtrees (suc n) a
subtrees n (Hence a) = subtree n (Hence a) ∷ subtrees (suc n) a
subtrees n (Next a) = subtree n (Next a) ∷ subtrees (suc n) a
subtrees n (Always a) = subtree n (Always a) ∷ subtrees (suc n) a
subtrees n (When c a) = subtree n (When c a) ∷ subtrees (suc n) a
subtrees n (Watch a c) = subtree n (Watch a c) ∷ subtrees (suc n) a
subtrees n (Time a c) = subtree n (Time a c) ∷ subtrees (suc n) a

-- those that stand in no body of a watching or of a time
abbrev pub free_subtrees : ℕ → Tree → List Subtree
free_subtrees n Skip = subtree n Skip ∷ []
free_subtrees n (Tell c) = subtree n (Tell c) ∷ []
free_subtrees n (Then c a) = subtree n (Then c a) ∷ free_subtrees (suc n) a
free_subtrees n (Else c a) = subtree n (Else c a) ∷ free_subtrees (suc n) a
free_subtrees n (Par l r) = subtree n (Par l r) ∷ (free_subtrees (suc n) l ++ free_subtrees (suc n + form_count l) r)
free_subtrees n (New cell a) = subtree n (New cell a) ∷ free_subtrees (suc n) a
free_subtrees n (Hence a) = subtree n (Hence a) ∷ free_subtrees (suc n) a
free_subtrees n (Next a) = subtree n (Next a) ∷ free_subtrees (suc n) a
free_subtrees n (Always a) = subtree n (Always a) ∷ free_subtrees (suc n) a
free_subtrees n (When c a) = subtree n (When c a) ∷ free_subtrees (suc n) a
free_subtrees n (Watch a c) = subtree n (Watch a c) ∷ []
free_subtrees n (Time a c) = subtree n (Time a c) ∷ []

-- the binder of each cell of the symbolic agent's program: a declared cell is its own
abbrev pub cell_binders : SurfaceProgram → SymbolicAgent → List ℕ
cell_binders s d = count_up 0 s.declared ++ binders d

-- the constraint that this one copies, by the binders of its cells
abbrev pub copied : List ℕ → Constraint → Constraint
copied ms ask = map (λ (pair : ℕ × Token). (unwrap_or (slice_get ms pair.0) pair.0, pair.1)) ask

-- the new of this cell stands around the node
pub record IsAround (p : CoreProgram) (cell n : ℕ) : Type 0 where
  pub new : ℕ
  pub body : ℕ
  pub found : slice_get p.nodes new ≡ Some (nodes.New cell body)
  pub behind : new < n
  pub inside : n < new + core.size (agent_at p.nodes new)

-- each cell of the constraint is declared, or its new stands around the node
abbrev pub AreAround : CoreProgram → Constraint → ℕ → Type 0
AreAround p ask n = All (λ (pair : ℕ × Token). (pair.0 < p.declared) ⊎ IsAround p pair.0 n) ask
