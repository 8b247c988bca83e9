-- Stratification: which tables of numbers let no program depend on its own absence. After stratified negation; this project's own.
use Rattle.std.specs.Prelude.{◌≡◌, ◌⊎◌, ℕ, zero, suc, ◌+◌, ◌<◌, ◌≤◌, Bool, true, false, List, [], ◌∷◌, ◌++◌, length, map, flat_map, slice_index, if◌then◌else◌}
use Rattle.std.specs.List.{range_with_len}
use Rattle.agent_core.specs.Agents.{Agent, Constraint, Skip, Tell, Then, Else, Par, New, Hence, Next, agent_at}
use Rattle.agent_core.specs.Programs.{CoreProgram}
use Rattle.agent_core.specs.Listing.{size}

-- P holds of each element
abbrev pub Each : {X : Type 0} → (X → Type 0) → List X → Type 0
Each P [] = Unit {0}
Each P (x ∷ xs) = P x × Each P xs

abbrev pub In : {X : Type 0} → X → List X → Type 0
In x [] = ⊥
In x (y ∷ ys) = (x ≡ y) ⊎ In x ys

-- a cell that is asked for on a path: the node that asks, the cell, and whether an else asks
pub record Asked : Type 0 where
  pub node : ℕ
  pub cell : ℕ
  pub negative : Bool

-- an asked cell on the path of a tell of another: the tell's node, and the told cell
pub record Edge : Type 0 where
  pub guard : Asked
  pub tell : ℕ
  pub told : ℕ

abbrev pub asked_by : ℕ → Bool → Constraint → List Asked
asked_by n negative ask = map (λ x. record { node = n; cell = x.0; negative = negative }) ask

-- the edges of an agent, whose node is n, below these asks; a hence or a next begins a path anew
abbrev pub agent_edges : ℕ → Agent → List Asked → List Edge
agent_edges n Skip path = []
agent_edges n (Tell c) path = flat_map (λ x. map (λ g. record { guard = g; tell = n; told = x.0 }) path) c
agent_edges n (Then c a) path = agent_edges (suc n) a (path ++ asked_by n false c)
agent_edges n (Else c a) path = agent_edges (suc n) a (path ++ asked_by n true c)
agent_edges n (Par l r) path = agent_edges (suc n) l path ++ agent_edges (suc n + size l) r path
agent_edges n (New cell a) path = agent_edges (suc n) a path
agent_edges n (Hence a) path = agent_edges (suc n) a []
agent_edges n (Next a) path = agent_edges (suc n) a []

abbrev pub edges : CoreProgram → List Edge
edges p = agent_edges 0 (agent_at p.nodes 0) []

-- the told cell's number is at least the asked one's, and greater where an else asks
abbrev pub Meets : List ℕ → Edge → Type 0
Meets table e = slice_index table e.guard.cell + (if e.guard.negative then 1 else 0) ≤ slice_index table e.told

-- the table has a number for each cell, and each edge meets it
pub record Stratifies (p : CoreProgram) (table : List ℕ) : Type 0 where
  pub long : length table ≡ length p.cells
  pub each : Each (Meets table) (edges p)

-- a chain of n edges from cell a to cell b, each from the cell where the one before ends
abbrev pub Chain : List Edge → ℕ → ℕ → ℕ → Type 0
Chain es a b zero = a ≡ b
Chain es a b (suc n) = (e : Edge) × Chain es a e.guard.cell n × In e es × (e.told ≡ b)

-- cell a reaches cell b: they are one cell, or a chain leads from a to b
abbrev pub Reaches : List Edge → ℕ → ℕ → Type 0
Reaches es a b = (n : ℕ) × Chain es a b n

-- no table has a lesser number at any cell
abbrev pub IsLeastTable : CoreProgram → List ℕ → Type 0
IsLeastTable p table = (other : List ℕ) → Stratifies p other → (c : ℕ) → c < length p.cells → slice_index table c ≤ slice_index other c

abbrev pub HasNoTable : CoreProgram → Type 0
HasNoTable p = (table : List ℕ) → Stratifies p table → ⊥

-- CASES: where a cell is told below an else, in their order

-- the cells that are told below an agent within the instant, each with its tell node
abbrev pub tells_of : ℕ → Agent → List (ℕ × ℕ)
tells_of n Skip = []
tells_of n (Tell c) = map (λ x. (n, x.0)) c
tells_of n (Then c a) = tells_of (suc n) a
tells_of n (Else c a) = tells_of (suc n) a
tells_of n (Par l r) = tells_of (suc n) l ++ tells_of (suc n + size l) r
tells_of n (New cell a) = tells_of (suc n) a
tells_of n (Hence a) = []
tells_of n (Next a) = []

abbrev pub cases_at : ℕ → Agent → List Edge
cases_at n (Else c a) = flat_map (λ x. map (λ g. record { guard = record { node = n; cell = g.0; negative = true }; tell = x.0; told = x.1 }) c) (tells_of (suc n) a)
cases_at n _ = []

-- by the number of the else node, then of the tell node, then the place of the told token, then the place of the guard token
abbrev pub cases : CoreProgram → List Edge
cases p = flat_map (λ n. cases_at n (agent_at p.nodes n)) (range_with_len 0 (length p.nodes))

-- the first case in which the told cell reaches the guard
pub record IsFirstCase (p : CoreProgram) (e : Edge) : Type 0 where
  pub before : List Edge
  pub later : List Edge
  pub stands : cases p ≡ before ++ e ∷ later
  pub bad : Reaches (edges p) e.told e.guard.cell
  pub none : Each (λ x. Reaches (edges p) x.told x.guard.cell → ⊥) before
