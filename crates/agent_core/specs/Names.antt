-- The cells of a program and their names. A local cell is named by its new node and by the instants at which that
-- node and the new nodes around it were started, in place of existential hiding. This project's own.
use Rattle.std.specs.Prelude.{◌≡◌, ℕ, suc, ◌<◌, Bool, false, if◌then◌else◌, List, [], ◌∷◌, ◌++◌, length, take, position, unwrap_or, Option, Some, slice_get, slice_index, nat_lt, ◌==◌}
use Rattle.token_system.specs.declared.name.CellName.{CellName}
use Rattle.token_system.specs.declared.name.CellName.TheVariants.{Declared, Local}
use Rattle.agent_core.specs.declared.node.Node.{Node}
use Rattle.agent_core.specs.declared.node.Node.TheVariants as nodes
use Rattle.agent_core.specs.declared.node.CellDecl.{CellDecl}
use Rattle.agent_core.specs.Agents.{Agent, Skip, Tell, Then, Else, Par, New, Hence, Next, agent_at}
use Rattle.agent_core.specs.Programs.{CoreProgram}

-- for each node of a tree in preorder, how many new nodes enclose it, where so many enclose the root
abbrev pub depths : ℕ → Agent → List ℕ
depths d Skip = d ∷ []
depths d (Tell ask) = d ∷ []
depths d (Then ask a) = d ∷ depths d a
depths d (Else ask a) = d ∷ depths d a
depths d (Par a b) = d ∷ (depths d a ++ depths d b)
depths d (New cell a) = d ∷ depths (suc d) a
depths d (Hence a) = d ∷ depths d a
depths d (Next a) = d ∷ depths d a

-- how many new nodes enclose node n
abbrev pub depth_of : List Node → ℕ → ℕ
depth_of all n = slice_index (depths 0 (agent_at all 0)) n

abbrev pub is_new_of : ℕ → Node → Bool
is_new_of c (nodes.New cell body) = cell == c
is_new_of c _ = false

-- the new node to which a local cell belongs
abbrev pub new_of : List Node → ℕ → ℕ
new_of all cell = unwrap_or (position (is_new_of cell) all) 0

-- the local cell of new node m under births: those of the new nodes around m, and that of m itself
abbrev pub local_name : List Node → List ℕ → ℕ → CellName
local_name all births m = Local m (take (suc (depth_of all m)) births)

-- the name of a cell under births
abbrev pub name_of : CoreProgram → List ℕ → ℕ → CellName
name_of p births cell = if nat_lt cell p.declared then Declared cell else local_name p.nodes births (new_of p.nodes cell)

-- the cell of a new node
abbrev pub new_cell : Option Node → ℕ
new_cell (Some (nodes.New cell body)) = cell
new_cell _ = 0

-- the number of the cell that has this name
abbrev pub cell_named : CoreProgram → CellName → ℕ
cell_named p (Declared n) = n
cell_named p (Local m births) = new_cell (slice_get p.nodes m)

-- the name is one of the program's, and this is its cell
abbrev pub Names : CoreProgram → CellName → CellDecl → Type 0
Names p (Declared n) d = (n < p.declared) × (slice_get p.cells n ≡ Some d)
Names p (Local m births) d =
    (cell body : ℕ) × (slice_get p.nodes m ≡ Some (nodes.New cell body)) × (slice_get p.cells cell ≡ Some d)
    × (length births ≡ suc (depth_of p.nodes m))

-- a closure: a node of the program, with as many births as new nodes enclose it
pub record IsClosure (p : CoreProgram) (n : ℕ) (births : List ℕ) : Type 0 where
  pub node : n < length p.nodes
  pub long : length births ≡ depth_of p.nodes n
