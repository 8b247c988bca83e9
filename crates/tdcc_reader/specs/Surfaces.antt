-- The surface of a program: its cells, how many of them are declared, and its forms. A written x=n is the two tokens
-- x>=n and x<=n; braces make no form. Declared cells stand in the order of their declarations, and behind them one
-- local cell for each `new`, in order. This project's own.
use Rattle.std.specs.Prelude.{◌≡◌, ℕ, ◌+◌, ℤ, pos, List, [], ◌∷◌, ◌++◌, map, length, bytes_eq, if◌then◌else◌}
use Rattle.token_system.specs.declared.cell.Cell.{Cell}
use Rattle.token_system.specs.declared.cell.Kind.{Kind}
use Rattle.token_system.specs.declared.cell.Kind.TheVariants as kind
use Rattle.token_system.specs.declared.cell.Token.TheVariants as token
use Rattle.token_system.specs.Domain.{is_cell}
use Rattle.agent_core.specs.declared.node.CellDecl.{CellDecl}
use Rattle.program_grammar.specs.Phrases.{TokenPhrase, AtLeast, AtMost, Exactly, ConstraintPhrase, One, Both, UnitPhrase, Tell, Braces, IfThen, IfElse, LocalSignal, LocalInt, AgentPhrase, Only, Par, NamesPhrase, LastName, MoreName, ItemsPhrase, LastItem, MoreItem, ProgramPhrase, Runs, Signals, Ints}
use Rattle.program_grammar.specs.Phrases as phrase
use Rattle.tdcc_reader.specs.declared.surface.Form.{Form}
use Rattle.tdcc_reader.specs.Trees as tree
use Rattle.agent_core.specs.Agents.{Constraint}

-- a name in scope, and the declared_number of its cell
pub record Placed : Type 0 where
  pub name : List ℕ
  pub cell : ℕ

abbrev pub placed : List ℕ → ℕ → Placed
placed x n = record { name = x; cell = n }

-- the cell of a name: the newest declaration stands first
abbrev pub cell_in_scope : List Placed → List ℕ → ℕ
cell_in_scope [] x = 0
cell_in_scope (p ∷ ps) x = if bytes_eq p.name x then p.cell else cell_in_scope ps x

-- a cell with its name and its domain; a declared_signal has 0 and 0
pub record Declared : Type 0 where
  pub name : List ℕ
  pub kind : Kind
  pub low : ℤ
  pub high : ℤ

abbrev pub declared : List ℕ → Kind → ℤ → ℤ → Declared
declared x k low high = record { name = x; kind = k; low = low; high = high }

abbrev pub declared_signal : List ℕ → Declared
declared_signal x = declared x kind.Signal (pos 0) (pos 0)

-- a declared_number with this domain; a domain that is none, as no program without faults has, stands for a declared_signal
abbrev pub declared_number : List ℕ → ℤ → ℤ → Declared
declared_number x low high = if is_cell kind.Number low high then declared x kind.Number low high else declared_signal x

-- a named cell as such, and a cell of a program
abbrev pub declared_as : List ℕ → Cell → Declared
declared_as x c = declared x c.kind c.lo c.hi

abbrev pub cell_view : CellDecl → Declared
cell_view d = declared_as d.name d.cell

-- the tokens of a written token, of a constraint
abbrev pub token_tokens : List Placed → TokenPhrase → Constraint
token_tokens scope (phrase.On x) = (cell_in_scope scope x, token.On) ∷ []
token_tokens scope (phrase.Off x) = (cell_in_scope scope x, token.Off) ∷ []
token_tokens scope (phrase.Clash x) = (cell_in_scope scope x, token.Clash) ∷ []
token_tokens scope (AtLeast x n) = (cell_in_scope scope x, token.AtLeast n) ∷ []
token_tokens scope (AtMost x n) = (cell_in_scope scope x, token.AtMost n) ∷ []
token_tokens scope (Exactly x n) = (cell_in_scope scope x, token.AtLeast n) ∷ (cell_in_scope scope x, token.AtMost n) ∷ []

abbrev pub constraint_of : List Placed → ConstraintPhrase → Constraint
constraint_of scope (One t) = token_tokens scope t
constraint_of scope (Both t c) = token_tokens scope t ++ constraint_of scope c

abbrev mutual
  -- the local cells of a unit, in order
  pub unit_cells : UnitPhrase → List Declared
  unit_cells phrase.Skip = []
  unit_cells (Tell c) = []
  unit_cells (Braces a) = agent_cells a
  unit_cells (IfThen c u) = unit_cells u
  unit_cells (IfElse c u) = unit_cells u
  unit_cells (LocalSignal x u) = declared_signal x ∷ unit_cells u
  unit_cells (LocalInt x l h u) = declared_number x l h ∷ unit_cells u
  unit_cells (phrase.Hence u) = unit_cells u
  unit_cells (phrase.Next u) = unit_cells u
  unit_cells (phrase.Always u) = unit_cells u
  unit_cells (phrase.When c u) = unit_cells u
  unit_cells (phrase.Watching a c) = agent_cells a
  unit_cells (phrase.TimeOn a c) = agent_cells a

  -- of an agent
  pub agent_cells : AgentPhrase → List Declared
  agent_cells (Only u) = unit_cells u
  agent_cells (Par u a) = unit_cells u ++ agent_cells a

abbrev mutual
  -- the tree of a unit under these names, where so many cells stand before its own
  pub unit_tree : UnitPhrase → List Placed → ℕ → tree.Tree
  unit_tree phrase.Skip scope n = tree.Skip
  unit_tree (Tell c) scope n = tree.Tell (constraint_of scope c)
  unit_tree (Braces a) scope n = agent_tree a scope n
  unit_tree (IfThen c u) scope n = tree.Then (constraint_of scope c) (unit_tree u scope n)
  unit_tree (IfElse c u) scope n = tree.Else (constraint_of scope c) (unit_tree u scope n)
  unit_tree (LocalSignal x u) scope n = tree.New n (unit_tree u (placed x n ∷ scope) (n + 1))
  unit_tree (LocalInt x l h u) scope n = tree.New n (unit_tree u (placed x n ∷ scope) (n + 1))
  unit_tree (phrase.Hence u) scope n = tree.Hence (unit_tree u scope n)
  unit_tree (phrase.Next u) scope n = tree.Next (unit_tree u scope n)
  unit_tree (phrase.Always u) scope n = tree.Always (unit_tree u scope n)
  unit_tree (phrase.When c u) scope n = tree.When (constraint_of scope c) (unit_tree u scope n)
  unit_tree (phrase.Watching a c) scope n = tree.Watch (agent_tree a scope n) (constraint_of scope c)
  unit_tree (phrase.TimeOn a c) scope n = tree.Time (agent_tree a scope n) (constraint_of scope c)

  -- of an agent
  pub agent_tree : AgentPhrase → List Placed → ℕ → tree.Tree
  agent_tree (Only u) scope n = unit_tree u scope n
  agent_tree (Par u a) scope n = tree.Par (unit_tree u scope n) (agent_tree a scope (n + length (unit_cells u)))

-- the declared cells, and the names in scope behind a declaration
abbrev pub names_cells : NamesPhrase → List Declared
names_cells (LastName x) = declared_signal x ∷ []
names_cells (MoreName x ns) = declared_signal x ∷ names_cells ns

abbrev pub names_scope : NamesPhrase → List Placed → ℕ → List Placed
names_scope (LastName x) scope n = placed x n ∷ scope
names_scope (MoreName x ns) scope n = names_scope ns (placed x n ∷ scope) (n + 1)

abbrev pub items_cells : ItemsPhrase → List Declared
items_cells (LastItem x l h) = declared_number x l h ∷ []
items_cells (MoreItem x l h is) = declared_number x l h ∷ items_cells is

abbrev pub items_scope : ItemsPhrase → List Placed → ℕ → List Placed
items_scope (LastItem x l h) scope n = placed x n ∷ scope
items_scope (MoreItem x l h is) scope n = items_scope is (placed x n ∷ scope) (n + 1)

-- the tree of declarations and an agent
abbrev pub tree_from : ProgramPhrase → List Placed → ℕ → tree.Tree
tree_from (Runs a) scope n = agent_tree a scope n
tree_from (Signals ns p) scope n = tree_from p (names_scope ns scope n) (n + length (names_cells ns))
tree_from (Ints is p) scope n = tree_from p (items_scope is scope n) (n + length (items_cells is))

abbrev pub program_tree : ProgramPhrase → tree.Tree
program_tree p = tree_from p [] 0

-- the declared cells of a program, and all of its cells
abbrev pub declared_cells : ProgramPhrase → List Declared
declared_cells (Runs a) = []
declared_cells (Signals ns p) = names_cells ns ++ declared_cells p
declared_cells (Ints is p) = items_cells is ++ declared_cells p

abbrev pub program_cells : ProgramPhrase → List Declared
program_cells (Runs a) = agent_cells a
program_cells (Signals ns p) = names_cells ns ++ program_cells p
program_cells (Ints is p) = items_cells is ++ program_cells p

pub record SurfaceProgram : Type 0 where
  pub cells : List CellDecl
  pub declared : ℕ
  pub forms : List Form

-- this is the surface of the program
pub record IsSurfaceOf (p : ProgramPhrase) (s : SurfaceProgram) : Type 0 where
  pub cells : map cell_view s.cells ≡ program_cells p
  pub declared : s.declared ≡ length (declared_cells p)
  pub forms : s.forms ≡ tree.form_listing 0 (program_tree p)
