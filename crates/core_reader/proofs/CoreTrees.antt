-- The tree of a phrase of the core is that of an agent.
use Rattle.std.proofs.Common.{◌≡◌, ℕ, ◌+◌, List, [], ◌∷◌, length, true, refl, ap, ◌∙◌}
use Rattle.program_lexemes.proofs.PrefixLengths.{and_left, and_right}
use Rattle.program_grammar.specs.Phrases.{UnitPhrase, Tell, Braces, IfThen, IfElse, LocalSignal, LocalInt, AgentPhrase, Only, Par, ProgramPhrase, Runs, Signals, Ints}
use Rattle.program_grammar.specs.Phrases as phrases
use Rattle.program_grammar.specs.Programs.{is_core_unit, is_core_agent, is_core}
use Rattle.agent_core.specs.Agents as core
use Rattle.tdcc_reader.specs.Trees.{Tree}
use Rattle.tdcc_reader.specs.Trees as tree
use Rattle.tdcc_reader.specs.Surfaces.{Placed, placed, constraint_of, unit_tree, agent_tree, unit_cells, names_cells, names_scope, items_cells, items_scope, tree_from, program_tree}
use Rattle.core_reader.specs.Trees.{tree_of}

-- the agent of a tree of core forms
abbrev pub agent_of : Tree → core.Agent
agent_of tree.Skip = core.Skip
agent_of (tree.Tell c) = core.Tell c
agent_of (tree.Then c a) = core.Then c (agent_of a)
agent_of (tree.Else c a) = core.Else c (agent_of a)
agent_of (tree.Par l r) = core.Par (agent_of l) (agent_of r)
agent_of (tree.New cell a) = core.New cell (agent_of a)
agent_of (tree.Hence a) = core.Hence (agent_of a)
agent_of (tree.Next a) = core.Next (agent_of a)
agent_of (tree.Always a) = core.Skip
agent_of (tree.When c a) = core.Skip
agent_of (tree.Watch a c) = core.Skip
agent_of (tree.Time a c) = core.Skip

mutual
  unit_core : (u : UnitPhrase) (s : List Placed) (n : ℕ) → is_core_unit u ≡ true → tree_of (agent_of (unit_tree u s n)) ≡ unit_tree u s n
  unit_core phrases.Skip s n e = refl
  unit_core (Tell c) s n e = refl
  unit_core (Braces a) s n e = agent_core a s n e
  unit_core (IfThen c u) s n e = ap (tree.Then (constraint_of s c)) (unit_core u s n e)
  unit_core (IfElse c u) s n e = ap (tree.Else (constraint_of s c)) (unit_core u s n e)
  unit_core (LocalSignal x u) s n e = ap (tree.New n) (unit_core u (placed x n ∷ s) (n + 1) e)
  unit_core (LocalInt x l h u) s n e = ap (tree.New n) (unit_core u (placed x n ∷ s) (n + 1) e)
  unit_core (phrases.Hence u) s n e = ap tree.Hence (unit_core u s n e)
  unit_core (phrases.Next u) s n e = ap tree.Next (unit_core u s n e)
  unit_core (phrases.Always u) s n e = cc
  unit_core (phrases.When c u) s n e = cc
  unit_core (phrases.Watching a c) s n e = cc
  unit_core (phrases.TimeOn a c) s n e = cc

  agent_core : (a : AgentPhrase) (s : List Placed) (n : ℕ) → is_core_agent a ≡ true → tree_of (agent_of (agent_tree a s n)) ≡ agent_tree a s n
  agent_core (Only u) s n e = unit_core u s n e
  agent_core (Par u a) s n e =
      ap (λ t. tree.Par t (tree_of (agent_of (agent_tree a s (n + length (unit_cells u)))))) (unit_core u s n (and_left (is_core_unit u) (is_core_agent a) e))
      ∙ ap (tree.Par (unit_tree u s n)) (agent_core a s (n + length (unit_cells u)) (and_right (is_core_unit u) (is_core_agent a) e))

core_from : (p : ProgramPhrase) (s : List Placed) (n : ℕ) → is_core p ≡ true → tree_of (agent_of (tree_from p s n)) ≡ tree_from p s n
core_from (Runs a) s n e = agent_core a s n e
core_from (Signals ns p) s n e = core_from p (names_scope ns s n) (n + length (names_cells ns)) e
core_from (Ints is p) s n e = core_from p (items_scope is s n) (n + length (items_cells is)) e

-- The tree of a program of the core is that of an agent.
pub program_core : (p : ProgramPhrase) → is_core p ≡ true → tree_of (agent_of (program_tree p)) ≡ program_tree p
program_core p e = core_from p [] 0 e
