-- The leaves of a program's roots, with their cells by name: what the net of these roots is to say. This project's own.
use Rattle.std.specs.Prelude.{ℕ, suc, ◌+◌, true, false, List, [], ◌∷◌, ◌++◌, map, slice_get, Option, Some, None}
use Rattle.token_system.specs.declared.cell.Token.{Token}
use Rattle.agent_core.specs.declared.node.Closure.{Closure}
use Rattle.agent_core.specs.declared.node.CellDecl.{CellDecl}
use Rattle.agent_core.specs.Agents.{Agent, Constraint, Skip, Tell, Then, Else, Par, New, Hence, Next}
use Rattle.agent_core.specs.Programs.{CoreProgram}
use Rattle.agent_core.specs.Names.{name_of}
use Rattle.agent_core.specs.Closures.{closure}
use Rattle.agent_core.specs.Leaves as core
use Rattle.agent_core.specs.Occurrences.{Occurrence, occurrences}
use Rattle.instant_net.specs.NamedLeaves.{Named, NamedGuard, Kind, Idle, Tells, StartsHence, StartsNext, NamedLeaf}

abbrev pub token_named : CoreProgram → List ℕ → ℕ → Token → Option CellDecl → List Named
token_named p b cell t None = []
token_named p b cell t (Some d) = record { name = name_of p b cell; cell = d.cell; token = t } ∷ []

-- the constraint under births, with its cells by name
abbrev pub constraint_named : CoreProgram → List ℕ → Constraint → List Named
constraint_named p b [] = []
constraint_named p b (x ∷ ask) = token_named p b x.0 x.1 (slice_get p.cells x.0) ++ constraint_named p b ask

abbrev pub guard_named : CoreProgram → core.Guard → NamedGuard
guard_named p (core.Positive b ask) = record { negative = false; ask = constraint_named p b ask }
guard_named p (core.Negative b ask) = record { negative = true; ask = constraint_named p b ask }

-- what the agent of node n is as a leaf: a hence or a next starts its body, which has the number behind its own, under its births
abbrev pub kind_named : CoreProgram → ℕ → List ℕ → Agent → Kind
kind_named p n b (Tell told) = Tells (constraint_named p b told)
kind_named p n b (Hence a) = StartsHence (closure (suc n) b)
kind_named p n b (Next a) = StartsNext (closure (suc n) b)
kind_named p n b _ = Idle

abbrev pub leaf_named : CoreProgram → core.Leaf → NamedLeaf
leaf_named p l = record { kind = kind_named p l.node l.births l.agent; path = map (guard_named p) l.path }

-- the leaves of these roots at instant t
abbrev pub root_leaves : CoreProgram → List Closure → ℕ → List NamedLeaf
root_leaves p rs t = map (leaf_named p) (core.leaves p rs t)

abbrev pub occurrence_named : CoreProgram → Occurrence core.Guard → Occurrence NamedGuard
occurrence_named p o = record { guard = guard_named p o.guard; path = map (guard_named p) o.path }

-- the thens and elses of these roots at instant t
abbrev pub root_occurrences : CoreProgram → List Closure → ℕ → List (Occurrence NamedGuard)
root_occurrences p rs t = map (occurrence_named p) (occurrences p rs t)

-- how many leaves an agent has within the instant
abbrev pub agent_leaf_count : Agent → ℕ
agent_leaf_count Skip = 1
agent_leaf_count (Tell told) = 1
agent_leaf_count (Then ask a) = agent_leaf_count a
agent_leaf_count (Else ask a) = agent_leaf_count a
agent_leaf_count (Par a b) = agent_leaf_count a + agent_leaf_count b
agent_leaf_count (New cell a) = agent_leaf_count a
agent_leaf_count (Hence a) = 1
agent_leaf_count (Next a) = 1
