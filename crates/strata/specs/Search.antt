-- The search for the first case in which a told cell reaches one that an else asks for. This project's own.
use Rattle.std.specs.Prelude.{ℕ, ◌<◌, ◌≤◌, Bool, List, [], ◌∷◌, length, map, flat_map, Option, Some, None, if◌then◌else◌, Vec}
use Rattle.std.specs.declared.alloc.Global.{Global}
use Rattle.agent_core.specs.Agents.{Constraint, agent_at}
use Rattle.agent_core.specs.declared.node.Node.{Node}
use Rattle.agent_core.specs.Strata.{Edge, tells_of}
use Rattle.order_tables.specs.Reaching.{list_at, has}
use Rattle.strata.specs.declared.search.Case.{Case}

-- the first that passes
abbrev pub first_that : {X : Type 0} → (X → Bool) → List X → Option X
first_that test [] = None
first_that test (x ∷ xs) = if test x then Some x else first_that test xs

-- the cells that are told below node n within the instant
abbrev pub told_below : List Node → ℕ → List ℕ
told_below all n = map (λ x. x.1) (tells_of n (agent_at all n))

-- a told cell with each asked one
abbrev pub pairs_with : Constraint → ℕ → List Case
pairs_with ask told = map (λ g. record { guard = g.0; told = told }) ask

-- each of the told cells with each asked one
abbrev pub pairs : Constraint → List ℕ → List Case
pairs ask told = flat_map (pairs_with ask) told

-- by the rows, the told cell reaches the asked one
abbrev pub reaches_back : List (Vec Bool Global) → Case → Bool
reaches_back rows c = has (list_at rows c.told) c.guard

abbrev pub edge_case : Edge → Case
edge_case e = record { guard = e.guard.cell; told = e.told }

-- the else node and the cells of an edge
abbrev pub named : Option Edge → Option (ℕ × Case)
named None = None
named (Some e) = Some (e.guard.node, edge_case e)

-- each row has a place for each row
abbrev pub AreSquare : List (Vec Bool Global) → Type 0
AreSquare rows = (a : ℕ) → a < length rows → length rows ≤ length (list_at rows a)
