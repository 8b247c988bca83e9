-- The leaves of an instant: what is reached from its roots without passing a hence or a next, each with the asks on its path. This project's own.
use Rattle.std.specs.Prelude.{ℕ, suc, ◌+◌, Bool, not, List, [], ◌∷◌, ◌++◌, length, filter, flat_map}
use Rattle.std.specs.List.{list_all}
use Rattle.token_system.specs.Stores.{StoreMap}
use Rattle.agent_core.specs.declared.node.Closure.{Closure}
use Rattle.agent_core.specs.Agents.{Agent, Constraint, Skip, Tell, Then, Else, Par, New, Hence, Next, agent_at}
use Rattle.agent_core.specs.Programs.{CoreProgram}
use Rattle.agent_core.specs.Listing.{size}
use Rattle.agent_core.specs.Rests.{entails}

-- an ask above a leaf, under its births: what the store is to entail, or is not to entail
pub data Guard : Type 0 where
  Positive : (births : List ℕ) → (ask : Constraint) → Guard
  Negative : (births : List ℕ) → (ask : Constraint) → Guard

-- a leaf: its node, the agent that stands there, its births, and the guards above it, outermost first
pub record Leaf : Type 0 where
  pub node : ℕ
  pub agent : Agent
  pub births : List ℕ
  pub path : List Guard

abbrev pub leaf : ℕ → Agent → List ℕ → List Guard → Leaf
leaf n a b path = record { node = n; agent = a; births = b; path = path }

-- the leaves of the agent of node n, started at t under births b, below this path
abbrev pub leaves_of : ℕ → Agent → ℕ → List ℕ → List Guard → List Leaf
leaves_of t Skip n b path = leaf n Skip b path ∷ []
leaves_of t (Tell c) n b path = leaf n (Tell c) b path ∷ []
leaves_of t (Hence a) n b path = leaf n (Hence a) b path ∷ []
leaves_of t (Next a) n b path = leaf n (Next a) b path ∷ []
leaves_of t (Par l r) n b path = leaves_of t l (suc n) b path ++ leaves_of t r (suc n + size l) b path
leaves_of t (Then c a) n b path = leaves_of t a (suc n) b (path ++ Positive b c ∷ [])
leaves_of t (Else c a) n b path = leaves_of t a (suc n) b (path ++ Negative b c ∷ [])
leaves_of t (New cell a) n b path = leaves_of t a (suc n) (b ++ t ∷ []) path

-- the leaves of these roots at instant t
abbrev pub leaves : CoreProgram → List Closure → ℕ → List Leaf
leaves p rs t = flat_map (λ r. leaves_of t (agent_at p.nodes r.node) r.node r.births []) rs

-- what a leaf tells
abbrev pub tells : Agent → Constraint
tells (Tell c) = c
tells _ = []

abbrev pub allows : CoreProgram → StoreMap → Guard → Bool
allows p v (Positive b c) = entails p b v c
allows p v (Negative b c) = not (entails p b v c)

-- the store runs the leaf: it entails every then ask on the leaf's path, and no else ask
abbrev pub runs : CoreProgram → StoreMap → Leaf → Bool
runs p v l = list_all (allows p v) l.path

-- how many leaves of these roots the store runs at instant t
abbrev pub ran : CoreProgram → List Closure → ℕ → StoreMap → ℕ
ran p rs t v = length (filter (runs p v) (leaves p rs t))
