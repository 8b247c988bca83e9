-- When an agent rests within an instant, under a store u and a guess v of the instant's final store, where u lies below v.
-- This project's own, after the denotations of Default cc by pairs of stores (Saraswat, Jagadeesan and Gupta 1996).
use Rattle.std.specs.Prelude.{ℕ, Bool, true, false, ◌&&◌, ◌||◌, not, List, [], ◌∷◌, ◌++◌, slice_get, Option, Some, None}
use Rattle.std.specs.List.{list_all}
use Rattle.token_system.specs.declared.cell.Token.{Token}
use Rattle.token_system.specs.Stores.{StoreMap, store_entails}
use Rattle.agent_core.specs.declared.node.CellDecl.{CellDecl}
use Rattle.agent_core.specs.Agents.{Agent, Constraint, Skip, Tell, Then, Else, Par, New, Hence, Next, agent_at}
use Rattle.agent_core.specs.Programs.{CoreProgram}
use Rattle.agent_core.specs.Names.{name_of}

-- a implies b
infixl 4 ◌⇒◌
abbrev pub ◌⇒◌ : Bool → Bool → Bool
a ⇒ b = not a || b

abbrev pub holds_at : Option CellDecl → CoreProgram → List ℕ → StoreMap → ℕ → Token → Bool
holds_at (Some d) p births u cell t = store_entails u (name_of p births cell) d.cell t
holds_at None p births u cell t = false

-- the store entails the token of the cell with this number
abbrev pub holds : CoreProgram → List ℕ → StoreMap → ℕ × Token → Bool
holds p births u told = holds_at (slice_get p.cells told.0) p births u told.0 told.1

-- the store entails each token of the constraint
abbrev pub entails : CoreProgram → List ℕ → StoreMap → Constraint → Bool
entails p births u ask = list_all (holds p births u) ask

-- the agent, started at instant t under births b, rests under the store u and the guess v
abbrev pub agent_rests : CoreProgram → ℕ → StoreMap → Agent → List ℕ → StoreMap → Bool
agent_rests p t v Skip b u = true
agent_rests p t v (Hence a) b u = true
agent_rests p t v (Next a) b u = true
agent_rests p t v (Tell c) b u = entails p b u c
agent_rests p t v (Par a a') b u = agent_rests p t v a b u && agent_rests p t v a' b u
agent_rests p t v (Then c a) b u = (entails p b u c ⇒ agent_rests p t v a b u) && (entails p b v c ⇒ agent_rests p t v a b v)
agent_rests p t v (Else c a) b u = not (entails p b v c) ⇒ agent_rests p t v a b u
agent_rests p t v (New cell a) b u = agent_rests p t v a (b ++ t ∷ []) u

-- the node with these births, started at instant t, rests under (u, v)
abbrev pub rests : CoreProgram → ℕ → List ℕ → ℕ → StoreMap → StoreMap → Bool
rests p n b t u v = agent_rests p t v (agent_at p.nodes n) b u
