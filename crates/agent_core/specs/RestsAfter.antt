-- When an agent that was started some instants ago rests now. It looks at the whole history again, and no residual program stands in it.
-- This project's own, after the denotations of Timed Default cc (Saraswat, Jagadeesan and Gupta 1996).
use Rattle.std.specs.Prelude.{ℕ, ◌+◌, ◌-◌, Bool, true, ◌&&◌, not, List, [], ◌∷◌, ◌++◌, length}
use Rattle.std.specs.List.{list_all}
use Rattle.token_system.specs.Stores.{StoreMap}
use Rattle.agent_core.specs.Agents.{Agent, Skip, Tell, Then, Else, Par, New, Hence, Next, agent_at}
use Rattle.agent_core.specs.Programs.{CoreProgram}
use Rattle.agent_core.specs.Rests.{◌⇒◌, entails, agent_rests}

-- the list itself, the list without its first element, without its first two, and so on to the empty list
abbrev pub suffixes : List StoreMap → List (List StoreMap)
suffixes [] = [] ∷ []
suffixes (w ∷ z) = (w ∷ z) ∷ suffixes z

-- the agent was started at instant s under births b, z are the closed stores since s, and it rests now under (u, v)
abbrev pub rests_after : CoreProgram → StoreMap → StoreMap → List StoreMap → Agent → List ℕ → ℕ → Bool
rests_after p u v [] a b s = agent_rests p s v a b u
rests_after p u v (w ∷ z) Skip b s = true
rests_after p u v (w ∷ z) (Tell c) b s = true
rests_after p u v (w ∷ z) (Par a a') b s = rests_after p u v (w ∷ z) a b s && rests_after p u v (w ∷ z) a' b s
rests_after p u v (w ∷ z) (Then c a) b s = entails p b w c ⇒ rests_after p u v (w ∷ z) a b s
rests_after p u v (w ∷ z) (Else c a) b s = not (entails p b w c) ⇒ rests_after p u v (w ∷ z) a b s
rests_after p u v (w ∷ z) (New cell a) b s = rests_after p u v (w ∷ z) a (b ++ s ∷ []) s
rests_after p u v (w ∷ z) (Next a) b s = rests_after p u v z a b (s + 1)
rests_after p u v (w ∷ z) (Hence a) b s = list_all (λ y. rests_after p u v y a b (s + 1 + length z - length y)) (suffixes z)

-- the same of the node with this number
abbrev pub obs : CoreProgram → ℕ → List ℕ → ℕ → List StoreMap → StoreMap → StoreMap → Bool
obs p n b s z u v = rests_after p u v z (agent_at p.nodes n) b s
