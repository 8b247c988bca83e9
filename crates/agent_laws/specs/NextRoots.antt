-- The roots after one more closed store, from the roots before it. This project's own.
use Rattle.std.specs.Prelude.{ℕ, zero, suc, Bool, true, false, List, [], ◌∷◌, ◌++◌, flat_map, filter}
use Rattle.token_system.specs.Stores.{StoreMap}
use Rattle.agent_core.specs.declared.node.Closure.{Closure}
use Rattle.agent_core.specs.Agents.{Agent, Hence, agent_at}
use Rattle.agent_core.specs.Programs.{CoreProgram}
use Rattle.agent_core.specs.Closures.{started}

abbrev pub is_hence : Agent → Bool
is_hence (Hence a) = true
is_hence _ = false

-- the node is the body of a hence, which has the number before it
abbrev pub is_hence_body : CoreProgram → ℕ → Bool
is_hence_body p zero = false
is_hence_body p (suc n) = is_hence (agent_at p.nodes n)

-- the closure is one of a hence's body, and so is a root of each later instant
abbrev pub stays : CoreProgram → Closure → Bool
stays p r = is_hence_body p r.node

-- what is started by a root's leaves that the store runs, where t is the store's instant
abbrev pub starts : CoreProgram → StoreMap → ℕ → Closure → List Closure
starts p w t r = started p (w ∷ []) (agent_at p.nodes r.node) r.node r.births t

-- the roots that stay, and those that are started
abbrev pub next_of : CoreProgram → StoreMap → ℕ → List Closure → List Closure
next_of p w t rs = filter (stays p) rs ++ flat_map (starts p w t) rs
