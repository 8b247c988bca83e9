-- The thens and elses of an instant: each occurrence in the trees of its roots that is reached without passing a hence or a next, with the asks above it. This project's own.
use Rattle.std.specs.Prelude.{ℕ, List, [], ◌∷◌, ◌++◌, flat_map}
use Rattle.agent_core.specs.declared.node.Closure.{Closure}
use Rattle.agent_core.specs.Agents.{Agent, Skip, Tell, Then, Else, Par, New, Hence, Next, agent_at}
use Rattle.agent_core.specs.Programs.{CoreProgram}
use Rattle.agent_core.specs.Leaves.{Guard, Positive, Negative}

-- an occurrence of a then or an else: its ask as a guard, and the guards above it, outermost first
pub record Occurrence (G : Type 0) : Type 0 where
  pub guard : G
  pub path : List G

abbrev pub occurrence : Guard → List Guard → Occurrence Guard
occurrence g path = record { guard = g; path = path }

-- the occurrences in an agent, which is started at t under births b and stands below this path; in the order of their nodes
abbrev pub occurrences_of : ℕ → Agent → List ℕ → List Guard → List (Occurrence Guard)
occurrences_of t Skip b path = []
occurrences_of t (Tell c) b path = []
occurrences_of t (Hence a) b path = []
occurrences_of t (Next a) b path = []
occurrences_of t (Par l r) b path = occurrences_of t l b path ++ occurrences_of t r b path
occurrences_of t (Then c a) b path = occurrence (Positive b c) path ∷ occurrences_of t a b (path ++ Positive b c ∷ [])
occurrences_of t (Else c a) b path = occurrence (Negative b c) path ∷ occurrences_of t a b (path ++ Negative b c ∷ [])
occurrences_of t (New cell a) b path = occurrences_of t a (b ++ t ∷ []) path

-- the occurrences in the trees of these roots at instant t
abbrev pub occurrences : CoreProgram → List Closure → ℕ → List (Occurrence Guard)
occurrences p rs t = flat_map (λ r. occurrences_of t (agent_at p.nodes r.node) r.births []) rs
