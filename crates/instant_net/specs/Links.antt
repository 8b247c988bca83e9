-- The links of an instant's guards and leaves: by number, which guard is the nearest around each, and which leaves are inside a guard. Guards are the thens and elses within the instant, in the order of their nodes: an outer one comes before those inside it. Leaves are numbered in that order too. This project's own.
use Rattle.std.specs.Prelude.{◌≡◌, ℕ, suc, ◌+◌, List, [], ◌∷◌, ◌++◌, map, Option, None, Some}
use Rattle.agent_core.specs.declared.node.Closure.{Closure}
use Rattle.agent_core.specs.Agents.{Agent, Skip, Tell, Then, Else, Par, New, Hence, Next, agent_at}
use Rattle.agent_core.specs.Programs.{CoreProgram}
use Rattle.instant_net.specs.declared.parts.NetGuard.{NetGuard}
use Rattle.instant_net.specs.declared.parts.NetLeaf.{NetLeaf}
use Rattle.instant_net.specs.Programs.{agent_leaf_count}

-- how many guards an agent has within the instant
abbrev pub guard_count : Agent → ℕ
guard_count Skip = 0
guard_count (Tell told) = 0
guard_count (Then ask a) = suc (guard_count a)
guard_count (Else ask a) = suc (guard_count a)
guard_count (Par a b) = guard_count a + guard_count b
guard_count (New cell a) = guard_count a
guard_count (Hence a) = 0
guard_count (Next a) = 0

-- the links of a guard: the nearest guard around it, where there is one, and the leaves inside it, from its first one up to, and without, the one past its last
pub record GuardLinks : Type 0 where
  pub above : Option ℕ
  pub first : ℕ
  pub past : ℕ

-- a guard whose first leaf has number l, and that has so many leaves inside
abbrev pub guard_link : Option ℕ → ℕ → ℕ → GuardLinks
guard_link nearest l count = record { above = nearest; first = l; past = l + count }

-- the links of an agent's guards, where `nearest` is the nearest guard around the agent, its first guard has number k, and its first leaf number l
abbrev pub guard_links : Agent → Option ℕ → ℕ → ℕ → List GuardLinks
guard_links Skip nearest k l = []
guard_links (Tell told) nearest k l = []
guard_links (Hence a) nearest k l = []
guard_links (Next a) nearest k l = []
guard_links (Then ask a) nearest k l = guard_link nearest l (agent_leaf_count a) ∷ guard_links a (Some k) (suc k) l
guard_links (Else ask a) nearest k l = guard_link nearest l (agent_leaf_count a) ∷ guard_links a (Some k) (suc k) l
guard_links (Par a b) nearest k l = guard_links a nearest k l ++ guard_links b nearest (k + guard_count a) (l + agent_leaf_count a)
guard_links (New cell a) nearest k l = guard_links a nearest k l

-- the nearest guard around each leaf of the agent
abbrev pub leaf_links : Agent → Option ℕ → ℕ → List (Option ℕ)
leaf_links Skip nearest k = nearest ∷ []
leaf_links (Tell told) nearest k = nearest ∷ []
leaf_links (Hence a) nearest k = nearest ∷ []
leaf_links (Next a) nearest k = nearest ∷ []
leaf_links (Then ask a) nearest k = leaf_links a (Some k) (suc k)
leaf_links (Else ask a) nearest k = leaf_links a (Some k) (suc k)
leaf_links (Par a b) nearest k = leaf_links a nearest k ++ leaf_links b nearest (k + guard_count a)
leaf_links (New cell a) nearest k = leaf_links a nearest k

-- the links of the guards of these roots, no guard being around a root; each root's guards and leaves are numbered on from those of the roots before
abbrev pub root_guard_links : CoreProgram → List Closure → ℕ → ℕ → List GuardLinks
root_guard_links p [] k l = []
root_guard_links p (r ∷ rs) k l =
    guard_links (agent_at p.nodes r.node) None k l
    ++ root_guard_links p rs (k + guard_count (agent_at p.nodes r.node)) (l + agent_leaf_count (agent_at p.nodes r.node))

-- the nearest guard around each leaf of these roots
abbrev pub root_leaf_links : CoreProgram → List Closure → ℕ → List (Option ℕ)
root_leaf_links p [] k = []
root_leaf_links p (r ∷ rs) k = leaf_links (agent_at p.nodes r.node) None k ++ root_leaf_links p rs (k + guard_count (agent_at p.nodes r.node))

abbrev pub links_of : NetGuard → GuardLinks
links_of g = record { above = g.above; first = g.first; past = g.past }

-- these guards and leaves are linked as those of the agent
pub record AreLinked (a : Agent) (nearest : Option ℕ) (k l : ℕ) (guards : List NetGuard) (leaves : List NetLeaf) : Type 0 where
  pub guards_are : map links_of guards ≡ guard_links a nearest k l
  pub leaves_are : map (λ x. x.last) leaves ≡ leaf_links a nearest k

-- and as those of these roots
pub record AreLinkedAsRoots (p : CoreProgram) (rs : List Closure) (guards : List NetGuard) (leaves : List NetLeaf) : Type 0 where
  pub guards_are : map links_of guards ≡ root_guard_links p rs 0 0
  pub leaves_are : map (λ x. x.last) leaves ≡ root_leaf_links p rs 0
