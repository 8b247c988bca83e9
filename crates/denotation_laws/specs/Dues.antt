-- Which leaves are to tell at an instant, and what it is that one of them tells. This project's own.
use Rattle.std.specs.Prelude.{◌≡◌, ℕ, ◌-◌, Bool, true, false, ◌&&◌, not, List, [], length, flat_map, IsTrue, nat_le, slice_index}
use Rattle.std.specs.List.{list_any, list_all}
use Rattle.token_system.specs.Stores.{StoreMap}
use Rattle.agent_core.specs.Agents.{Constraint, agent_at}
use Rattle.agent_core.specs.Programs.{CoreProgram}
use Rattle.agent_core.specs.RestsAfter.{suffixes}
use Rattle.agent_core.specs.Closures.{started}
use Rattle.agent_core.specs.Rests.{entails}
use Rattle.agent_core.specs.Leaves.{Guard, Leaf, leaves_of, leaves, tells, allows, runs}
use Rattle.agent_core.specs.Strata.{Each, In}
use Rattle.agent_core.specs.Tellings.{tell_all}

-- some cell of the constraint is of at most stratum k
abbrev pub is_upto : List ℕ → ℕ → Constraint → Bool
is_upto table k told = list_any (λ x. nat_le (slice_index table x.0) k) told

-- so it is, and the store does not yet entail the constraint
abbrev pub is_news : CoreProgram → List ℕ → ℕ → StoreMap → List ℕ → Constraint → Bool
is_news p table k u b told = is_upto table k told && not (entails p b u told)

-- the leaf is to tell: the store runs it, it tells a cell of at most stratum k, and the store does not yet entail what it tells
abbrev pub is_due : CoreProgram → List ℕ → ℕ → StoreMap → Leaf → Bool
is_due p table k u l = runs p u l && is_news p table k u l.births (tells l.agent)

-- from u to w the constraint was told, since it was news; or it was not, and nothing was told
abbrev pub Tells : CoreProgram → List ℕ → ℕ → List ℕ → Constraint → StoreMap → Bool → StoreMap → Type 0
Tells p table k b ask u true w = IsTrue (is_news p table k u b ask) × (w ≡ tell_all p b ask u)
Tells p table k b ask u false w = (is_news p table k u b ask ≡ false) × (w ≡ u)

-- from u to w one of the leaves told that were to tell; or none was to tell, and nothing was told
abbrev pub TellsOne : CoreProgram → List ℕ → ℕ → List Leaf → StoreMap → Bool → StoreMap → Type 0
TellsOne p table k ls u true w = (l : Leaf) × In l ls × IsTrue (is_due p table k u l) × (w ≡ tell_all p l.births (tells l.agent) u)
TellsOne p table k ls u false w = Each (λ l. is_due p table k u l ≡ false) ls × (w ≡ u)

-- the same of the leaves of node n, started at t under births b, below whatever guards the store allows
abbrev pub TellsBelow : CoreProgram → List ℕ → ℕ → ℕ → ℕ → List ℕ → StoreMap → Bool → StoreMap → Type 0
TellsBelow p table k t n b u told w =
    (path : List Guard) → IsTrue (list_all (allows p u) path) → TellsOne p table k (leaves_of t (agent_at p.nodes n) n b path) u told w

-- the leaves at instant t of node n under births b, where z are the closed stores since it was started
abbrev pub leaves_since : CoreProgram → ℕ → ℕ → List ℕ → List StoreMap → List Leaf
leaves_since p t n b z = leaves p (started p z (agent_at p.nodes n) n b (t - length z)) t

-- the same where it is started at the instant of the first of these stores and at each later one up to t
abbrev pub leaves_of_hence : CoreProgram → ℕ → ℕ → List ℕ → List StoreMap → List Leaf
leaves_of_hence p t n b z = leaves p (flat_map (λ y. started p y (agent_at p.nodes n) n b (t - length y)) (suffixes z)) t

-- the leaves of the program after these closed stores: those of its root, which was started at instant 0
abbrev pub leaves_now : CoreProgram → List StoreMap → List Leaf
leaves_now p z = leaves p (started p z (agent_at p.nodes 0) 0 [] 0) (length z)
