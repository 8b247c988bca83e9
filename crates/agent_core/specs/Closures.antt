-- Closures: nodes with the births of the new nodes around them. Which of them are started at an instant, and their order.
-- This project's own.
use Rattle.std.specs.Prelude.{ℕ, suc, ◌+◌, ◌-◌, if◌then◌else◌, List, [], ◌∷◌, ◌++◌, length, flat_map}
use Rattle.std.specs.Ordering.{nat_cmp, on}
use Rattle.std.specs.declared.cmp.Ordering.{Ordering}
use Rattle.std.specs.declared.cmp.Ordering.TheVariants.{Less, Equal, Greater}
use Rattle.std.specs.Cmp.Lexicographic.{slice_cmp}
use Rattle.token_system.specs.Stores.{StoreMap}
use Rattle.agent_core.specs.declared.node.Closure.{Closure}
use Rattle.agent_core.specs.Agents.{Agent, Skip, Tell, Then, Else, Par, New, Hence, Next, agent_at}
use Rattle.agent_core.specs.Programs.{CoreProgram}
use Rattle.agent_core.specs.Listing.{size}
use Rattle.agent_core.specs.Rests.{entails}
use Rattle.agent_core.specs.RestsAfter.{suffixes}

abbrev pub closure : ℕ → List ℕ → Closure
closure n b = record { node = n; births = b }

-- ORDER: by node, and then by births

abbrev pub closure_key : Closure → List ℕ
closure_key c = c.node ∷ c.births

abbrev pub closure_cmp : Closure → Closure → Ordering
closure_cmp = on closure_key (slice_cmp nat_cmp)

-- the closure put in its place, once
abbrev pub put_by : Ordering → Closure → Closure → List Closure → List Closure → List Closure
put_by Less c first rest put = c ∷ first ∷ rest
put_by Equal c first rest put = first ∷ rest
put_by Greater c first rest put = first ∷ put

abbrev pub put : Closure → List Closure → List Closure
put c [] = c ∷ []
put c (first ∷ rest) = put_by (closure_cmp c first) c first rest (put c rest)

-- the distinct closures of a list, in order
abbrev pub sorted : List Closure → List Closure
sorted [] = []
sorted (c ∷ cs) = put c (sorted cs)

-- STARTS

-- the closures that are started now by the agent of node n, which was started at s under births b, where z are the closed stores since s
abbrev pub started : CoreProgram → List StoreMap → Agent → ℕ → List ℕ → ℕ → List Closure
started p [] a n b s = closure n b ∷ []
started p (w ∷ z) Skip n b s = []
started p (w ∷ z) (Tell c) n b s = []
started p (w ∷ z) (Par l r) n b s = started p (w ∷ z) l (suc n) b s ++ started p (w ∷ z) r (suc n + size l) b s
started p (w ∷ z) (Then c a) n b s = if entails p b w c then started p (w ∷ z) a (suc n) b s else []
started p (w ∷ z) (Else c a) n b s = if entails p b w c then [] else started p (w ∷ z) a (suc n) b s
started p (w ∷ z) (New cell a) n b s = started p (w ∷ z) a (suc n) (b ++ s ∷ []) s
started p (w ∷ z) (Next a) n b s = started p z a (suc n) b (s + 1)
started p (w ∷ z) (Hence a) n b s = flat_map (λ y. started p y a (suc n) b (s + 1 + length z - length y)) (suffixes z)

-- the roots of the instant after these closed stores: the closures that hence and next start there, and at instant 0 the root
abbrev pub roots : CoreProgram → List StoreMap → List Closure
roots p z = sorted (started p z (agent_at p.nodes 0) 0 [] 0)
