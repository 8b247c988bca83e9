-- The least number that a cell may have which is told under asks, and that this comes to the same.
use Rattle.std.proofs.Common.{ℕ, suc, ◌+◌, ◌<◌, ◌≤◌, Bool, true, false, List, [], ◌∷◌, ◌++◌, arith}
use Rattle.std.specs.Prelude.{map, slice_index, max, if◌then◌else◌}
use Rattle.agent_core.specs.Agents.{Agent, Constraint, Skip, Tell, Then, Else, Par, New, Hence, Next, agent_at}
use Rattle.agent_core.specs.Programs.{CoreProgram}
use Rattle.agent_core.specs.Listing.{size}
use Rattle.agent_core.specs.Leaves.{Guard, Positive, Negative, leaves_of}
use Rattle.agent_core.specs.Strata.{Each, Asked, asked_by, agent_edges, Meets, Stratifies}
use Rattle.agent_laws.proofs.Eachs.{Each-map, Each-append, Each-parts}
use Rattle.agent_laws.proofs.LeafLevels.{Under, LeafStratified, path-le}

-- the least number that k and what is asked allow
abbrev pub floor : List ℕ → ℕ → ℕ → Constraint → ℕ
floor table more k [] = k
floor table more k (x ∷ c) = floor table more (max k (slice_index table x.0 + more)) c

-- the told cells below an agent have at least this number
abbrev pub Floors : List ℕ → Agent → ℕ → Type 0
Floors table Skip k = Unit {0}
Floors table (Tell c) k = Each (λ x. k ≤ slice_index table x.0) c
Floors table (Then c a) k = Floors table a (floor table 0 k c)
Floors table (Else c a) k = Floors table a (floor table 1 k c)
Floors table (Par l r) k = Floors table l k × Floors table r k
Floors table (New cell a) k = Floors table a k
Floors table (Hence a) k = Floors table a 0
Floors table (Next a) k = Floors table a 0

pub floor-mono : (table : List ℕ) (more j k : ℕ) (c : Constraint) → j ≤ k → floor table more j c ≤ floor table more k c
floor-mono table more j k [] le = le
floor-mono table more j k (x ∷ c) le = floor-mono table more (max j (slice_index table x.0 + more)) (max k (slice_index table x.0 + more)) c (omega arith)

pub floor-above : (table : List ℕ) (more k : ℕ) (c : Constraint) → k ≤ floor table more k c
floor-above table more k [] = omega arith
floor-above table more k (x ∷ c) = let h = floor-above table more (max k (slice_index table x.0 + more)) c in omega arith

pub Floors-le : (table : List ℕ) (a : Agent) (j k : ℕ) → j ≤ k → Floors table a k → Floors table a j
Floors-le table Skip j k le h = tt
Floors-le table (Tell c) j k le h = Each-map (λ x. k ≤ slice_index table x.0) (λ x. j ≤ slice_index table x.0) (λ x l. omega arith) c h
Floors-le table (Then c a) j k le h = Floors-le table a (floor table 0 j c) (floor table 0 k c) (floor-mono table 0 j k c le) h
Floors-le table (Else c a) j k le h = Floors-le table a (floor table 1 j c) (floor table 1 k c) (floor-mono table 1 j k c le) h
Floors-le table (Par l r) j k le h = (Floors-le table l j k le h.0, Floors-le table r j k le h.1)
Floors-le table (New cell a) j k le h = Floors-le table a j k le h
Floors-le table (Hence a) j k le h = h
Floors-le table (Next a) j k le h = h

then_under : (table : List ℕ) (k m : ℕ) (c : Constraint) → floor table 0 k c ≤ m → Each (λ x. slice_index table x.0 ≤ m) c
then_under table k m [] le = tt
then_under table k m (x ∷ c) le = (let h = floor-above table 0 (max k (slice_index table x.0 + 0)) c in omega arith, then_under table (max k (slice_index table x.0 + 0)) m c le)

else_under : (table : List ℕ) (k m : ℕ) (c : Constraint) → floor table 1 k c ≤ m → Each (λ x. slice_index table x.0 < m) c
else_under table k m [] le = tt
else_under table k m (x ∷ c) le = (let h = floor-above table 1 (max k (slice_index table x.0 + 1)) c in omega arith, else_under table (max k (slice_index table x.0 + 1)) m c le)

-- so the leaves below an agent are stratified
pub leaves_stratified : (table : List ℕ) (t : ℕ) (a : Agent) (n : ℕ) (b : List ℕ) (path : List Guard) (k : ℕ) → Floors table a k → Each (Under table k) path → Each (LeafStratified table) (leaves_of t a n b path)
leaves_stratified table t Skip n b path k h g = (tt, tt)
leaves_stratified table t (Tell c) n b path k h g = (Each-map (λ x. k ≤ slice_index table x.0) (λ x. Each (Under table (slice_index table x.0)) path) (λ x le. path-le table k _ path le g) c h, tt)
leaves_stratified table t (Hence a) n b path k h g = (tt, tt)
leaves_stratified table t (Next a) n b path k h g = (tt, tt)
leaves_stratified table t (Par l r) n b path k h g =
    Each-append (LeafStratified table) (leaves_of t l (suc n) b path) (leaves_of t r (suc n + size l) b path) (leaves_stratified table t l (suc n) b path k h.0 g) (leaves_stratified table t r (suc n + size l) b path k h.1 g)
leaves_stratified table t (Then c a) n b path k h g =
    leaves_stratified table t a (suc n) b (path ++ Positive b c ∷ []) (floor table 0 k c) h
    (Each-append (Under table (floor table 0 k c)) path (Positive b c ∷ []) (path-le table k _ path (floor-above table 0 k c) g) (then_under table k _ c (omega arith), tt))
leaves_stratified table t (Else c a) n b path k h g =
    leaves_stratified table t a (suc n) b (path ++ Negative b c ∷ []) (floor table 1 k c) h
    (Each-append (Under table (floor table 1 k c)) path (Negative b c ∷ []) (path-le table k _ path (floor-above table 1 k c) g) (else_under table k _ c (omega arith), tt))
leaves_stratified table t (New cell a) n b path k h g = leaves_stratified table t a (suc n) (b ++ t ∷ []) path k h g

-- THE SAME BY EDGES

abbrev weight : Bool → ℕ
weight negative = if negative then 1 else 0

-- k is the least number that a path allows
pub record IsFloor (table : List ℕ) (path : List Asked) (k : ℕ) : Type 0 where
  pub each : Each (λ g. slice_index table g.cell + weight g.negative ≤ k) path
  pub least : (m : ℕ) → Each (λ g. slice_index table g.cell + weight g.negative ≤ m) path → k ≤ m

floor-is : (table : List ℕ) (n : ℕ) (negative : Bool) (c : Constraint) (path : List Asked) (k : ℕ) → IsFloor table path k → IsFloor table (path ++ asked_by n negative c) (floor table (weight negative) k c)
floor-is table n negative c path k h = record {
  each = Each-append (λ g. slice_index table g.cell + weight g.negative ≤ floor table (weight negative) k c) path (asked_by n negative c)
      (Each-map (λ g. slice_index table g.cell + weight g.negative ≤ k) (λ g. slice_index table g.cell + weight g.negative ≤ floor table (weight negative) k c) (λ g le. let a = floor-above table (weight negative) k c in omega arith) path h.each) (mine c k);
  least = λ m e. let r = Each-parts (λ g. slice_index table g.cell + weight g.negative ≤ m) path (asked_by n negative c) e in within c k m (h.least m r.0) r.1;
}
  where
    mine : (c : Constraint) (k : ℕ) → Each (λ g. slice_index table g.cell + weight g.negative ≤ floor table (weight negative) k c) (asked_by n negative c)
    mine [] k = tt
    mine (x ∷ c) k = (let a = floor-above table (weight negative) (max k (slice_index table x.0 + weight negative)) c in omega arith, mine c (max k (slice_index table x.0 + weight negative)))

    within : (c : Constraint) (k m : ℕ) → k ≤ m → Each (λ g. slice_index table g.cell + weight g.negative ≤ m) (asked_by n negative c) → floor table (weight negative) k c ≤ m
    within [] k m le e = le
    within (x ∷ c) k m le e = within c (max k (slice_index table x.0 + weight negative)) m (let a = e.0 in omega arith) e.1

pub start-is : (table : List ℕ) → IsFloor table [] 0
start-is table = record { each = tt; least = λ m e. omega arith }

edges_of-meet : (table : List ℕ) (n d : ℕ) (path : List Asked) → Each (Meets table) (map (λ g. record { guard = g; tell = n; told = d }) path) → Each (λ g. slice_index table g.cell + weight g.negative ≤ slice_index table d) path
edges_of-meet table n d [] h = tt
edges_of-meet table n d (g ∷ path) h = (h.0, edges_of-meet table n d path h.1)

meet-edges_of : (table : List ℕ) (n d : ℕ) (path : List Asked) → Each (λ g. slice_index table g.cell + weight g.negative ≤ slice_index table d) path → Each (Meets table) (map (λ g. record { guard = g; tell = n; told = d }) path)
meet-edges_of table n d [] h = tt
meet-edges_of table n d (g ∷ path) h = (h.0, meet-edges_of table n d path h.1)

tell-floor : (table : List ℕ) (n : ℕ) (c : Constraint) (path : List Asked) (k : ℕ) → IsFloor table path k → Each (Meets table) (agent_edges n (Tell c) path) → Each (λ x. k ≤ slice_index table x.0) c
tell-floor table n [] path k is h = tt
tell-floor table n (x ∷ c) path k is h =
    let r = Each-parts (Meets table) (map (λ g. record { guard = g; tell = n; told = x.0 }) path) (agent_edges n (Tell c) path) h in
    (is.least _ (edges_of-meet table n x.0 path r.0), tell-floor table n c path k is r.1)

floor-tell : (table : List ℕ) (n : ℕ) (c : Constraint) (path : List Asked) (k : ℕ) → IsFloor table path k → Each (λ x. k ≤ slice_index table x.0) c → Each (Meets table) (agent_edges n (Tell c) path)
floor-tell table n [] path k is h = tt
floor-tell table n (x ∷ c) path k is h =
    Each-append (Meets table) (map (λ g. record { guard = g; tell = n; told = x.0 }) path) (agent_edges n (Tell c) path)
    (meet-edges_of table n x.0 path (Each-map (λ g. slice_index table g.cell + weight g.negative ≤ k) (λ g. slice_index table g.cell + weight g.negative ≤ slice_index table x.0) (λ g le. let a = h.0 in omega arith) path is.each))
    (floor-tell table n c path k is h.1)

-- where every edge is met
pub meets-floors : (table : List ℕ) (a : Agent) (n : ℕ) (path : List Asked) (k : ℕ) → IsFloor table path k → Each (Meets table) (agent_edges n a path) → Floors table a k
meets-floors table Skip n path k is h = tt
meets-floors table (Tell c) n path k is h = tell-floor table n c path k is h
meets-floors table (Then c a) n path k is h = meets-floors table a (suc n) (path ++ asked_by n false c) (floor table 0 k c) (floor-is table n false c path k is) h
meets-floors table (Else c a) n path k is h = meets-floors table a (suc n) (path ++ asked_by n true c) (floor table 1 k c) (floor-is table n true c path k is) h
meets-floors table (Par l r) n path k is h =
    let e = Each-parts (Meets table) (agent_edges (suc n) l path) (agent_edges (suc n + size l) r path) h in
    (meets-floors table l (suc n) path k is e.0, meets-floors table r (suc n + size l) path k is e.1)
meets-floors table (New cell a) n path k is h = meets-floors table a (suc n) path k is h
meets-floors table (Hence a) n path k is h = meets-floors table a (suc n) [] 0 (start-is table) h
meets-floors table (Next a) n path k is h = meets-floors table a (suc n) [] 0 (start-is table) h

-- and only there
pub floors-meet : (table : List ℕ) (a : Agent) (n : ℕ) (path : List Asked) (k : ℕ) → IsFloor table path k → Floors table a k → Each (Meets table) (agent_edges n a path)
floors-meet table Skip n path k is h = tt
floors-meet table (Tell c) n path k is h = floor-tell table n c path k is h
floors-meet table (Then c a) n path k is h = floors-meet table a (suc n) (path ++ asked_by n false c) (floor table 0 k c) (floor-is table n false c path k is) h
floors-meet table (Else c a) n path k is h = floors-meet table a (suc n) (path ++ asked_by n true c) (floor table 1 k c) (floor-is table n true c path k is) h
floors-meet table (Par l r) n path k is h =
    Each-append (Meets table) (agent_edges (suc n) l path) (agent_edges (suc n + size l) r path) (floors-meet table l (suc n) path k is h.0) (floors-meet table r (suc n + size l) path k is h.1)
floors-meet table (New cell a) n path k is h = floors-meet table a (suc n) path k is h
floors-meet table (Hence a) n path k is h = floors-meet table a (suc n) [] 0 (start-is table) h
floors-meet table (Next a) n path k is h = floors-meet table a (suc n) [] 0 (start-is table) h

pub root_floors : (p : CoreProgram) (table : List ℕ) → Stratifies p table → Floors table (agent_at p.nodes 0) 0
root_floors p table strat = meets-floors table (agent_at p.nodes 0) 0 [] 0 (start-is table) strat.each
