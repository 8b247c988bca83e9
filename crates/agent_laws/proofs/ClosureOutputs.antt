-- Closures of a program that a table stratifies have exactly one output on each input, at whatever instant they are started.
use Rattle.std.proofs.Common.{◌≡◌, ℕ, zero, suc, ◌+◌, ◌<◌, Bool, true, false, not, List, [], ◌∷◌, ◌++◌, refl, sym, ◌∙◌, arith}
use Rattle.std.specs.Prelude.{IsTrue, slice_index}
use Rattle.std.specs.List.{list_all}
use Rattle.token_system.specs.Stores.{StoreMap}
use Rattle.token_system.proofs.Alike.{true_false}
use Rattle.agent_core.specs.declared.node.Closure.{Closure}
use Rattle.agent_core.specs.Agents.{Agent, Skip, Tell, Then, Else, Par, New, Hence, Next, agent_at}
use Rattle.agent_core.specs.Programs.{CoreProgram}
use Rattle.agent_core.specs.Listing.{size}
use Rattle.agent_core.specs.WellFormed.{IsWellFormed}
use Rattle.agent_core.specs.Scope.{ConstraintFits, AgentFits}
use Rattle.agent_core.specs.Stores.{IsStore, Below}
use Rattle.agent_core.specs.Leaves.{Guard, Positive, Negative, Leaf, leaves_of, leaves, tells}
use Rattle.agent_core.specs.Strata.{Each, Stratifies}
use Rattle.agent_core.specs.RootOutputs.{roots_rest, IsOutputOf}
use Rattle.agent_core.proofs.Scopes.{closure_fits}
use Rattle.agent_core.proofs.Tellings.{Below-refl}
use Rattle.agent_laws.specs.LeafRests.{path_rests, leaf_rests}
use Rattle.agent_laws.specs.Ways.{AreBelow}
use Rattle.agent_laws.proofs.Eachs.{Each-map, Each-both, Each-append, each_true, true_each}
use Rattle.agent_laws.proofs.System.{System}
use Rattle.agent_laws.proofs.Fixpoint as flat
use Rattle.agent_laws.proofs.LeafLevels.{LeafStratified}
use Rattle.agent_laws.proofs.Floors.{leaves_stratified}
use Rattle.agent_laws.proofs.NodeFloors.{node_floors}
use Rattle.agent_laws.proofs.Started.{IsOwn}
use Rattle.agent_laws.proofs.Flattened.{roots_leaves, ClosureFits}
use Rattle.agent_laws.proofs.Instance.{GuardFits, LeafFits, system, below_of, of_below}

-- WHAT LEAVES NAME FITS

abbrev pub Named : CoreProgram → Leaf → Type 0
Named p l = ConstraintFits p l.births (tells l.agent) × Each (GuardFits p) l.path

pub leaves-named : (p : CoreProgram) (t : ℕ) (a : Agent) (n : ℕ) (b : List ℕ) (path : List Guard) → AgentFits p t a b → Each (GuardFits p) path → Each (Named p) (leaves_of t a n b path)
leaves-named p t Skip n b path f g = ((tt, g), tt)
leaves-named p t (Tell c) n b path f g = ((f, g), tt)
leaves-named p t (Hence a) n b path f g = ((tt, g), tt)
leaves-named p t (Next a) n b path f g = ((tt, g), tt)
leaves-named p t (Par l r) n b path f g =
    Each-append (Named p) (leaves_of t l (suc n) b path) (leaves_of t r (suc n + size l) b path) (leaves-named p t l (suc n) b path f.0 g) (leaves-named p t r (suc n + size l) b path f.1 g)
leaves-named p t (Then c a) n b path f g = leaves-named p t a (suc n) b (path ++ Positive b c ∷ []) f.1 (Each-append (GuardFits p) path (Positive b c ∷ []) g (f.0, tt))
leaves-named p t (Else c a) n b path f g = leaves-named p t a (suc n) b (path ++ Negative b c ∷ []) f.1 (Each-append (GuardFits p) path (Negative b c ∷ []) g (f.0, tt))
leaves-named p t (New cell a) n b path f g = leaves-named p t a (suc n) (b ++ t ∷ []) path f g

-- THE TEST OF A LEAF, AND THE FACTS THAT IT STANDS FOR

pub path_facts : (f a b x y : Bool) → IsTrue (path_rests f a b x y) → not f ≡ false → (IsTrue a → IsTrue x) × (IsTrue b → IsTrue y)
path_facts false a b x y h e = absurd (true_false e)
path_facts true false false x y h e = (λ i. absurd (true_false (sym i)), λ i. absurd (true_false (sym i)))
path_facts true true false true y h e = (λ i. refl, λ i. absurd (true_false (sym i)))
path_facts true true false false y h e = absurd (true_false (sym h))
path_facts true false true x y h e = (λ i. absurd (true_false (sym i)), λ i. h)
path_facts true true true true y h e = (λ i. refl, λ i. h)
path_facts true true true false y h e = absurd (true_false (sym h))

pub path_test : (f a b x y : Bool) → (not f ≡ false → (IsTrue a → IsTrue x) × (IsTrue b → IsTrue y)) → IsTrue (path_rests f a b x y)
path_test false a b x y h = refl
path_test true a b x y h = go a b x y (h refl)
  where
    go : (a b x y : Bool) → (IsTrue a → IsTrue x) × (IsTrue b → IsTrue y) → IsTrue (path_rests true a b x y)
    go false false x y h = refl
    go true false true y h = refl
    go true false false y h = h.0 refl
    go false true x y h = h.1 refl
    go true true true y h = h.1 refl
    go true true false y h = h.0 refl

-- CLOSURES AND THEIR LEAVES

-- where u is below v, closures rest exactly where their leaves do
pub closures_leaves : (p : CoreProgram) → IsWellFormed p → (rs : List Closure) → Each (IsOwn p) rs → (t : ℕ) (u v : StoreMap) → Below p u v
    → roots_rest p rs t u v ≡ list_all (leaf_rests p u v) (leaves p rs t)
closures_leaves p is rs own t u v below = sym (roots_leaves p t u v below rs (Each-map (IsOwn p) (ClosureFits p t u v below) (λ r h. closure_fits p is r.node r.births h t) rs own))

module _ (p : CoreProgram) (table : List ℕ) (s : ℕ) (low : AreBelow p table s) (is : IsWellFormed p) (strat : Stratifies p table) (rs : List Closure) (own : Each (IsOwn p) rs) (t : ℕ) where
  abbrev sys : System
  sys = system p table s low is

  -- each leaf is one of the system
  pub leaves-fit : Each (LeafFits p table) (leaves p rs t)
  leaves-fit = go rs own
    where
      go : (rs : List Closure) → Each (IsOwn p) rs → Each (LeafFits p table) (leaves p rs t)
      go [] h = tt
      go (r ∷ rs) h =
          Each-append (LeafFits p table) (leaves_of t (agent_at p.nodes r.node) r.node r.births []) (leaves p rs t)
          (Each-both (Named p) (LeafStratified table) (LeafFits p table) (λ l named s. record { told = named.0; path = named.1; stratified = s }) _
          (leaves-named p t (agent_at p.nodes r.node) r.node r.births [] (closure_fits p is r.node r.births h.0 t) tt)
          (leaves_stratified table t (agent_at p.nodes r.node) r.node r.births [] 0 (node_floors p table is strat r.node h.0.node) tt))
          (go rs h.1)

  to_leaves : (u v : StoreMap) → Below p u v → IsTrue (roots_rest p rs t u v) → Each (flat.LeafRests sys v u) (leaves p rs t)
  to_leaves u v below h = each_true (leaf_rests p u v) (flat.LeafRests sys v u) (λ l r. path_facts _ _ _ _ _ r) (leaves p rs t) (sym (closures_leaves p is rs own t u v below) ∙ h)

  from_leaves : (u v : StoreMap) → Below p u v → Each (flat.LeafRests sys v u) (leaves p rs t) → IsTrue (roots_rest p rs t u v)
  from_leaves u v below h = closures_leaves p is rs own t u v below ∙ true_each (leaf_rests p u v) (flat.LeafRests sys v u) (λ l r. path_test _ _ _ _ _ r) (leaves p rs t) h

  -- a store is below another where it is so stratum by stratum
  abbrev pub by_strata : (u w : StoreMap) → Below p u w → (k : ℕ) → sys.Upto k u w
  by_strata = of_below p table s low is

  abbrev pub in_all : (u w : StoreMap) → ((k : ℕ) → sys.Upto k u w) → Below p u w
  in_all = below_of p table s low is

  -- the outputs of the closures are those of the leaves
  pub flat-output : (i v : StoreMap) → IsOutputOf p rs t i v → flat.IsOutput sys (leaves p rs t) i v
  flat-output i v out = record {
    store = out.store;
    above = by_strata i v out.above;
    rests = to_leaves v v (Below-refl p v) out.rests;
    least = λ u iu low high h. out.least u iu (in_all i u low) (in_all u v high) (from_leaves u v (in_all u v high) h);
  }

  pub output-flat : (i v : StoreMap) → IsStore p i → flat.IsOutput sys (leaves p rs t) i v → IsOutputOf p rs t i v
  output-flat i v ii out = record {
    given = ii;
    store = out.store;
    above = in_all i v out.above;
    rests = from_leaves v v (Below-refl p v) out.rests;
    least = λ u iu low high h. out.least u iu (by_strata i u low) (by_strata u v high) (to_leaves u v high h);
  }

  pub has_leaf_output : (i : StoreMap) → IsStore p i → (v : StoreMap) × IsOutputOf p rs t i v
  has_leaf_output i ii = (flat.output sys (leaves p rs t) i leaves-fit ii, output-flat i _ ii (flat.has_output sys (leaves p rs t) i leaves-fit ii))

  pub one_leaf_output : (i v w : StoreMap) → IsOutputOf p rs t i v → IsOutputOf p rs t i w → v ≡ w
  one_leaf_output i v w ov ow = flat.one_output sys (leaves p rs t) i leaves-fit ov.given v w (flat-output i v ov) (flat-output i w ow)

-- a number above each of the table's
abbrev pub above_all : List ℕ → ℕ
above_all [] = 1
above_all (x ∷ xs) = suc x + above_all xs

table-low : (table : List ℕ) (c : ℕ) → slice_index table c < above_all table
table-low [] c = omega arith
table-low (x ∷ table) zero = omega arith
table-low (x ∷ table) (suc c) = let h = table-low table c in omega arith

pub all_below : (p : CoreProgram) (table : List ℕ) → AreBelow p table (above_all table)
all_below p table c within = table-low table c

pub closures-have_output : (p : CoreProgram) (table : List ℕ) → IsWellFormed p → Stratifies p table → (rs : List Closure) → Each (IsOwn p) rs → (t : ℕ) (i : StoreMap) → IsStore p i → (v : StoreMap) × IsOutputOf p rs t i v
closures-have_output p table is strat rs own t i ii = has_leaf_output p table (above_all table) (all_below p table) is strat rs own t i ii

pub closures-one_output : (p : CoreProgram) (table : List ℕ) → IsWellFormed p → Stratifies p table → (rs : List Closure) → Each (IsOwn p) rs → (t : ℕ) (i v w : StoreMap) → IsOutputOf p rs t i v → IsOutputOf p rs t i w → v ≡ w
closures-one_output p table is strat rs own t i v w ov ow = one_leaf_output p table (above_all table) (all_below p table) is strat rs own t i v w ov ow
