-- How the output of closures is completed from their leaves: what a loop over strata needs to know.
use Rattle.std.proofs.Common.{◌≡◌, ℕ, suc, ◌≤◌, Bool, true, false, ◌&&◌, not, cond, List, [], ◌∷◌, Some, refl, sym, ap, ◌∙◌, subst, arith}
use Rattle.std.specs.Prelude.{Option, IsTrue, slice_get}
use Rattle.std.specs.List.{list_all}
use Rattle.std.proofs.Math.Bool.{and_assoc, not-not}
use Rattle.token_system.specs.declared.cell.Token.{Token}
use Rattle.token_system.specs.Stores.{StoreMap}
use Rattle.token_system.proofs.Alike.{true_false}
use Rattle.agent_core.specs.declared.node.Closure.{Closure}
use Rattle.agent_core.specs.declared.node.CellDecl.{CellDecl}
use Rattle.agent_core.specs.Programs.{CoreProgram}
use Rattle.agent_core.specs.WellFormed.{IsWellFormed}
use Rattle.agent_core.specs.Rests.{holds_at, holds, entails}
use Rattle.agent_core.specs.Tellings.{tell_at, tell_all}
use Rattle.agent_core.specs.Scope.{TokenFits}
use Rattle.agent_core.specs.Leaves.{Guard, Positive, Negative, Leaf, leaves, tells, allows, runs}
use Rattle.agent_core.specs.Strata.{Each, Stratifies}
use Rattle.agent_core.specs.RootOutputs.{IsOutputOf}
use Rattle.agent_core.proofs.Tellings.{Below-refl, Below-trans, tells_one}
use Rattle.agent_laws.specs.LeafRests.{asked, free}
use Rattle.agent_laws.specs.LeafLevels.{leaf_level, tell_ran}
use Rattle.agent_laws.specs.Ways.{AreBelow, IsOnWay}
use Rattle.agent_laws.proofs.Booleans.{and_swap}
use Rattle.agent_laws.proofs.Eachs.{Each-map, each_at, each_true}
use Rattle.agent_laws.proofs.System.{System}
use Rattle.agent_laws.proofs.Fixpoint as flat
use Rattle.agent_laws.proofs.Settling as settling
use Rattle.agent_laws.proofs.Instance.{LeafFits, system}
use Rattle.agent_laws.proofs.Started.{IsOwn}
use Rattle.agent_laws.proofs.ClosureOutputs.{leaves-fit, flat-output, by_strata, in_all}

-- TO RUN A LEAF IS TO FREE ITS PATH AND TO ANSWER ITS ASKS

pub runs-parts : (p : CoreProgram) (v : StoreMap) (path : List Guard) → list_all (allows p v) path ≡ (list_all (free p v) path && list_all (asked p v) path)
runs-parts p v [] = refl
runs-parts p v (Positive b c ∷ path) = ap (λ x. entails p b v c && x) (runs-parts p v path) ∙ and_swap (entails p b v c) (list_all (free p v) path) (list_all (asked p v) path)
runs-parts p v (Negative b c ∷ path) = ap (λ x. not (entails p b v c) && x) (runs-parts p v path) ∙ sym (and_assoc (not (entails p b v c)) (list_all (free p v) path) (list_all (asked p v) path))

parts : (f a : Bool) → IsTrue (f && a) → (not f ≡ false) × IsTrue a
parts true a h = (refl, h)
parts false a h = absurd (true_false (sym h))

whole : (f a : Bool) → not f ≡ false → IsTrue a → IsTrue (f && a)
whole true a e h = h
whole false a e h = absurd (true_false e)

module _ (p : CoreProgram) (table : List ℕ) (s : ℕ) (low : AreBelow p table s) (is : IsWellFormed p) (strat : Stratifies p table) (rs : List Closure) (own : Each (IsOwn p) rs) (t : ℕ)
    (i v : StoreMap) (out : IsOutputOf p rs t i v) where
  abbrev sys : System
  sys = system p table s low is

  fit : Each (LeafFits p table) (leaves p rs t)
  fit = leaves-fit p table s low is strat rs own t

  of_leaves : flat.IsOutput sys (leaves p rs t) i v
  of_leaves = flat-output p table s low is strat rs own t i v out

  abbrev Way : ℕ → StoreMap → Type 0
  Way = settling.IsWay sys (leaves p rs t) i fit out.given v of_leaves

  to_way : (k : ℕ) (w : StoreMap) → IsOnWay p table i v k w → Way k w
  to_way k w h = record {
    store = h.store;
    above = by_strata p table s low is strat rs own t i w h.above;
    below = by_strata p table s low is strat rs own t w v h.below;
    stands = h.stands;
  }

  of_way : (k : ℕ) (w : StoreMap) → Way k w → IsOnWay p table i v k w
  of_way k w h = record {
    store = h.store;
    above = in_all p table s low is strat rs own t i w h.above;
    below = in_all p table s low is strat rs own t w v h.below;
    stands = h.stands;
  }

  -- the input is on the way
  pub start-on_way : IsOnWay p table i v 0 i
  start-on_way = record { store = out.given; above = Below-refl p i; below = out.above; stands = λ n lt. absurd (omega arith) }

  -- a leaf of level at most k that the store runs may tell
  pub tell-on_way : (k : ℕ) (w : StoreMap) (n : ℕ) (l : Leaf) → IsOnWay p table i v k w → slice_get (leaves p rs t) n ≡ Some l → leaf_level table s l ≤ k → IsTrue (runs p w l)
      → IsOnWay p table i v k (tell_all p l.births (tells l.agent) w)
  tell-on_way k w n l h at le run =
      let r = parts (list_all (free p w) l.path) (list_all (asked p w) l.path) (sym (runs-parts p w l.path) ∙ run) in
      of_way k _ (settling.tell-way sys (leaves p rs t) i fit out.given v of_leaves k w l (to_way k w h)
      (each_at (LeafFits p table) (leaves p rs t) n l fit at) (each_at (flat.LeafRests sys v v) (leaves p rs t) n l of_leaves.rests at) le r.0 r.1)

  -- the output has what a leaf tells that it runs
  has_told : (n : ℕ) (l : Leaf) → slice_get (leaves p rs t) n ≡ Some l → IsTrue (runs p v l) → IsTrue (entails p l.births v (tells l.agent))
  has_told n l at run =
      let r = parts (list_all (free p v) l.path) (list_all (asked p v) l.path) (sym (runs-parts p v l.path) ∙ run) in
      (each_at (flat.LeafRests sys v v) (leaves p rs t) n l of_leaves.rests at r.0).0 r.1

  -- each single token may be told of a leaf that the output runs
  pub token-on_way : (k : ℕ) (w : StoreMap) (n j : ℕ) (l : Leaf) (pair : ℕ × Token) → IsOnWay p table i v k w → slice_get (leaves p rs t) n ≡ Some l → IsTrue (runs p v l)
      → slice_get (tells l.agent) j ≡ Some pair → IsOnWay p table i v k (tell_at (slice_get p.cells pair.0) p l.births w pair.0 pair.1)
  token-on_way k w n j l pair h at run e =
      let f : TokenFits p l.births pair = each_at (TokenFits p l.births) (tells l.agent) j pair (each_at (LeafFits p table) (leaves p rs t) n l fit at).told e in
      let has : IsTrue (holds p l.births v pair) = each_at (λ x. IsTrue (holds p l.births v x)) (tells l.agent) j pair
      (each_true (holds p l.births v) (λ x. IsTrue (holds p l.births v x)) (λ x g. g) (tells l.agent) (has_told n l at run)) e in
      let one = tells_one p l.births w pair h.store f in
      record {
        store = one.store;
        above = Below-trans p i w _ h.above one.above;
        below = one.least v out.store h.below (subst (λ (o : Option CellDecl). IsTrue (holds_at o p l.births v pair.0 pair.1)) f.found has);
        stands = λ q lt d x named fits g. one.above q d x named fits (h.stands q lt d x named fits g);
      }

  -- a leaf of level at most k that the store runs is run by the output
  pub runs-on_way : (k : ℕ) (w : StoreMap) (n : ℕ) (l : Leaf) → IsOnWay p table i v k w → slice_get (leaves p rs t) n ≡ Some l → leaf_level table s l ≤ k → IsTrue (runs p w l) → IsTrue (runs p v l)
  runs-on_way k w n l h at le run =
      let r = parts (list_all (free p w) l.path) (list_all (asked p w) l.path) (sym (runs-parts p w l.path) ∙ run) in
      let there = settling.runs_there sys (leaves p rs t) i fit out.given v of_leaves k w l (to_way k w h)
      (each_at (LeafFits p table) (leaves p rs t) n l fit at) (each_at (flat.LeafRests sys v v) (leaves p rs t) n l of_leaves.rests at) le r.0 r.1 in
      runs-parts p v l.path ∙ whole (list_all (free p v) l.path) (list_all (asked p v) l.path) there.0 there.1

  -- the leaf has told where the store runs it
  abbrev pub HasTold : StoreMap → Leaf → Type 0
  HasTold w l = IsTrue (runs p w l) → IsTrue (entails p l.births w (tells l.agent))

  -- where each leaf of level at most k has told, stratum k stands too
  pub stratum-on_way : (k : ℕ) (w : StoreMap) → IsOnWay p table i v k w → Each (λ l. leaf_level table s l ≤ k → HasTold w l) (leaves p rs t) → IsOnWay p table i v (suc k) w
  stratum-on_way k w h told =
      of_way (suc k) w (settling.stratum-way sys (leaves p rs t) i fit out.given v of_leaves k w (to_way k w h)
      (Each-map (λ l. leaf_level table s l ≤ k → HasTold w l) (flat.CalmUpto sys (suc k) w w)
      (λ l has lt off on. has (omega arith) (runs-parts p w l.path ∙ whole (list_all (free p w) l.path) (list_all (asked p w) l.path) off on)) (leaves p rs t) told))

  -- where all strata stand it is the output
  pub end-on_way : (w : StoreMap) → IsOnWay p table i v s w → w ≡ v
  end-on_way w h = settling.end-way sys (leaves p rs t) i fit out.given v of_leaves w (to_way s w h)

  run_same : (l : Leaf) → settling.runs sys (leaves p rs t) i fit out.given v of_leaves l ≡ runs p v l
  run_same l = ap (λ x. x && list_all (asked p v) l.path) (not-not (list_all (free p v) l.path)) ∙ sym (runs-parts p v l.path)

  tell_same : (ls : List Leaf) (u : StoreMap) → settling.tell_run sys (leaves p rs t) i fit out.given v of_leaves ls u ≡ tell_ran p v ls u
  tell_same [] u = refl
  tell_same (l ∷ ls) u =
      ap (λ b. settling.tell_run sys (leaves p rs t) i fit out.given v of_leaves ls (cond b (tell_all p l.births (tells l.agent) u) u)) (run_same l)
      ∙ tell_same ls (cond (runs p v l) (tell_all p l.births (tells l.agent) u) u)

  -- the output is the input with what the leaves that it runs tell, and no more
  pub output-is_told : tell_ran p v (leaves p rs t) i ≡ v
  output-is_told = sym (tell_same (leaves p rs t) i) ∙ settling.output-told sys (leaves p rs t) i fit out.given v of_leaves
