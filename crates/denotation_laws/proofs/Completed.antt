-- How the output after closed stores is completed by one leaf after the other.
use Rattle.std.proofs.Common.{◌≡◌, ◌⊎◌, inl, inr, ℕ, suc, ◌+◌, ◌-◌, ◌<◌, ◌≤◌, Bool, true, false, ◌&&◌, ◌||◌, not, cond, List, [], ◌∷◌, length, Some, refl, sym, ap, ◌∙◌, subst, arith}
use Rattle.std.specs.Prelude.{IsTrue, slice_get, slice_index, nat_le, min}
use Rattle.std.proofs.lemmas.Bool.Decides.{nat_tests}
use Rattle.std.proofs.Math.Nat.{min-le_left, min-le_right}
use Rattle.std.proofs.lemmas.Option.{slice_get_within}
use Rattle.token_system.specs.Stores.{StoreMap}
use Rattle.token_system.proofs.Alike.{true_false}
use Rattle.agent_core.specs.declared.node.Closure.{Closure}
use Rattle.agent_core.specs.Agents.{Constraint, agent_at}
use Rattle.agent_core.specs.Programs.{CoreProgram}
use Rattle.agent_core.specs.WellFormed.{IsWellFormed}
use Rattle.agent_core.specs.Closures.{started}
use Rattle.agent_core.specs.Leaves.{Leaf, leaves, tells, runs}
use Rattle.agent_core.specs.Outputs.{IsOutput}
use Rattle.agent_core.specs.Rests.{entails}
use Rattle.agent_core.specs.RootOutputs.{roots_rest, IsOutputOf}
use Rattle.agent_core.specs.RestsAfter.{obs}
use Rattle.agent_core.specs.Scope.{ConstraintFits}
use Rattle.agent_core.specs.Stores.{IsStore, Below}
use Rattle.agent_core.specs.Strata.{Each, In, Stratifies}
use Rattle.agent_core.proofs.Bools.{first_of_both, second_of_both}
use Rattle.agent_core.proofs.Places.{root_place}
use Rattle.agent_core.proofs.Tellings.{tell_all-least, tell_all-entails, entails-above}
use Rattle.agent_laws.specs.LeafLevels.{least_told, leaf_level}
use Rattle.agent_laws.specs.Ways.{AreBelow, IsOnWay}
use Rattle.agent_laws.proofs.Eachs.{Each-map, Each-both}
use Rattle.agent_laws.proofs.Started.{IsOwn, started-closures}
use Rattle.agent_laws.proofs.RootRests.{started-rests}
use Rattle.agent_laws.proofs.Instance.{LeafFits}
use Rattle.agent_laws.proofs.ClosureOutputs.{leaves-fit, above_all, all_below}
use Rattle.agent_laws.proofs.Completing.{start-on_way, tell-on_way, stratum-on_way, end-on_way}
use Rattle.strata.proofs.Members.{in_each}
use Rattle.denotation_laws.specs.Dues.{is_upto, is_news, is_due, TellsOne, leaves_since, leaves_now}

-- LEVELS

upto-level : (table : List ℕ) (s k : ℕ) (c : Constraint) → IsTrue (is_upto table k c) → least_told table s c ≤ k
upto-level table s k [] h = absurd (true_false (sym h))
upto-level table s k (x ∷ c) h = go (nat_le (slice_index table x.0) k) refl h (upto-level table s k c)
  where
    go : (b : Bool) → nat_le (slice_index table x.0) k ≡ b → IsTrue (b || is_upto table k c) → (IsTrue (is_upto table k c) → least_told table s c ≤ k) → min (slice_index table x.0) (least_told table s c) ≤ k
    go true e g ih = let le : slice_index table x.0 ≤ k = grind (arith, nat_tests) in omega (arith, min-le_left (slice_index table x.0) (least_told table s c))
    go false e g ih = let le : least_told table s c ≤ k = ih g in omega (arith, min-le_right (slice_index table x.0) (least_told table s c))

level-upto : (table : List ℕ) (s k : ℕ) (c : Constraint) → Each (λ x. slice_index table x.0 < s) c → least_told table s c ≤ k → (c ≡ []) ⊎ IsTrue (is_upto table k c)
level-upto table s k [] low le = inl refl
level-upto table s k (x ∷ c) low le = inr (go (nat_le (slice_index table x.0) k) refl (level-upto table s k c low.1))
  where
    more : slice_index table x.0 < s → least_told table s c ≤ k → k < slice_index table x.0 → (c ≡ []) ⊎ IsTrue (is_upto table k c) → IsTrue (is_upto table k c)
    more lt rest above (inl none) = absurd (let e : least_told table s c ≡ s = ap (least_told table s) none in omega arith)
    more lt rest above (inr h) = h

    go : (b : Bool) → nat_le (slice_index table x.0) k ≡ b → (least_told table s c ≤ k → (c ≡ []) ⊎ IsTrue (is_upto table k c)) → IsTrue (b || is_upto table k c)
    go true e ih = refl
    go false e ih =
        let above : k < slice_index table x.0 = grind (arith, nat_tests) in
        let least : min (slice_index table x.0) (least_told table s c) ≤ k = le in
        let rest : least_told table s c ≤ k = omega arith in
        let lt : slice_index table x.0 < s = low.0 in
        more lt rest above (ih rest)

-- HOW MANY LEAVES ARE LEFT

module _ (p : CoreProgram) where
  abbrev pub has_told : StoreMap → Leaf → Bool
  has_told u l = entails p l.births u (tells l.agent)

  -- how many of the leaves tell something that the store does not entail
  abbrev pub untold : StoreMap → List Leaf → ℕ
  untold u [] = 0
  untold u (l ∷ ls) = cond (has_told u l) 0 1 + untold u ls

  abbrev Rises : StoreMap → StoreMap → Leaf → Type 0
  Rises u w l = IsTrue (has_told u l) → IsTrue (has_told w l)

  untold-le : (u w : StoreMap) (ls : List Leaf) → Each (Rises u w) ls → untold w ls ≤ untold u ls
  untold-le u w [] h = omega arith
  untold-le u w (l ∷ ls) h = let ih = untold-le u w ls h.1 in go (has_told u l) (has_told w l) h.0 ih
    where
      go : (a b : Bool) → (IsTrue a → IsTrue b) → untold w ls ≤ untold u ls → cond b 0 1 + untold w ls ≤ cond a 0 1 + untold u ls
      go true true f le = omega arith
      go true false f le = absurd (true_false (sym (f refl)))
      go false true f le = omega arith
      go false false f le = omega arith

  untold-less : (u w : StoreMap) (ls : List Leaf) (l : Leaf) → Each (Rises u w) ls → In l ls → has_told u l ≡ false → has_told w l ≡ true → untold w ls + 1 ≤ untold u ls
  untold-less u w [] l h i e f = absurd i
  untold-less u w (x ∷ ls) l h (inl same) e f =
      go (has_told u x) (has_told w x) (ap (has_told u) (sym same) ∙ e) (ap (has_told w) (sym same) ∙ f) (untold-le u w ls h.1)
    where
      go : (a b : Bool) → a ≡ false → b ≡ true → untold w ls ≤ untold u ls → cond b 0 1 + untold w ls + 1 ≤ cond a 0 1 + untold u ls
      go true b p q le = absurd (true_false p)
      go false true p q le = omega arith
      go false false p q le = absurd (true_false (sym q))
  untold-less u w (x ∷ ls) l h (inr i) e f =
      let ih = untold-less u w ls l h.1 i e f in go (has_told u x) (has_told w x) h.0 ih
    where
      go : (a b : Bool) → (IsTrue a → IsTrue b) → untold w ls + 1 ≤ untold u ls → cond b 0 1 + untold w ls + 1 ≤ cond a 0 1 + untold u ls
      go true true g le = omega arith
      go true false g le = absurd (true_false (sym (g refl)))
      go false true g le = omega arith
      go false false g le = omega arith

in_place : {X : Type 0} (x : X) (xs : List X) → In x xs → (n : ℕ) × (slice_get xs n ≡ Some x)
in_place x [] i = absurd i
in_place x (y ∷ xs) (inl e) = (0, ap Some (sym e))
in_place x (y ∷ xs) (inr i) = let r = in_place x xs i in (suc r.0, r.1)

is_false : (c : Bool) → IsTrue (not c) → c ≡ false
is_false true h = absurd (true_false (sym h))
is_false false h = refl

-- the leaves of a walk from the root are those of the program
pub root-leaves : (p : CoreProgram) (z : List StoreMap) (t : ℕ) → t ≡ length z → leaves_since p t 0 [] z ≡ leaves_now p z
root-leaves p z t e =
    let start : t - length z ≡ 0 = omega arith in
    ap (λ (s : ℕ). leaves p (started p z (agent_at p.nodes 0) 0 [] s) t) start ∙ ap (λ (m : ℕ). leaves p (started p z (agent_at p.nodes 0) 0 [] 0) m) e

-- so there are fewer walks left
pub fewer-left : (x y : ℕ) (a b : Bool) → b ≡ true → x + cond a 1 0 ≤ y → x + cond a 1 0 < y + cond b 1 0
fewer-left x y a true e le = omega arith
fewer-left x y a false e le = absurd (true_false (sym e))

-- where none told, none is to tell
pub calm-after : (p : CoreProgram) (table : List ℕ) (z : List StoreMap) (k : ℕ) (u w : StoreMap) (told : Bool) → TellsOne p table k (leaves_now p z) u told w → told ≡ false → Each (λ l. is_due p table k w l ≡ false) (leaves_now p z)
calm-after p table z k u w true h e = absurd (true_false e)
calm-after p table z k u w false h e = subst (λ (x : StoreMap). Each (λ l. is_due p table k x l ≡ false) (leaves_now p z)) (sym h.1) h.0

module _ (p : CoreProgram) (table : List ℕ) (is : IsWellFormed p) (strat : Stratifies p table) (z : List StoreMap) where
  abbrev rs : List Closure
  rs = started p z (agent_at p.nodes 0) 0 [] 0

  own : Each (IsOwn p) rs
  own = started-closures p (agent_at p.nodes 0) z 0 [] 0 [] (root_place p.nodes is.tree) refl

  obs-started : (u v : StoreMap) → obs p 0 [] 0 z u v ≡ roots_rest p rs (length z) u v
  obs-started u v = started-rests p u v (length z) (agent_at p.nodes 0) z 0 [] 0 (root_place p.nodes is.tree).listed (omega arith)

  -- an output of the program is one of the closures that are started now
  of_started : (i v : StoreMap) → IsOutput p z i v → IsOutputOf p rs (length z) i v
  of_started i v out = record {
    given = out.given;
    store = out.store;
    above = out.above;
    rests = sym (obs-started v v) ∙ out.rests;
    least = λ u iu low high h. out.least u iu low high (obs-started u v ∙ h);
  }

  fit : (s : ℕ) → AreBelow p table s → Each (LeafFits p table) (leaves_now p z)
  fit s low = leaves-fit p table s low is strat rs own (length z)

  abbrev high : ℕ
  high = above_all table

  cells_low : (b : List ℕ) (c : Constraint) → ConstraintFits p b c → Each (λ x. slice_index table x.0 < high) c
  cells_low b [] f = tt
  cells_low b (x ∷ c) f = (all_below p table x.0 (slice_get_within p.cells x.0 f.0.decl f.0.found), cells_low b c f.1)

  -- ONE LEAF MORE

  module _ (k : ℕ) (u w : StoreMap) where
    -- the store after a leaf has told is one of the program
    pub told-store : (told : Bool) → IsStore p u → TellsOne p table k (leaves_now p z) u told w → IsStore p w
    told-store false iu h = subst (IsStore p) (sym h.1) iu
    told-store true iu h =
        let f = (in_each (LeafFits p table) (leaves_now p z) h.0 (fit high (all_below p table)) h.1).told in
        subst (IsStore p) (sym h.3) (tell_all-least p h.0.births (tells h.0.agent) u iu f).store

    -- and there are fewer leaves left
    pub told-fewer : (told : Bool) → IsStore p u → TellsOne p table k (leaves_now p z) u told w → untold p w (leaves_now p z) + cond told 1 0 ≤ untold p u (leaves_now p z)
    told-fewer false iu h = let e : untold p w (leaves_now p z) ≡ untold p u (leaves_now p z) = ap (λ (x : StoreMap). untold p x (leaves_now p z)) h.1 in omega arith
    told-fewer true iu h =
        let l : Leaf = h.0 in
        let all = fit high (all_below p table) in
        let f = (in_each (LeafFits p table) (leaves_now p z) l all h.1).told in
        let after = tell_all-least p l.births (tells l.agent) u iu f in
        let above : Below p u w = subst (Below p u) (sym h.3) after.above in
        let news : IsTrue (is_news p table k u l.births (tells l.agent)) = second_of_both (runs p u l) (is_news p table k u l.births (tells l.agent)) h.2 in
        let fresh = is_false (has_told p u l) (second_of_both (is_upto table k (tells l.agent)) (not (has_told p u l)) news) in
        untold-less p u w (leaves_now p z) l
        (Each-map (LeafFits p table) (Rises p u w) (λ x g. entails-above p x.births u w (tells x.agent) g.told above) (leaves_now p z) all)
        h.1 fresh (ap (λ (x : StoreMap). has_told p x l) h.3 ∙ tell_all-entails p l.births (tells l.agent) u iu f)

    -- it is still on the way to each output
    pub told-on_way : (told : Bool) (i v : StoreMap) → IsOutput p z i v → TellsOne p table k (leaves_now p z) u told w → IsOnWay p table i v k u → IsOnWay p table i v k w
    told-on_way false i v out h way = subst (IsOnWay p table i v k) (sym h.1) way
    told-on_way true i v out h way =
        let l : Leaf = h.0 in
        let at = in_place l (leaves_now p z) h.1 in
        let run = first_of_both (runs p u l) (is_news p table k u l.births (tells l.agent)) h.2 in
        let news : IsTrue (is_news p table k u l.births (tells l.agent)) = second_of_both (runs p u l) (is_news p table k u l.births (tells l.agent)) h.2 in
        let low = upto-level table high k (tells l.agent) (first_of_both (is_upto table k (tells l.agent)) (not (has_told p u l)) news) in
        subst (IsOnWay p table i v k) (sym h.3) (tell-on_way p table high (all_below p table) is strat rs own (length z) i v (of_started i v out) k u at.0 l way at.1 low run)

  -- a leaf that is not to tell has told, where its level is low enough
  not_due : (k : ℕ) (u : StoreMap) (l : Leaf) → LeafFits p table l → is_due p table k u l ≡ false → leaf_level table high l ≤ k → IsTrue (runs p u l) → IsTrue (has_told p u l)
  not_due k u l f e le run = go (level-upto table high k (tells l.agent) (cells_low l.births (tells l.agent) f.told) le)
    where
      all_but : (a b c : Bool) → (a && (b && not c)) ≡ false → IsTrue a → IsTrue b → IsTrue c
      all_but true true true e x y = refl
      all_but true true false e x y = absurd (true_false e)
      all_but true false c e x y = absurd (true_false (sym y))
      all_but false b c e x y = absurd (true_false (sym x))

      go : (tells l.agent ≡ []) ⊎ IsTrue (is_upto table k (tells l.agent)) → IsTrue (has_told p u l)
      go (inl none) = ap (entails p l.births u) none
      go (inr upto) = all_but (runs p u l) (is_upto table k (tells l.agent)) (has_told p u l) e run upto

  -- where no leaf is left to tell, the stratum stands
  pub stratum-done : (k : ℕ) (u i v : StoreMap) → IsOutput p z i v → Each (λ l. is_due p table k u l ≡ false) (leaves_now p z) → IsOnWay p table i v k u → IsOnWay p table i v (k + 1) u
  stratum-done k u i v out calm way =
      let next : suc k ≡ k + 1 = omega arith in
      subst (λ (m : ℕ). IsOnWay p table i v m u) next
      (stratum-on_way p table high (all_below p table) is strat rs own (length z) i v (of_started i v out) k u way
      (Each-both (LeafFits p table) (λ l. is_due p table k u l ≡ false) (λ l. leaf_level table high l ≤ k → IsTrue (runs p u l) → IsTrue (has_told p u l)) (λ l f e. not_due k u l f e) (leaves_now p z) (fit high (all_below p table)) calm))

  -- the input is on the way
  pub way-start : (i v : StoreMap) → IsOutput p z i v → IsOnWay p table i v 0 i
  way-start i v out = start-on_way p table high (all_below p table) is strat rs own (length z) i v (of_started i v out)

  -- and where all strata stand, it is the output
  pub way-end : (s : ℕ) → AreBelow p table s → (w i v : StoreMap) → IsOutput p z i v → IsOnWay p table i v s w → w ≡ v
  way-end s low w i v out way = end-on_way p table s low is strat rs own (length z) i v (of_started i v out) w way
