-- After closed stores the program rests exactly where every closure that is started now rests.
use Rattle.std.proofs.Common.{◌≡◌, ℕ, suc, ◌+◌, ◌-◌, ◌≤◌, Bool, true, false, ◌&&◌, not, List, [], ◌∷◌, ◌++◌, length, refl, sym, ap, ◌∙◌, arith}
use Rattle.std.specs.Prelude.{flat_map, if◌then◌else◌}
use Rattle.std.specs.List.{list_all}
use Rattle.std.proofs.lemmas.List.Folds.{list_all-append}
use Rattle.std.specs.declared.cmp.Ordering.{Ordering}
use Rattle.std.specs.declared.cmp.Ordering.TheVariants.{Less, Equal, Greater}
use Rattle.std.proofs.Math.Bool.{and-true, and_self_left}
use Rattle.token_system.specs.Stores.{StoreMap}
use Rattle.agent_core.specs.declared.node.Closure.{Closure}
use Rattle.agent_core.specs.declared.node.Node.{Node}
use Rattle.agent_core.specs.Agents.{Agent, Skip, Tell, Then, Else, Par, New, Hence, Next, agent_at}
use Rattle.agent_core.specs.Programs.{CoreProgram}
use Rattle.agent_core.specs.Listing.{size, listing, IsListing}
use Rattle.agent_core.specs.Rests.{◌⇒◌, entails, agent_rests, rests}
use Rattle.agent_core.specs.RestsAfter.{suffixes, rests_after, obs}
use Rattle.agent_core.specs.Closures.{closure_cmp, put_by, put, sorted, started, roots}
use Rattle.agent_core.specs.Strata.{Each}
use Rattle.agent_core.specs.RootOutputs.{roots_rest}
use Rattle.agent_core.proofs.Standing.{StandsAt, stands-tail}
use Rattle.agent_core.proofs.ListingTrees.{left_listed, right_listed, listed_tree}
use Rattle.agent_core.proofs.Places.{root_place}
use Rattle.agent_laws.proofs.Booleans.{and_swap}
use Rattle.agent_laws.proofs.Eachs.{Each-map}
use Rattle.agent_laws.proofs.Sorting.{closure_anti}

-- each suffix is at most as long
longer : (n : ℕ) (ys : List (List StoreMap)) → Each (λ y. length y ≤ n) ys → Each (λ y. length y ≤ suc n) ys
longer n ys h = Each-map (λ y. length y ≤ n) (λ y. length y ≤ suc n) (λ y le. omega arith) ys h

pub suffixes-length : (z : List StoreMap) → Each (λ y. length y ≤ length z) (suffixes z)
suffixes-length [] = (omega arith, tt)
suffixes-length (w ∷ z) = (omega arith, longer (length z) (suffixes z) (suffixes-length z))

module _ (p : CoreProgram) (u v : StoreMap) (t : ℕ) where
  abbrev root_rests : Closure → Bool
  root_rests r = rests p r.node r.births t u v

  abbrev pub all_rest : List Closure → Bool
  all_rest rs = list_all root_rests rs

  put-rests : (r : Closure) (rs : List Closure) → all_rest (put r rs) ≡ (root_rests r && all_rest rs)
  put-rests r [] = refl
  put-rests r (first ∷ rest) = go (closure_cmp r first) refl (put-rests r rest)
    where
      go : (o : Ordering) → closure_cmp r first ≡ o → all_rest (put r rest) ≡ (root_rests r && all_rest rest)
          → all_rest (put_by o r first rest (put r rest)) ≡ (root_rests r && (root_rests first && all_rest rest))
      go Less e ih = refl
      go Equal e ih = sym (and_self_left (root_rests first) (all_rest rest)) ∙ ap (λ x. root_rests x && (root_rests first && all_rest rest)) (sym (closure_anti r first e))
      go Greater e ih = ap (λ x. root_rests first && x) ih ∙ and_swap (root_rests first) (root_rests r) (all_rest rest)

  pub sorted-rests : (rs : List Closure) → all_rest (sorted rs) ≡ all_rest rs
  sorted-rests [] = refl
  sorted-rests (r ∷ rs) = put-rests r (sorted rs) ∙ ap (λ x. root_rests r && x) (sorted-rests rs)

  then_started : (e x : Bool) (rs : List Closure) → x ≡ all_rest rs → (e ⇒ x) ≡ all_rest (if e then rs else [])
  then_started true x rs h = h
  then_started false x rs h = refl

  else_started : (e x : Bool) (rs : List Closure) → x ≡ all_rest rs → (not e ⇒ x) ≡ all_rest (if e then [] else rs)
  else_started true x rs h = refl
  else_started false x rs h = h

  par_started : (x y : Bool) (rs qs : List Closure) → x ≡ all_rest rs → y ≡ all_rest qs → (x && y) ≡ all_rest (rs ++ qs)
  par_started x y rs qs h g = ap (λ b. b && y) h ∙ ap (λ b. all_rest rs && b) g ∙ sym (list_all-append root_rests rs qs)

  each_started : (f : List StoreMap → Bool) (g : List StoreMap → List Closure) (ys : List (List StoreMap)) → Each (λ y. f y ≡ all_rest (g y)) ys → list_all f ys ≡ all_rest (flat_map g ys)
  each_started f g [] h = refl
  each_started f g (y ∷ ys) h = par_started (f y) (list_all f ys) (g y) (flat_map g ys) h.0 (each_started f g ys h.1)

  pub started-rests : (a : Agent) (z : List StoreMap) (n : ℕ) (b : List ℕ) (s : ℕ) → StandsAt Node p.nodes n (listing n a) → s + length z ≡ t
      → rests_after p u v z a b s ≡ all_rest (started p z a n b s)
  started-rests a [] n b s at e =
      let now : s ≡ t = omega arith in
      ap (λ m. agent_rests p m v a b u) now ∙ ap (λ x. agent_rests p t v x b u) (sym (listed_tree p.nodes n a at)) ∙ sym (and-true (rests p n b t u v))
  started-rests Skip (w ∷ z) n b s at e = refl
  started-rests (Tell c) (w ∷ z) n b s at e = refl
  started-rests (Par l r) (w ∷ z) n b s at e =
      par_started _ _ (started p (w ∷ z) l (suc n) b s) (started p (w ∷ z) r (suc n + size l) b s)
      (started-rests l (w ∷ z) (suc n) b s (left_listed l r at) e) (started-rests r (w ∷ z) (suc n + size l) b s (right_listed l r at) e)
  started-rests (Then c a) (w ∷ z) n b s at e = then_started (entails p b w c) _ _ (started-rests a (w ∷ z) (suc n) b s (stands-tail at) e)
  started-rests (Else c a) (w ∷ z) n b s at e = else_started (entails p b w c) _ _ (started-rests a (w ∷ z) (suc n) b s (stands-tail at) e)
  started-rests (New cell a) (w ∷ z) n b s at e = started-rests a (w ∷ z) (suc n) (b ++ s ∷ []) s (stands-tail at) e
  started-rests (Next a) (w ∷ z) n b s at e = started-rests a z (suc n) b (s + 1) (stands-tail at) (omega arith)
  started-rests (Hence a) (w ∷ z) n b s at e =
      each_started (λ y. rests_after p u v y a b (s + 1 + length z - length y)) (λ y. started p y a (suc n) b (s + 1 + length z - length y)) (suffixes z)
      (Each-map (λ y. length y ≤ length z) (λ y. rests_after p u v y a b (s + 1 + length z - length y) ≡ all_rest (started p y a (suc n) b (s + 1 + length z - length y)))
      (λ y le. started-rests a y (suc n) b (s + 1 + length z - length y) (stands-tail at) (omega arith)) (suffixes z) (suffixes-length z))

-- what is seen over z is what the closures that are started now do
pub obs-roots : (p : CoreProgram) (z : List StoreMap) (u v : StoreMap) → IsListing p.nodes → obs p 0 [] 0 z u v ≡ roots_rest p (roots p z) (length z) u v
obs-roots p z u v tree =
    let start : 0 + length z ≡ length z = omega arith in
    started-rests p u v (length z) (agent_at p.nodes 0) z 0 [] 0 ((root_place p.nodes tree).listed) start ∙ sym (sorted-rests p u v (length z) (started p z (agent_at p.nodes 0) 0 [] 0))
