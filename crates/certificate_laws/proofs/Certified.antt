-- A certificate shows an output: what its leaves tell is told under every store that rests.
use Rattle.std.proofs.Common.{◌≡◌, inl, inr, ℕ, Bool, true, false, not, List, [], ◌∷◌, refl, sym, ◌∙◌, subst}
use Rattle.std.specs.Prelude.{IsTrue}
use Rattle.std.specs.List.{list_all}
use Rattle.token_system.specs.Stores.{StoreMap}
use Rattle.token_system.proofs.Alike.{true_false}
use Rattle.agent_core.specs.declared.node.Closure.{Closure}
use Rattle.agent_core.specs.Agents.{Agent, Skip, Tell, Then, Else, Par, New, Hence, Next, agent_at}
use Rattle.agent_core.specs.Programs.{CoreProgram}
use Rattle.agent_core.specs.WellFormed.{IsWellFormed}
use Rattle.agent_core.specs.Stores.{IsStore, Below}
use Rattle.agent_core.specs.Rests.{entails}
use Rattle.agent_core.specs.Leaves.{Guard, Positive, Negative, Leaf, leaves, leaves_of, tells, runs}
use Rattle.agent_core.specs.Strata.{Each, In}
use Rattle.agent_core.specs.RootOutputs.{IsOutputOf}
use Rattle.agent_core.proofs.Bools.{both, first_of_both, second_of_both}
use Rattle.agent_core.proofs.OneStore.{Below-antisym}
use Rattle.agent_core.proofs.Scopes.{closure_fits}
use Rattle.agent_core.proofs.Tellings.{Below-refl, Below-trans, tell_all-least, tell_all-entails, entails-above}
use Rattle.agent_laws.specs.LeafRests.{asked, free, leaf_rests}
use Rattle.agent_laws.proofs.Eachs.{Each-map, Each-append, each_true, true_each, all_each}
use Rattle.agent_laws.proofs.Started.{IsOwn}
use Rattle.agent_laws.proofs.Instance.{GuardFits}
use Rattle.agent_laws.proofs.Completing.{runs-parts}
use Rattle.agent_laws.proofs.ClosureOutputs.{Named, leaves-named, path_facts, path_test, closures_leaves}
use Rattle.certificate_laws.specs.Laws.{CertifiedAreOutputs}
use Rattle.certificate_laws.specs.Justified.{is_tell, after_leaf}
use Rattle.certificate_laws.specs.Certificates.{Leads, Certifies}

-- LEAVES NAME WHAT THE PROGRAM HAS

pub named-leaves : (p : CoreProgram) → IsWellFormed p → (t : ℕ) (rs : List Closure) → Each (IsOwn p) rs → Each (Named p) (leaves p rs t)
named-leaves p is t [] own = tt
named-leaves p is t (r ∷ rs) own =
    Each-append (Named p) (leaves_of t (agent_at p.nodes r.node) r.node r.births []) (leaves p rs t)
    (leaves-named p t (agent_at p.nodes r.node) r.node r.births [] (closure_fits p is r.node r.births own.0 t) tt)
    (named-leaves p is t rs own.1)

pub in_each : {X : Type 0} (P : X → Type 0) (xs : List X) (x : X) → Each P xs → In x xs → P x
in_each P [] x h i = absurd i
in_each P (y ∷ xs) x h (inl e) = subst P (sym e) h.0
in_each P (y ∷ xs) x h (inr i) = in_each P xs x h.1 i

-- what holds of all members holds of each
pub each_in : {X : Type 0} (P : X → Type 0) (xs : List X) → ((x : X) → In x xs → P x) → Each P xs
each_in P [] h = tt
each_in P (x ∷ xs) h = (h x (inl refl), each_in P xs (λ y i. h y (inr i)))

-- WHAT IS ASKED IN A STORE IS ASKED IN ONE ABOVE

pub asked-above : (p : CoreProgram) (u w : StoreMap) (path : List Guard) → Each (GuardFits p) path → Below p u w → IsTrue (list_all (asked p u) path) → IsTrue (list_all (asked p w) path)
asked-above p u w [] f below h = refl
asked-above p u w (Positive b c ∷ path) f below h =
    both _ _ (entails-above p b u w c f.0 below (first_of_both (entails p b u c) (list_all (asked p u) path) h)) (asked-above p u w path f.1 below (second_of_both (entails p b u c) (list_all (asked p u) path) h))
asked-above p u w (Negative b c ∷ path) f below h = asked-above p u w path f.1 below h

pub not_free : (b : Bool) → IsTrue b → not b ≡ false
not_free true h = refl
not_free false h = absurd (true_false (sym h))

pub free_not : (b : Bool) → not b ≡ false → IsTrue b
free_not true h = refl
free_not false h = absurd (true_false h)

-- a leaf that is no tell has told what it tells
pub idle : (p : CoreProgram) (w : StoreMap) (b : List ℕ) (a : Agent) → is_tell a ≡ false → IsTrue (entails p b w (tells a))
idle p w b Skip e = refl
idle p w b (Tell c) e = absurd (true_false e)
idle p w b (Then c a) e = refl
idle p w b (Else c a) e = refl
idle p w b (Par l r) e = refl
idle p w b (New c a) e = refl
idle p w b (Hence a) e = refl
idle p w b (Next a) e = refl

module _ (p : CoreProgram) (v : StoreMap) where
  pub record Told (run : List Leaf) (u w : StoreMap) : Type 0 where
    pub store : IsStore p w
    pub above : Below p u w
    pub told : Each (λ l. IsTrue (entails p l.births w (tells l.agent))) run

  -- what the leaves have told stays told
  pub leads-told : (run : List Leaf) (u w : StoreMap) → Each (Named p) run → IsStore p u → Leads p v run u w → Told run u w
  leads-told [] u w named iu leads = record { store = subst (IsStore p) leads iu; above = subst (Below p u) leads (Below-refl p u); told = tt }
  leads-told (l ∷ run) u w named iu leads =
      let least = tell_all-least p l.births (tells l.agent) u iu named.0.0 in
      let rest = leads-told run (after_leaf p l u) w named.1 least.store leads.1 in
      record {
        store = rest.store;
        above = Below-trans p u (after_leaf p l u) w least.above rest.above;
        told = (entails-above p l.births (after_leaf p l u) w (tells l.agent) named.0.0 rest.above (tell_all-entails p l.births (tells l.agent) u iu named.0.0), rest.told);
      }

  -- and a store above the first that rests under v has all of it
  pub leads-least : (run : List Leaf) (u w x : StoreMap) → Each (Named p) run → IsStore p u → IsStore p x → Below p u x → Each (λ l. IsTrue (leaf_rests p x v l)) run → Leads p v run u w → Below p w x
  leads-least [] u w x named iu ix below rest leads = subst (λ (y : StoreMap). Below p y x) leads below
  leads-least (l ∷ run) u w x named iu ix below rest leads =
      let least = tell_all-least p l.births (tells l.agent) u iu named.0.0 in
      let on : IsTrue (list_all (asked p x) l.path) = asked-above p u x l.path named.0.1 below leads.0.asked in
      let told = (path_facts (list_all (free p v) l.path) (list_all (asked p x) l.path) (list_all (asked p v) l.path) (entails p l.births x (tells l.agent)) (entails p l.births v (tells l.agent)) rest.0 (not_free (list_all (free p v) l.path) leads.0.free)).0 on in
      leads-least run (after_leaf p l u) w x named.1 least.store ix (least.least x ix below told) rest.1 leads.1

module _ (p : CoreProgram) (is : IsWellFormed p) (rs : List Closure) (own : Each (IsOwn p) rs) (t : ℕ) (i v : StoreMap) (ii : IsStore p i) (run : List Leaf) (c : Certifies p (leaves p rs t) i v run) where
  named : Each (Named p) run
  named = Each-map (λ l. In l (leaves p rs t)) (Named p) (λ l at. in_each (Named p) (leaves p rs t) l (named-leaves p is t rs own) at) run c.from

  told : Told p v run i v
  told = leads-told p v run i v named ii c.leads

  told-leaf : (l : Leaf) → (IsTrue (is_tell l.agent) → IsTrue (runs p v l) → In l run) → (b : Bool) → is_tell l.agent ≡ b → IsTrue (runs p v l) → IsTrue (entails p l.births v (tells l.agent))
  told-leaf l whole true e r = in_each (λ l. IsTrue (entails p l.births v (tells l.agent))) run l told.told (whole e r)
  told-leaf l whole false e r = idle p v l.births l.agent e

  rests-leaf : (l : Leaf) → (IsTrue (is_tell l.agent) → IsTrue (runs p v l) → In l run) → IsTrue (leaf_rests p v v l)
  rests-leaf l whole =
      path_test (list_all (free p v) l.path) (list_all (asked p v) l.path) (list_all (asked p v) l.path) (entails p l.births v (tells l.agent)) (entails p l.births v (tells l.agent)) (λ off.
      let go : IsTrue (list_all (asked p v) l.path) → IsTrue (entails p l.births v (tells l.agent)) =
      λ on. told-leaf l whole (is_tell l.agent) refl (runs-parts p v l.path ∙ both _ _ (free_not (list_all (free p v) l.path) off) on) in
      (go, go))

  pub certified-output : IsOutputOf p rs t i v
  certified-output = record {
    given = ii;
    store = told.store;
    above = told.above;
    rests = closures_leaves p is rs own t v v (Below-refl p v) ∙ true_each (leaf_rests p v v) (λ l. IsTrue (is_tell l.agent) → IsTrue (runs p v l) → In l run) (λ l whole. rests-leaf l whole) (leaves p rs t) c.whole;
    least = λ u iu low high h.
        let each : Each (λ l. IsTrue (leaf_rests p u v l)) (leaves p rs t) = each_true (leaf_rests p u v) (λ l. IsTrue (leaf_rests p u v l)) (λ l r. r) (leaves p rs t) (sym (closures_leaves p is rs own t u v high) ∙ h) in
        let ours : Each (λ l. IsTrue (leaf_rests p u v l)) run = Each-map (λ l. In l (leaves p rs t)) (λ l. IsTrue (leaf_rests p u v l)) (λ l at. in_each (λ l. IsTrue (leaf_rests p u v l)) (leaves p rs t) l each at) run c.from in
        Below-antisym p u v iu told.store high (leads-least p v run i v u named ii iu low ours c.leads);
  }

pub certified_law : CertifiedAreOutputs
certified_law p is rs own t i v ii run c = certified-output p is rs (all_each (IsOwn p) rs own) t i v ii run c
