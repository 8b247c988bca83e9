-- A pair of stores rests for the leaves of an instant exactly where it rests for the roots.
use Rattle.std.proofs.Common.{◌≡◌, ℕ, suc, ◌+◌, Bool, true, false, ◌&&◌, ◌||◌, not, List, [], ◌∷◌, ◌++◌, refl, sym, ap, ◌∙◌}
use Rattle.std.specs.Prelude.{IsTrue}
use Rattle.std.specs.List.{list_all}
use Rattle.std.proofs.lemmas.List.Folds.{list_all-append}
use Rattle.std.proofs.Math.Bool.{and-true, and_self}
use Rattle.token_system.specs.Stores.{StoreMap}
use Rattle.token_system.proofs.Alike.{true_false}
use Rattle.agent_core.specs.Agents.{Agent, Skip, Tell, Then, Else, Par, New, Hence, Next, agent_at}
use Rattle.agent_core.specs.Programs.{CoreProgram}
use Rattle.agent_core.specs.Listing.{size}
use Rattle.agent_core.specs.Scope.{AgentFits}
use Rattle.agent_core.specs.Stores.{Below}
use Rattle.agent_core.specs.Rests.{◌⇒◌, entails, agent_rests, rests}
use Rattle.agent_core.specs.declared.node.Closure.{Closure}
use Rattle.agent_core.specs.Leaves.{Guard, Positive, Negative, Leaf, leaves_of, leaves}
use Rattle.agent_core.specs.RootOutputs.{roots_rest}
use Rattle.agent_core.proofs.Bools.{both, first_of_both, second_of_both}
use Rattle.agent_core.proofs.Tellings.{entails-above}
use Rattle.agent_laws.proofs.Booleans.{and_pairs}
use Rattle.agent_laws.specs.LeafRests.{asked, free, path_rests, leaf_rests}
use Rattle.agent_core.specs.Strata.{Each}

-- nothing is told
path_idle : (f a b : Bool) → true ≡ path_rests f a b true true
path_idle false a b = refl
path_idle true false false = refl
path_idle true false true = refl
path_idle true true false = refl
path_idle true true true = refl

path_both : (f a b x y x' y' : Bool) → (path_rests f a b x y && path_rests f a b x' y') ≡ path_rests f a b (x && x') (y && y')
path_both false a b x y x' y' = refl
path_both true false false x y x' y' = refl
path_both true false true x y x' y' = refl
path_both true true false x y x' y' = ap (λ r. r && (x' && true)) (and-true x) ∙ ap (λ r. x && r) (and-true x') ∙ sym (and-true (x && x'))
path_both true true true x y x' y' = and_pairs x y x' y'

twice_over : (x y : Bool) → (x && y) ≡ ((x && y) && (y && y))
twice_over true true = refl
twice_over true false = refl
twice_over false y = refl

path_then : (f a b e g x y : Bool) → (IsTrue a → IsTrue b)
    → path_rests (f && (true && true)) (a && (e && true)) (b && (g && true)) x y ≡ path_rests f a b ((e ⇒ x) && (g ⇒ y)) ((g ⇒ y) && (g ⇒ y))
path_then false a b e g x y up = refl
path_then true false false e g x y up = refl
path_then true true false e g x y up = absurd (true_false (sym (up refl)))
path_then true false true true true x y up = sym (and_self y)
path_then true false true true false x y up = refl
path_then true false true false true x y up = sym (and_self y)
path_then true false true false false x y up = refl
path_then true true true true true x y up = twice_over x y
path_then true true true true false x y up = twice_over x true
path_then true true true false true x y up = twice_over true y
path_then true true true false false x y up = refl

path_else : (f a b g x y : Bool) → path_rests (f && (not g && true)) (a && (true && true)) (b && (true && true)) x y ≡ path_rests f a b (not g ⇒ x) (not g ⇒ y)
path_else false a b g x y = refl
path_else true a b true x y = path_idle true a b
path_else true a b false x y = ap (λ r. path_rests true r (b && true) x y) (and-true a) ∙ ap (λ r. path_rests true a r x y) (and-true b)

or_up : (e x y : Bool) → (IsTrue x → IsTrue y) → IsTrue (e || x) → IsTrue (e || y)
or_up true x y up h = refl
or_up false x y up h = up h

module _ (p : CoreProgram) (t : ℕ) (u v : StoreMap) (below : Below p u v) where
  -- who rests under u and the guess rests under the guess
  pub rests-up : (a : Agent) (b : List ℕ) → AgentFits p t a b → IsTrue (agent_rests p t v a b u) → IsTrue (agent_rests p t v a b v)
  rests-up Skip b f h = refl
  rests-up (Hence a) b f h = refl
  rests-up (Next a) b f h = refl
  rests-up (Tell c) b f h = entails-above p b u v c f below h
  rests-up (Par l r) b f h =
      both _ _ (rests-up l b f.0 (first_of_both (agent_rests p t v l b u) (agent_rests p t v r b u) h)) (rests-up r b f.1 (second_of_both (agent_rests p t v l b u) (agent_rests p t v r b u) h))
  rests-up (Then c a) b f h =
      let r = second_of_both (entails p b u c ⇒ agent_rests p t v a b u) (entails p b v c ⇒ agent_rests p t v a b v) h in
      both _ _ r r
  rests-up (Else c a) b f h = or_up (not (not (entails p b v c))) _ _ (rests-up a b f.1) h
  rests-up (New cell a) b f h = rests-up a (b ++ t ∷ []) f h

  abbrev pub leaves_rest : List Leaf → Bool
  leaves_rest ls = list_all (leaf_rests p u v) ls

  abbrev free_on : List Guard → Bool
  free_on path = list_all (free p v) path

  abbrev by_u : List Guard → Bool
  by_u path = list_all (asked p u) path

  abbrev by_v : List Guard → Bool
  by_v path = list_all (asked p v) path

  -- the leaves below an agent, where this path leads to the agent
  pub leaves_of-rest : (a : Agent) (n : ℕ) (b : List ℕ) (path : List Guard) → AgentFits p t a b → (IsTrue (by_u path) → IsTrue (by_v path))
      → leaves_rest (leaves_of t a n b path) ≡ path_rests (free_on path) (by_u path) (by_v path) (agent_rests p t v a b u) (agent_rests p t v a b v)
  leaves_of-rest Skip n b path f up = and-true _
  leaves_of-rest (Tell c) n b path f up = and-true _
  leaves_of-rest (Hence a) n b path f up = and-true _
  leaves_of-rest (Next a) n b path f up = and-true _
  leaves_of-rest (New cell a) n b path f up = leaves_of-rest a (suc n) (b ++ t ∷ []) path f up
  leaves_of-rest (Par l r) n b path f up =
      list_all-append (leaf_rests p u v) (leaves_of t l (suc n) b path) (leaves_of t r (suc n + size l) b path)
      ∙ ap (λ x. x && leaves_rest (leaves_of t r (suc n + size l) b path)) (leaves_of-rest l (suc n) b path f.0 up)
      ∙ ap (λ x. path_rests (free_on path) (by_u path) (by_v path) (agent_rests p t v l b u) (agent_rests p t v l b v) && x) (leaves_of-rest r (suc n + size l) b path f.1 up)
      ∙ path_both (free_on path) (by_u path) (by_v path) _ _ _ _
  leaves_of-rest (Then c a) n b path f up =
      let more : List Guard = path ++ Positive b c ∷ [] in
      let in_u : by_u more ≡ (by_u path && (entails p b u c && true)) = list_all-append (asked p u) path (Positive b c ∷ []) in
      let in_v : by_v more ≡ (by_v path && (entails p b v c && true)) = list_all-append (asked p v) path (Positive b c ∷ []) in
      let in_free : free_on more ≡ (free_on path && (true && true)) = list_all-append (free p v) path (Positive b c ∷ []) in
      let up_more : IsTrue (by_u more) → IsTrue (by_v more) = λ h.
      let g : IsTrue (by_u path && (entails p b u c && true)) = sym in_u ∙ h in
      in_v ∙ both _ _ (up (first_of_both _ _ g)) (both _ _ (entails-above p b u v c f.0 below (first_of_both _ _ (second_of_both (by_u path) _ g))) refl) in
      leaves_of-rest a (suc n) b more f.1 up_more
      ∙ ap (λ x. path_rests x (by_u more) (by_v more) (agent_rests p t v a b u) (agent_rests p t v a b v)) in_free
      ∙ ap (λ x. path_rests (free_on path && (true && true)) x (by_v more) (agent_rests p t v a b u) (agent_rests p t v a b v)) in_u
      ∙ ap (λ x. path_rests (free_on path && (true && true)) (by_u path && (entails p b u c && true)) x (agent_rests p t v a b u) (agent_rests p t v a b v)) in_v
      ∙ path_then (free_on path) (by_u path) (by_v path) (entails p b u c) (entails p b v c) _ _ up
  leaves_of-rest (Else c a) n b path f up =
      let more : List Guard = path ++ Negative b c ∷ [] in
      let in_u : by_u more ≡ (by_u path && (true && true)) = list_all-append (asked p u) path (Negative b c ∷ []) in
      let in_v : by_v more ≡ (by_v path && (true && true)) = list_all-append (asked p v) path (Negative b c ∷ []) in
      let in_free : free_on more ≡ (free_on path && (not (entails p b v c) && true)) = list_all-append (free p v) path (Negative b c ∷ []) in
      let up_more : IsTrue (by_u more) → IsTrue (by_v more) = λ h.
      let g : IsTrue (by_u path && (true && true)) = sym in_u ∙ h in
      in_v ∙ both _ _ (up (first_of_both _ _ g)) refl in
      leaves_of-rest a (suc n) b more f.1 up_more
      ∙ ap (λ x. path_rests x (by_u more) (by_v more) (agent_rests p t v a b u) (agent_rests p t v a b v)) in_free
      ∙ ap (λ x. path_rests (free_on path && (not (entails p b v c) && true)) x (by_v more) (agent_rests p t v a b u) (agent_rests p t v a b v)) in_u
      ∙ ap (λ x. path_rests (free_on path && (not (entails p b v c) && true)) (by_u path && (true && true)) x (agent_rests p t v a b u) (agent_rests p t v a b v)) in_v
      ∙ path_else (free_on path) (by_u path) (by_v path) (entails p b v c) _ _

  one_of_two : (x y : Bool) → (IsTrue x → IsTrue y) → (x && y) ≡ x
  one_of_two true y up = up refl
  one_of_two false y up = refl

  -- the agent of a root rests where its leaves do
  pub agent_leaves : (a : Agent) (n : ℕ) (b : List ℕ) → AgentFits p t a b → leaves_rest (leaves_of t a n b []) ≡ agent_rests p t v a b u
  agent_leaves a n b f = leaves_of-rest a n b [] f (λ h. h) ∙ one_of_two _ _ (rests-up a b f)

  abbrev pub ClosureFits : Closure → Type 0
  ClosureFits r = AgentFits p t (agent_at p.nodes r.node) r.births

  pub roots_leaves : (rs : List Closure) → Each ClosureFits rs → leaves_rest (leaves p rs t) ≡ roots_rest p rs t u v
  roots_leaves [] f = refl
  roots_leaves (r ∷ rs) f =
      list_all-append (leaf_rests p u v) (leaves_of t (agent_at p.nodes r.node) r.node r.births []) (leaves p rs t)
      ∙ ap (λ x. x && leaves_rest (leaves p rs t)) (agent_leaves (agent_at p.nodes r.node) r.node r.births f.0)
      ∙ ap (λ x. rests p r.node r.births t u v && x) (roots_leaves rs f.1)
