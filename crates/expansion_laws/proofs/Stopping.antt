-- An agent that turns a signal on for good once a constraint is entailed.
use Rattle.std.proofs.Common.{◌≡◌, ℕ, zero, suc, ◌+◌, ◌-◌, true, List, [], ◌∷◌, ◌++◌, length, Some, sym, subst}
use Rattle.std.specs.Prelude.{Contains, IsTrue, slice_get}
use Rattle.token_system.specs.Stores.{StoreMap}
use Rattle.agent_core.specs.Agents.{Agent, Constraint, Tell, Then, Par, Hence}
use Rattle.agent_core.specs.Programs.{CoreProgram}
use Rattle.agent_core.specs.Rests.{◌⇒◌, entails, agent_rests}
use Rattle.agent_core.specs.RestsAfter.{suffixes, rests_after}
use Rattle.agent_core.proofs.Bools.{first_of_both, by_premise}
use Rattle.expansion_laws.proofs.Members.{first_in, later_in, all_in}
use Rattle.expansion_laws.proofs.Leading.{both_observe}

-- once c is entailed q is told, at this instant and at every later one
abbrev pub once : Constraint → Constraint → Agent
once c q = Then c (Par (Tell q) (Hence (Tell q)))

empty_suffix : (y : List StoreMap) → Contains (suffixes y) []
empty_suffix [] = first_in [] []
empty_suffix (w ∷ y) = later_in (w ∷ y) [] (suffixes y) (empty_suffix y)

-- the suffix that begins at a place
suffix_at : (y : List StoreMap) (v : StoreMap) (j : ℕ) (w : StoreMap) → slice_get (y ++ v ∷ []) j ≡ Some w → (x : List StoreMap) × Contains (suffixes y) x × (slice_get (x ++ v ∷ []) 0 ≡ Some w)
suffix_at [] v zero w e = ([], first_in [] [], e)
suffix_at [] v (suc j) w e = absurd (cc)
suffix_at (u ∷ y) v zero w e = (u ∷ y, first_in (u ∷ y) (suffixes y), e)
suffix_at (u ∷ y) v (suc j) w e = let r = suffix_at y v j w e in (r.0, later_in (u ∷ y) r.0 (suffixes y) r.1, r.2)

module _ (p : CoreProgram) (v : StoreMap) (c q : Constraint) (b : List ℕ) where
  -- it was started when the store entailed c
  begun : (x : List StoreMap) (s : ℕ) (w : StoreMap) → IsTrue (rests_after p v v x (once c q) b s) → slice_get (x ++ v ∷ []) 0 ≡ Some w → IsTrue (entails p b w c) → IsTrue (entails p b v q)
  begun [] s w h e t =
      let same : v ≡ w = cc in
      let now : IsTrue (entails p b v c ⇒ agent_rests p s v (Par (Tell q) (Hence (Tell q))) b v) =
      first_of_both (entails p b v c ⇒ agent_rests p s v (Par (Tell q) (Hence (Tell q))) b v) (entails p b v c ⇒ agent_rests p s v (Par (Tell q) (Hence (Tell q))) b v) h in
      first_of_both (entails p b v q) true (by_premise (entails p b v c) (agent_rests p s v (Par (Tell q) (Hence (Tell q))) b v) now (subst (λ (x : StoreMap). IsTrue (entails p b x c)) (sym same) t))
  begun (u ∷ x) s w h e t =
      let same : u ≡ w = cc in
      let body = by_premise (entails p b u c) (rests_after p v v (u ∷ x) (Par (Tell q) (Hence (Tell q))) b s) h (subst (λ (z : StoreMap). IsTrue (entails p b z c)) (sym same) t) in
      let later = (both_observe p v (u ∷ x) (Tell q) (Hence (Tell q)) b s body).1 in
      all_in (λ z. rests_after p v v z (Tell q) b (s + 1 + length x - length z)) [] (suffixes x) later (empty_suffix x)

  -- where it is started at every instant, c is not forgotten
  pub stays_on : (y : List StoreMap) (s j : ℕ) (w : StoreMap) → IsTrue (rests_after p v v y (Par (once c q) (Hence (once c q))) b s) → slice_get (y ++ v ∷ []) j ≡ Some w → IsTrue (entails p b w c) → IsTrue (entails p b v q)
  stays_on y s zero w h e t = begun y s w (both_observe p v y (once c q) (Hence (once c q)) b s h).0 e t
  stays_on [] s (suc j) w h e t = absurd (cc)
  stays_on (u ∷ y) s (suc j) w h e t =
      let later = (both_observe p v (u ∷ y) (once c q) (Hence (once c q)) b s h).1 in
      let from = suffix_at y v j w e in
      let x : List StoreMap = from.0 in
      begun x (s + 1 + length y - length x) w (all_in (λ z. rests_after p v v z (once c q) b (s + 1 + length y - length z)) x (suffixes y) later from.1) from.2 t
