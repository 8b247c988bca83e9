-- The tell leaves of every instant stand where walks down the symbolic agent come to.
use Rattle.std.proofs.Common.{◌≡◌, ℕ, suc, ◌+◌, ◌-◌, List, [], ◌∷◌, ◌++◌, length, Some, refl, sym, subst}
use Rattle.std.specs.Prelude.{Option, slice_get, Contains}
use Rattle.std.proofs.lemmas.List.Elements.{All-contains}
use Rattle.token_system.specs.Stores.{StoreMap}
use Rattle.agent_core.specs.declared.node.Closure.{Closure}
use Rattle.agent_core.specs.Agents.{Agent, Constraint, agent_at}
use Rattle.agent_core.specs.Agents as agent
use Rattle.agent_core.specs.Programs.{CoreProgram}
use Rattle.agent_core.specs.Listing as core
use Rattle.agent_core.specs.Rests.{entails}
use Rattle.agent_core.specs.RestsAfter.{suffixes}
use Rattle.agent_core.specs.Closures.{started, roots}
use Rattle.agent_core.specs.Leaves.{Guard, Positive, Negative, Leaf, leaves_of, leaves}
use Rattle.agent_core.specs.Strata.{Each}
use Rattle.agent_core.proofs.Standing.{StandsAt, stands-head}
use Rattle.agent_core.proofs.ListingTrees.{listed_tree, root_tree}
use Rattle.agent_laws.proofs.Eachs.{Each-append, Each-flat, Each-if, each_all}
use Rattle.agent_laws.proofs.Sorting.{each_sorted}
use Rattle.expansion_laws.specs.SymbolicAgents.{SymbolicAgent, Skip, Tell, Then, Else, Par, New, Hence, Next, origins, binders}
use Rattle.expansion_laws.specs.Numbering.{Binding, binding, bound_agent, bound_constraint}
use Rattle.expansion_laws.proofs.Walks.{Way, way, cells_of, even_born, EachTell}
use Rattle.expansion_laws.proofs.Numbered.{AreOver, IsNumbered, then_part, else_part, hence_part, next_part, left_part, right_part, new_part, root_part}

module _ (p : CoreProgram) (os : List (Option ℕ)) (ms : List ℕ) (R : Option ℕ → Way → Constraint → Type 0) where
  -- the leaf stands at a tell of the symbolic agent, with these news around it, and what is shown of the tell holds there
  pub record StandsAtTell (l : Leaf) (told : Constraint) : Type 0 where
    pub origin : Option ℕ
    pub found : slice_get os l.node ≡ Some origin
    pub scope : List Binding
    pub over : AreOver p l.node 1 (cells_of scope)
    pub ask : Constraint
    pub tells : told ≡ bound_constraint scope ask
    pub holds : R origin (way scope l.births l.path) ask

  abbrev pub IsTold : Leaf → Type 0
  IsTold l = (c : Constraint) → l.agent ≡ agent.Tell c → StandsAtTell l c

  pub leaves_told : (d : SymbolicAgent) (scope : List Binding) (k n : ℕ) (b : List ℕ) (path : List Guard) (t : ℕ) → IsNumbered p os ms scope k n d → EachTell ms R (way scope b path) d
      → Each IsTold (leaves_of t (bound_agent scope n d) k b path)
  leaves_told (Skip o) scope k n b path t at h = (λ c e. absurd (cc), tt)
  leaves_told (Tell o a) scope k n b path t at h = (λ c e. record { origin = o; found = stands-head at.from; scope = scope; over = at.over; ask = a; tells = cc; holds = h }, tt)
  leaves_told (Hence o a) scope k n b path t at h = (λ c e. absurd (cc), tt)
  leaves_told (Next o a) scope k n b path t at h = (λ c e. absurd (cc), tt)
  leaves_told (Then o c a) scope k n b path t at h = leaves_told a scope (suc k) n b (path ++ Positive b (bound_constraint scope c) ∷ []) t (then_part p os ms scope k n o c a at) h
  leaves_told (Else o c a) scope k n b path t at h = leaves_told a scope (suc k) n b (path ++ Negative b (bound_constraint scope c) ∷ []) t (else_part p os ms scope k n o c a at) h
  leaves_told (New o binder a) scope k n b path t at h =
      leaves_told a (binding binder n ∷ scope) (suc k) (suc n) (b ++ t ∷ []) path t (new_part p os ms scope k n o binder a at) (h n t (stands-head at.bound))
  leaves_told (Par o l r) scope k n b path t at h =
      let right = suc k + core.size (bound_agent scope n l) in
      let cells = n + length (binders l) in
      Each-append IsTold (leaves_of t (bound_agent scope n l) (suc k) b path) (leaves_of t (bound_agent scope cells r) right b path)
      (leaves_told l scope (suc k) n b path t (left_part p os ms scope k n o l r at) h.0)
      (leaves_told r scope right cells b path t (right_part p os ms scope k n o l r at) h.1)

  -- each tell leaf of the closure, at whatever instant it is started
  abbrev pub TellsTold : Closure → Type 0
  TellsTold r = (t : ℕ) → Each IsTold (leaves_of t (agent_at p.nodes r.node) r.node r.births [])

  pub starts_told : (d : SymbolicAgent) (z : List StoreMap) (scope : List Binding) (k n : ℕ) (b : List ℕ) (path : List Guard) (s : ℕ) → IsNumbered p os ms scope k n d → length b ≡ length scope
      → (z ≡ [] → path ≡ []) → EachTell ms R (way scope b path) d → Each TellsTold (started p z (bound_agent scope n d) k b s)
  starts_told d [] scope k n b path s at even free h =
      let start = subst (λ (q : List Guard). EachTell ms R (way scope b q) d) (free refl) h in
      (λ t. subst (λ (a : Agent). Each IsTold (leaves_of t a k b [])) (sym (listed_tree p.nodes k (bound_agent scope n d) at.place.listed)) (leaves_told d scope k n b [] t at start), tt)
  starts_told (Skip o) (w ∷ z) scope k n b path s at even free h = tt
  starts_told (Tell o a) (w ∷ z) scope k n b path s at even free h = tt
  starts_told (Then o c a) (w ∷ z) scope k n b path s at even free h =
      Each-if TellsTold (entails p b w (bound_constraint scope c)) _ []
      (starts_told a (w ∷ z) scope (suc k) n b (path ++ Positive b (bound_constraint scope c) ∷ []) s (then_part p os ms scope k n o c a at) even (λ e. absurd (cc)) h) tt
  starts_told (Else o c a) (w ∷ z) scope k n b path s at even free h =
      Each-if TellsTold (entails p b w (bound_constraint scope c)) [] _ tt
      (starts_told a (w ∷ z) scope (suc k) n b (path ++ Negative b (bound_constraint scope c) ∷ []) s (else_part p os ms scope k n o c a at) even (λ e. absurd (cc)) h)
  starts_told (Par o l r) (w ∷ z) scope k n b path s at even free h =
      let right = suc k + core.size (bound_agent scope n l) in
      let cells = n + length (binders l) in
      Each-append TellsTold (started p (w ∷ z) (bound_agent scope n l) (suc k) b s) (started p (w ∷ z) (bound_agent scope cells r) right b s)
      (starts_told l (w ∷ z) scope (suc k) n b path s (left_part p os ms scope k n o l r at) even free h.0)
      (starts_told r (w ∷ z) scope right cells b path s (right_part p os ms scope k n o l r at) even free h.1)
  starts_told (New o binder a) (w ∷ z) scope k n b path s at even free h =
      starts_told a (w ∷ z) (binding binder n ∷ scope) (suc k) (suc n) (b ++ s ∷ []) path s (new_part p os ms scope k n o binder a at)
      (even_born (way scope b path) binder n s even) free (h n s (stands-head at.bound))
  starts_told (Next o a) (w ∷ z) scope k n b path s at even free h =
      starts_told a z scope (suc k) n b [] (s + 1) (next_part p os ms scope k n o a at) even (λ e. refl) (h (way scope b []) (record { wide = λ floor binder r. r; even = even }))
  starts_told (Hence o a) (w ∷ z) scope k n b path s at even free h =
      Each-flat TellsTold (λ y. started p y (bound_agent scope n a) (suc k) b (s + 1 + length z - length y))
      (λ y. starts_told a y scope (suc k) n b [] (s + 1 + length z - length y) (hence_part p os ms scope k n o a at) even (λ e. refl) (h (way scope b []) (record { wide = λ floor binder r. r; even = even })))
      (suffixes z)

  roots_told : (rs : List Closure) (t : ℕ) → Each TellsTold rs → Each IsTold (leaves p rs t)
  roots_told [] t h = tt
  roots_told (r ∷ rs) t h = Each-append IsTold (leaves_of t (agent_at p.nodes r.node) r.node r.births []) (leaves p rs t) (h.0 t) (roots_told rs t h.1)

-- what is shown of the tells of a symbolic agent holds of the tell leaves of its program, after whatever closed stores
pub symbolic_told : (p : CoreProgram) (ms : List ℕ) (n : ℕ) (d : SymbolicAgent) (R : Option ℕ → Way → Constraint → Type 0)
    → p.nodes ≡ core.listing 0 (bound_agent [] n d) → StandsAt ℕ ms n (binders d) → EachTell ms R (way [] [] []) d
    → (z : List StoreMap) (t : ℕ) (l : Leaf) → Contains (leaves p (roots p z) t) l → IsTold p (origins d) ms R l
symbolic_told p ms n d R listed bound h z t l k =
    let own = starts_told p (origins d) ms R d z [] 0 n [] [] 0 (root_part p ms n d listed bound) refl (λ e. refl) h in
    let start = subst (λ (a : Agent). Each (TellsTold p (origins d) ms R) (started p z a 0 [] 0)) (sym (root_tree p.nodes (bound_agent [] n d, listed))) own in
    let each = roots_told p (origins d) ms R (roots p z) t (each_sorted (TellsTold p (origins d) ms R) (started p z (agent_at p.nodes 0) 0 [] 0) start) in
    All-contains (IsTold p (origins d) ms R) (leaves p (roots p z) t) l (each_all (IsTold p (origins d) ms R) (leaves p (roots p z) t) each) k
