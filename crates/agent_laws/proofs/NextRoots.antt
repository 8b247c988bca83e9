-- The roots after one more closed store: those that a hence started stay, and the leaves that the store runs start theirs.
use Rattle.std.proofs.Common.{◌≡◌, ℕ, suc, ◌+◌, ◌-◌, ◌≤◌, Bool, true, false, ◌&&◌, ◌||◌, cond, List, [], ◌∷◌, ◌++◌, length, length-append, refl, sym, ap, ◌∙◌, arith}
use Rattle.std.specs.Prelude.{flat_map, if◌then◌else◌, filter}
use Rattle.std.specs.List.{list_any}
use Rattle.std.proofs.lemmas.List.Folds.{list_any-append}
use Rattle.std.proofs.Math.Bool.{or-false, or_assoc, or_comm}
use Rattle.token_system.specs.Stores.{StoreMap}
use Rattle.agent_core.specs.declared.node.Closure.{Closure}
use Rattle.agent_core.specs.declared.node.Node.{Node}
use Rattle.agent_core.specs.Agents.{Agent, Skip, Tell, Then, Else, Par, New, Hence, Next, agent_at}
use Rattle.agent_core.specs.Programs.{CoreProgram}
use Rattle.agent_core.specs.Listing.{size, listing, IsListing}
use Rattle.agent_core.specs.Rests.{entails}
use Rattle.agent_core.specs.RestsAfter.{suffixes}
use Rattle.agent_core.specs.Closures.{closure, sorted, started, roots}
use Rattle.agent_core.specs.Strata.{Each}
use Rattle.agent_core.proofs.Standing.{StandsAt, stands-tail}
use Rattle.agent_core.proofs.ListingTrees.{left_listed, right_listed, listed_tree}
use Rattle.agent_core.proofs.Places.{root_place}
use Rattle.agent_laws.specs.NextRoots.{is_hence, stays, starts, next_of}
use Rattle.agent_laws.proofs.Booleans.{or_pairs}
use Rattle.agent_laws.proofs.Eachs.{Each-map}
use Rattle.agent_laws.proofs.RootRests.{suffixes-length}
use Rattle.agent_laws.proofs.Sorting.{same_sorted, sorted-any}

module _ {X Y : Type 0} (P : X → Bool) where
  any-flat : (f : Y → List X) (ys : List Y) → list_any P (flat_map f ys) ≡ list_any (λ y. list_any P (f y)) ys
  any-flat f [] = refl
  any-flat f (y ∷ ys) = list_any-append P (f y) (flat_map f ys) ∙ ap (λ b. list_any P (f y) || b) (any-flat f ys)

any-each : {Y : Type 0} (f g : Y → Bool) (ys : List Y) → Each (λ y. f y ≡ g y) ys → list_any f ys ≡ list_any g ys
any-each f g [] h = refl
any-each f g (y ∷ ys) h = ap (λ b. b || list_any f ys) h.0 ∙ ap (λ b. g y || b) (any-each f g ys h.1)

-- the suffixes of a longer list are those of the list, each longer, and the empty one
any-suffixes : (F : List StoreMap → Bool) (w : StoreMap) (z : List StoreMap) → list_any F (suffixes (z ++ w ∷ [])) ≡ (list_any (λ y. F (y ++ w ∷ [])) (suffixes z) || F [])
any-suffixes F w [] = ap (λ b. F (w ∷ []) || b) (or-false (F [])) ∙ sym (ap (λ b. b || F []) (or-false (F (w ∷ []))))
any-suffixes F w (v ∷ z) = ap (λ b. F ((v ∷ z) ++ w ∷ []) || b) (any-suffixes F w z) ∙ sym (or_assoc (F ((v ∷ z) ++ w ∷ [])) (list_any (λ y. F (y ++ w ∷ [])) (suffixes z)) (F []))

-- what differs at the empty suffix alone
any-ends : (G H : List StoreMap → Bool) (x : Bool) → ((v : StoreMap) (y : List StoreMap) → G (v ∷ y) ≡ H (v ∷ y)) → (G [] || x) ≡ H [] → (z : List StoreMap) → (list_any G (suffixes z) || x) ≡ list_any H (suffixes z)
any-ends G H x same last [] = ap (λ b. b || x) (or-false (G [])) ∙ last ∙ sym (or-false (H []))
any-ends G H x same last (v ∷ z) =
    or_assoc (G (v ∷ z)) (list_any G (suffixes z)) x ∙ ap (λ b. b || (list_any G (suffixes z) || x)) (same v z) ∙ ap (λ b. H (v ∷ z) || b) (any-ends G H x same last z)

module _ (p : CoreProgram) (w : StoreMap) (t : ℕ) where
  module _ (P : Closure → Bool) where
    -- some root after this one passes
    abbrev after : Closure → Bool
    after r = list_any P (starts p w t r) || (stays p r && P r)

    abbrev after_by : List StoreMap → Closure → Bool
    after_by [] r = list_any P (starts p w t r)
    after_by (v ∷ z) r = after r

    then_any : (e : Bool) (F G : Closure → Bool) (xs ys : List Closure) → list_any F xs ≡ list_any G ys → list_any F (if e then xs else []) ≡ list_any G (if e then ys else [])
    then_any true F G xs ys h = h
    then_any false F G xs ys h = refl

    else_any : (e : Bool) (F G : Closure → Bool) (xs ys : List Closure) → list_any F xs ≡ list_any G ys → list_any F (if e then [] else xs) ≡ list_any G (if e then [] else ys)
    else_any true F G xs ys h = refl
    else_any false F G xs ys h = h

    no_stay : (n : ℕ) (b : List ℕ) (a : Agent) → agent_at p.nodes n ≡ Next a → list_any P (starts p w t (closure (suc n) b)) ≡ after (closure (suc n) b)
    no_stay n b a e = sym (ap (λ x. list_any P (starts p w t (closure (suc n) b)) || (is_hence x && P (closure (suc n) b))) e ∙ or-false (list_any P (starts p w t (closure (suc n) b))))

    stay : (n : ℕ) (b : List ℕ) (a : Agent) → agent_at p.nodes n ≡ Hence a → (list_any P (starts p w t (closure (suc n) b)) || P (closure (suc n) b)) ≡ after (closure (suc n) b)
    stay n b a e = sym (ap (λ x. list_any P (starts p w t (closure (suc n) b)) || (is_hence x && P (closure (suc n) b))) e)

    started-more : (a : Agent) (z : List StoreMap) (n : ℕ) (b : List ℕ) (s : ℕ) → StandsAt Node p.nodes n (listing n a) → s + length z ≡ t
        → list_any P (started p (z ++ w ∷ []) a n b s) ≡ list_any (after_by z) (started p z a n b s)
    started-more a [] n b s at e =
        let now : s ≡ t = omega arith in
        ap (λ (k : ℕ). list_any P (started p (w ∷ []) a n b k)) now ∙ ap (λ x. list_any P (started p (w ∷ []) x n b t)) (sym (listed_tree p.nodes n a at)) ∙ sym (or-false (list_any P (starts p w t (closure n b))))
    started-more Skip (v ∷ z) n b s at e = refl
    started-more (Tell c) (v ∷ z) n b s at e = refl
    started-more (Par l r) (v ∷ z) n b s at e =
        list_any-append P (started p ((v ∷ z) ++ w ∷ []) l (suc n) b s) (started p ((v ∷ z) ++ w ∷ []) r (suc n + size l) b s)
        ∙ ap (λ x. x || list_any P (started p ((v ∷ z) ++ w ∷ []) r (suc n + size l) b s)) (started-more l (v ∷ z) (suc n) b s (left_listed l r at) e)
        ∙ ap (λ x. list_any after (started p (v ∷ z) l (suc n) b s) || x) (started-more r (v ∷ z) (suc n + size l) b s (right_listed l r at) e)
        ∙ sym (list_any-append after (started p (v ∷ z) l (suc n) b s) (started p (v ∷ z) r (suc n + size l) b s))
    started-more (Then c a) (v ∷ z) n b s at e = then_any (entails p b v c) P after _ _ (started-more a (v ∷ z) (suc n) b s (stands-tail at) e)
    started-more (Else c a) (v ∷ z) n b s at e = else_any (entails p b v c) P after _ _ (started-more a (v ∷ z) (suc n) b s (stands-tail at) e)
    started-more (New cell a) (v ∷ z) n b s at e = started-more a (v ∷ z) (suc n) (b ++ s ∷ []) s (stands-tail at) e
    started-more (Next a) (v ∷ z) n b s at e = started-more a z (suc n) b (s + 1) (stands-tail at) (omega arith) ∙ next_here z
      where
        next_here : (z : List StoreMap) → list_any (after_by z) (started p z a (suc n) b (s + 1)) ≡ list_any after (started p z a (suc n) b (s + 1))
        next_here [] = ap (λ x. x || false) (no_stay n b a (listed_tree p.nodes n (Next a) at))
        next_here (u ∷ z) = refl
    started-more (Hence a) (v ∷ z) n b s at e =
        let from : List StoreMap → ℕ = λ y. s + 1 + length (z ++ w ∷ []) - length y in
        let begun : List StoreMap → ℕ = λ y. s + 1 + length z - length y in
        let long = length-append z (w ∷ []) in
        let shift : (y : List StoreMap) → from (y ++ w ∷ []) ≡ begun y = λ y. let m = length-append y (w ∷ []) in omega arith in
        any-flat P (λ y. started p y a (suc n) b (from y)) (suffixes (z ++ w ∷ []))
        ∙ any-suffixes (λ y. list_any P (started p y a (suc n) b (from y))) w z
        ∙ ap (λ x. list_any (λ y. list_any P (started p (y ++ w ∷ []) a (suc n) b (from (y ++ w ∷ [])))) (suffixes z) || x) (or-false (P (closure (suc n) b)))
        ∙ ap (λ x. x || P (closure (suc n) b)) (any-each (λ y. list_any P (started p (y ++ w ∷ []) a (suc n) b (from (y ++ w ∷ [])))) (λ y. list_any (after_by y) (started p y a (suc n) b (begun y))) (suffixes z)
        (Each-map (λ y. length y ≤ length z) (λ y. list_any P (started p (y ++ w ∷ []) a (suc n) b (from (y ++ w ∷ []))) ≡ list_any (after_by y) (started p y a (suc n) b (begun y)))
        (λ y le. ap (λ (k : ℕ). list_any P (started p (y ++ w ∷ []) a (suc n) b k)) (shift y) ∙ started-more a y (suc n) b (begun y) (stands-tail at) (omega arith)) (suffixes z) (suffixes-length z)))
        ∙ any-ends (λ y. list_any (after_by y) (started p y a (suc n) b (begun y))) (λ y. list_any after (started p y a (suc n) b (begun y))) (P (closure (suc n) b)) (λ u y. refl)
        (ap (λ x. x || P (closure (suc n) b)) (or-false (list_any P (starts p w t (closure (suc n) b)))) ∙ stay n b a (listed_tree p.nodes n (Hence a) at) ∙ sym (or-false (after (closure (suc n) b)))) z
        ∙ sym (any-flat after (λ y. started p y a (suc n) b (begun y)) (suffixes z))

kept_any : (P : Closure → Bool) (r : Closure) (xs : List Closure) (y : Bool) → list_any P xs ≡ y → (b : Bool) → list_any P (cond b (r ∷ xs) xs) ≡ ((b && P r) || y)
kept_any P r xs y h true = ap (λ x. P r || x) h
kept_any P r xs y h false = h

any-filter : (S P : Closure → Bool) (rs : List Closure) → list_any P (filter S rs) ≡ list_any (λ r. S r && P r) rs
any-filter S P [] = refl
any-filter S P (r ∷ rs) = kept_any P r (filter S rs) (list_any (λ r. S r && P r) rs) (any-filter S P rs) (S r)

any-or : (F G : Closure → Bool) (rs : List Closure) → list_any (λ r. F r || G r) rs ≡ (list_any F rs || list_any G rs)
any-or F G [] = refl
any-or F G (r ∷ rs) = ap (λ x. (F r || G r) || x) (any-or F G rs) ∙ or_pairs (F r) (G r) (list_any F rs) (list_any G rs)

next-any : (p : CoreProgram) (w : StoreMap) (t : ℕ) (P : Closure → Bool) (rs : List Closure) → list_any (after p w t P) rs ≡ list_any P (next_of p w t rs)
next-any p w t P rs =
    any-or (λ r. list_any P (starts p w t r)) (λ r. stays p r && P r) rs
    ∙ or_comm (list_any (λ r. list_any P (starts p w t r)) rs) (list_any (λ r. stays p r && P r) rs)
    ∙ ap (λ x. x || list_any (λ r. list_any P (starts p w t r)) rs) (sym (any-filter (stays p) P rs))
    ∙ ap (λ x. list_any P (filter (stays p) rs) || x) (sym (any-flat P (starts p w t) rs))
    ∙ sym (list_any-append P (filter (stays p) rs) (flat_map (starts p w t) rs))

more : (p : CoreProgram) (z : List StoreMap) (w : StoreMap) → IsListing p.nodes → (P : Closure → Bool) → list_any P (started p (z ++ w ∷ []) (agent_at p.nodes 0) 0 [] 0) ≡ list_any (after p w (length z) P) (started p z (agent_at p.nodes 0) 0 [] 0)
more p [] w tree P =
    let start : 0 + 0 ≡ 0 = omega arith in
    started-more p w 0 P (agent_at p.nodes 0) [] 0 [] 0 ((root_place p.nodes tree).listed) start ∙ ap (λ x. x || false) (sym (or-false (list_any P (starts p w 0 (closure 0 [])))))
more p (v ∷ z) w tree P =
    let start : 0 + length (v ∷ z) ≡ length (v ∷ z) = omega arith in
    started-more p w (length (v ∷ z)) P (agent_at p.nodes 0) (v ∷ z) 0 [] 0 ((root_place p.nodes tree).listed) start

-- the roots after one more closed store, from the roots before it
pub roots-next : (p : CoreProgram) (z : List StoreMap) (w : StoreMap) → IsListing p.nodes → roots p (z ++ w ∷ []) ≡ sorted (next_of p w (length z) (roots p z))
roots-next p z w tree =
    same_sorted (started p (z ++ w ∷ []) (agent_at p.nodes 0) 0 [] 0) (next_of p w (length z) (roots p z)) (λ P.
    more p z w tree P ∙ sym (sorted-any (after p w (length z) P) (started p z (agent_at p.nodes 0) 0 [] 0)) ∙ next-any p w (length z) P (roots p z))
