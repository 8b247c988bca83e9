-- From the root of a symbolic agent to the copy of a form from which a leaf comes, where the form stands in no body of a watching or
-- of a time.
use Rattle.std.proofs.Common.{◌≡◌, ◌⊎◌, inl, inr, ℕ, suc, ◌+◌, ◌<◌, ◌≤◌, List, [], ◌∷◌, ◌++◌, length, Some, refl, sym, ap, subst, arith}
use Rattle.std.specs.Prelude.{slice_get, Contains}
use Rattle.std.proofs.lemmas.List.Elements.{Contains-append_cases}
use Rattle.agent_core.specs.Agents.{Constraint}
use Rattle.agent_core.specs.WellFormed.{IsAmong, IsConstraint}
use Rattle.agent_core.specs.Strata.{Each}
use Rattle.agent_core.proofs.Standing.{stands-head}
use Rattle.agent_laws.proofs.Eachs.{Each-parts}
use Rattle.tdcc_reader.specs.Trees.{Tree, Skip, Tell, Then, Else, Par, New, Hence, Next, Always, When, Watch, Time, form_count}
use Rattle.surface_laws.specs.Surfaces.{IsScopedTree, bare, new_cells}
use Rattle.expansion_laws.specs.Numbering.{Binding, binding}
use Rattle.expansion_laws.specs.Table.{watching}
use Rattle.expansion_laws.specs.Expanding.{symbolic_of}
use Rattle.expansion_laws.specs.Origins.{Subtree, subtree, free_subtrees}
use Rattle.expansion_laws.specs.Paths.{StemsFrom}
use Rattle.expansion_laws.proofs.Walks.{way, Reads, reads_more, reads_first}
use Rattle.expansion_laws.proofs.Enclosing.{IsBelow, apart}
use Rattle.expansion_laws.proofs.Members.{first_or, only_in}
use Rattle.expansion_laws.proofs.Spots.{Trail, binders_of, Spot, under, inside, beside, later, At, Nowhere, never, at_then, at_else, at_par, at_new, at_hence, at_next, at_always, at_when, not_at}

-- the trees that the free forms begin lie within the tree
module _ (m : ℕ) (x : Tree) where
  abbrev Lies : Tree → ℕ → Type 0
  Lies t n = (n ≤ m) × (m + form_count x ≤ n + form_count t)

  lies_here : (t : Tree) (n : ℕ) → subtree n t ≡ subtree m x → Lies t n
  lies_here t n e =
      let number : n ≡ m = ap (λ (y : Subtree). y.number) e in
      let long : form_count t ≡ form_count x = ap (λ (y : Subtree). form_count y.tree) e in
      (omega arith, omega arith)

  lies_below : (t a : Tree) (n : ℕ) → form_count t ≡ suc (form_count a) → (Contains (free_subtrees (suc n) a) (subtree m x) → Lies a (suc n)) → Contains (subtree n t ∷ free_subtrees (suc n) a) (subtree m x) → Lies t n
  lies_below t a n long rest c = go (first_or (subtree n t) (subtree m x) (free_subtrees (suc n) a) c)
    where
      go : (subtree n t ≡ subtree m x) ⊎ Contains (free_subtrees (suc n) a) (subtree m x) → Lies t n
      go (inl e) = lies_here t n e
      go (inr k) = let r = rest k in (omega (arith, r.0), omega (arith, r.1))

  pub lies_within : (t : Tree) (n : ℕ) → Contains (free_subtrees n t) (subtree m x) → Lies t n
  lies_within Skip n c = lies_here Skip n (only_in (subtree n Skip) (subtree m x) c)
  lies_within (Tell b) n c = lies_here (Tell b) n (only_in (subtree n (Tell b)) (subtree m x) c)
  lies_within (Watch a b) n c = lies_here (Watch a b) n (only_in (subtree n (Watch a b)) (subtree m x) c)
  lies_within (Time a b) n c = lies_here (Time a b) n (only_in (subtree n (Time a b)) (subtree m x) c)
  lies_within (Then b a) n c = lies_below (Then b a) a n refl (lies_within a (suc n)) c
  lies_within (Else b a) n c = lies_below (Else b a) a n refl (lies_within a (suc n)) c
  lies_within (New cell a) n c = lies_below (New cell a) a n refl (lies_within a (suc n)) c
  lies_within (Hence a) n c = lies_below (Hence a) a n refl (lies_within a (suc n)) c
  lies_within (Next a) n c = lies_below (Next a) a n refl (lies_within a (suc n)) c
  lies_within (Always a) n c = lies_below (Always a) a n refl (lies_within a (suc n)) c
  lies_within (When b a) n c = lies_below (When b a) a n refl (lies_within a (suc n)) c
  lies_within (Par l r) n c = go (lies_within l (suc n)) (lies_within r (suc n + form_count l)) (first_or (subtree n (Par l r)) (subtree m x) (free_subtrees (suc n) l ++ free_subtrees (suc n + form_count l) r) c)
    where
      either : (Contains (free_subtrees (suc n) l) (subtree m x) → Lies l (suc n)) → (Contains (free_subtrees (suc n + form_count l) r) (subtree m x) → Lies r (suc n + form_count l))
          → Contains (free_subtrees (suc n) l) (subtree m x) ⊎ Contains (free_subtrees (suc n + form_count l) r) (subtree m x) → Lies (Par l r) n
      either f g (inl k) = let h = f k in (omega (arith, h.0), omega (arith, h.1))
      either f g (inr k) = let h = g k in (omega (arith, h.0), omega (arith, h.1))

      go : (Contains (free_subtrees (suc n) l) (subtree m x) → Lies l (suc n)) → (Contains (free_subtrees (suc n + form_count l) r) (subtree m x) → Lies r (suc n + form_count l))
          → (subtree n (Par l r) ≡ subtree m x) ⊎ Contains (free_subtrees (suc n) l ++ free_subtrees (suc n + form_count l) r) (subtree m x) → Lies (Par l r) n
      go f g (inl e) = lies_here (Par l r) n e
      go f g (inr k) = either f g (Contains-append_cases (free_subtrees (suc n) l) (free_subtrees (suc n + form_count l) r) (subtree m x) k)

-- each is below this number
abbrev pub AreBelow : ℕ → List ℕ → Type 0
AreBelow n xs = Each (λ (k : ℕ). k < n) xs

-- a watching, and a form inside from which the leaf stems
pub record Aim (x : Trail) : Type 0 where
  pub number : ℕ
  pub body : Tree
  pub stop : Constraint
  pub form : ℕ
  pub stems : StemsFrom x.surface x.symbolic x.leaf form
  pub inside : IsBelow number (Watch body stop) form

module _ (x : Trail) (y : Aim x) where
  abbrev cells : ℕ
  cells = length x.surface.cells

  abbrev sought : Subtree
  sought = subtree y.number (Watch y.body y.stop)

  abbrev In : ℕ → Type 0
  In = IsBelow y.number (Watch y.body y.stop)

  abbrev Leading : Spot → Tree → ℕ → Type 0
  Leading r t n = At x r (symbolic_of cells n t)

  -- the binder of each cell in scope is read
  abbrev pub Seen : List ℕ → List Binding → Type 0
  Seen locals scope = (binder : ℕ) → (binder < x.surface.declared) ⊎ IsAmong locals binder → Reads (binders_of x) x.surface.declared scope binder

  -- a copy of the watching that leads to the leaf, with what the surface says of the watching
  pub record Found : Type 0 where
    pub spot : Spot
    pub at : At x spot (watching (cells + y.number) y.stop (symbolic_of cells (suc y.number) y.body))
    pub locals : List ℕ
    pub seen : Seen locals spot.scope
    pub scoped : IsConstraint (bare x.surface) locals y.stop
    pub below : AreBelow cells (new_cells y.body)

  -- a tree that does not have the watching does not lead to the leaf
  apart_not : (t : Tree) (n : ℕ) (r : Spot) → ((f : ℕ) → n ≤ f → f < n + form_count t → In f → ⊥) → Leading r t n → ⊥
  apart_not t n r out h = not_at x In y.form y.stems y.inside (symbolic_of cells n t) r [] h (apart cells (binders_of x) x.surface.declared y.number (Watch y.body y.stop) Nowhere never t n out (way r.scope r.births []) h.even)

  -- wherever a walk stands at the symbolic agent of the tree, it goes on to a copy
  abbrev Finds : Tree → ℕ → Type 0
  Finds t n = (locals : List ℕ) (r : Spot) → Leading r t n → IsScopedTree (bare x.surface) locals t → Seen locals r.scope → AreBelow cells (new_cells t) → Found

  -- the same of a part of a par, as its clause hands it on
  abbrev Finds_part : List ℕ → Tree → ℕ → Type 0
  Finds_part locals t n = Contains (free_subtrees n t) sought → (r : Spot) → Leading r t n → Seen locals r.scope → AreBelow cells (new_cells t) → Found

  seen_more : (locals : List ℕ) (scope : List Binding) (new cell : ℕ) → slice_get (binders_of x) cell ≡ Some new → Seen locals scope → Seen locals (binding new cell ∷ scope)
  seen_more locals scope new cell e seen binder h = reads_more (binders_of x) x.surface.declared scope new cell binder e (seen binder h)

  seen_local : (locals : List ℕ) (scope : List Binding) (new cell : ℕ) → slice_get (binders_of x) cell ≡ Some new → Seen locals scope → Seen (new ∷ locals) (binding new cell ∷ scope)
  seen_local locals scope new cell e seen binder (inl lt) = reads_more (binders_of x) x.surface.declared scope new cell binder e (seen binder (inl lt))
  seen_local locals scope new cell e seen binder (inr (inl same)) = reads_first (binders_of x) x.surface.declared scope new cell binder same e
  seen_local locals scope new cell e seen binder (inr (inr among)) = reads_more (binders_of x) x.surface.declared scope new cell binder e (seen binder (inr among))

  other_form : (t : Tree) (n : ℕ) → (t ≡ Watch y.body y.stop → ⊥) → subtree n t ≡ sought → ⊥
  other_form t n differ e = differ (ap (λ (w : Subtree). w.tree) e)

  inner : (t : Tree) (n : ℕ) (rest : List Subtree) → (t ≡ Watch y.body y.stop → ⊥) → Contains (subtree n t ∷ rest) sought → Contains rest sought
  inner t n rest differ k = elim (first_or (subtree n t) sought rest k) [
    | inl e ↦ absurd (other_form t n differ e)
    | inr h ↦ h
  ]

  here : (b : Tree) (d : Constraint) (n : ℕ) → subtree n (Watch b d) ≡ sought → Finds (Watch b d) n
  here b d n e locals r h scoped seen below =
      let number : n ≡ y.number = ap (λ (w : Subtree). w.number) e in
      let tree : Watch b d ≡ Watch y.body y.stop = ap (λ (w : Subtree). w.tree) e in
      let body : b ≡ y.body = cc in
      let stop : d ≡ y.stop = cc in
      record {
        spot = r;
        at = subst (λ (k : ℕ). At x r (watching (cells + k) y.stop (symbolic_of cells (suc k) y.body))) number
            (subst (λ (t : Tree). At x r (watching (cells + n) y.stop (symbolic_of cells (suc n) t))) body (subst (λ (c : Constraint). At x r (watching (cells + n) c (symbolic_of cells (suc n) b))) stop h));
        locals = locals;
        seen = seen;
        scoped = subst (IsConstraint (bare x.surface) locals) stop scoped.1;
        below = subst (λ (t : Tree). AreBelow cells (new_cells t)) body below;
      }

  pub find : (t : Tree) (n : ℕ) → Contains (free_subtrees n t) sought → Finds t n
  find Skip n k locals r h scoped seen below = absurd (other_form Skip n (λ e. cc) (only_in (subtree n Skip) sought k))
  find (Tell b) n k locals r h scoped seen below = absurd (other_form (Tell b) n (λ e. cc) (only_in (subtree n (Tell b)) sought k))
  find (Time b d) n k locals r h scoped seen below = absurd (other_form (Time b d) n (λ e. cc) (only_in (subtree n (Time b d)) sought k))
  find (Watch b d) n k locals r h scoped seen below = here b d n (only_in (subtree n (Watch b d)) sought k) locals r h scoped seen below
  find (Then d b) n k locals r h scoped seen below =
      find b (suc n) (inner (Then d b) n (free_subtrees (suc n) b) (λ e. cc) k) locals (under r) (at_then x r _ d _ h) scoped.1 seen below
  find (Else d b) n k locals r h scoped seen below =
      find b (suc n) (inner (Else d b) n (free_subtrees (suc n) b) (λ e. cc) k) locals (under r) (at_else x r _ d _ h) scoped.1 seen below
  find (New cell b) n k locals r h scoped seen below =
      find b (suc n) (inner (New cell b) n (free_subtrees (suc n) b) (λ e. cc) k) (cell ∷ locals) (inside r cell) (at_new x r _ cell _ h) scoped
      (seen_local locals r.scope cell r.cell (stands-head h.part.bound) seen) below.1
  find (Hence b) n k locals r h scoped seen below =
      let (since, t, body) = at_hence x r _ _ h in
      find b (suc n) (inner (Hence b) n (free_subtrees (suc n) b) (λ e. cc) k) locals (later r since t) body scoped seen below
  find (Next b) n k locals r h scoped seen below =
      let (since, t, body) = at_next x r _ _ h in
      find b (suc n) (inner (Next b) n (free_subtrees (suc n) b) (λ e. cc) k) locals (later r since t) body scoped seen below
  find (Always b) n k locals r h scoped seen below =
      let to = at_always x r _ h in
      find b (suc n) (inner (Always b) n (free_subtrees (suc n) b) (λ e. cc) k) locals to.0 to.1 scoped (subst (Seen locals) (sym to.2) seen) below
  find (When d b) n k locals r h scoped seen below =
      let deeper = inner (When d b) n (free_subtrees (suc n) b) (λ e. cc) k in
      let lies = lies_within y.number (Watch y.body y.stop) b (suc n) deeper in
      let to = at_when x In y.form y.stems y.inside r n d _ (λ i. omega (arith, lies.0, i.0)) h in
      find b (suc n) deeper locals to.0 to.1 scoped.1
      (subst (Seen locals) (sym to.2) (seen_more locals r.scope (cells + n) r.cell (stands-head h.part.bound) seen)) below
  find (Par left right) n k locals r h scoped seen below =
      let deeper = inner (Par left right) n (free_subtrees (suc n) left ++ free_subtrees (suc n + form_count left) right) (λ e. cc) k in
      let parts = Each-parts (λ (c : ℕ). c < cells) (new_cells left) (new_cells right) below in
      go (λ c s at. find left (suc n) c locals s at scoped.0) (λ c s at. find right (suc n + form_count left) c locals s at scoped.1) parts.0 parts.1
      (Contains-append_cases (free_subtrees (suc n) left) (free_subtrees (suc n + form_count left) right) sought deeper) (at_par x r _ _ _ h)
    where
      go : Finds_part locals left (suc n) → Finds_part locals right (suc n + form_count left) → AreBelow cells (new_cells left) → AreBelow cells (new_cells right)
          → Contains (free_subtrees (suc n) left) sought ⊎ Contains (free_subtrees (suc n + form_count left) right) sought
          → Leading (under r) left (suc n) ⊎ Leading (beside r (symbolic_of cells (suc n) left)) right (suc n + form_count left) → Found
      go f g bl br (inl c) (inl at) = f c (under r) at seen bl
      go f g bl br (inr c) (inr at) = g c (beside r (symbolic_of cells (suc n) left)) at seen br
      go f g bl br (inl c) (inr at) =
          let lies = lies_within y.number (Watch y.body y.stop) left (suc n) c in
          absurd (apart_not right (suc n + form_count left) (beside r (symbolic_of cells (suc n) left)) (λ form low high i. omega (arith, lies.1, i.1)) at)
      go f g bl br (inr c) (inl at) =
          let lies = lies_within y.number (Watch y.body y.stop) right (suc n + form_count left) c in
          absurd (apart_not left (suc n) (under r) (λ form low high i. omega (arith, lies.0, i.0)) at)
