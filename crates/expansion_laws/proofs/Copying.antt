-- Each tell of a symbolic agent copies one of its tree, or an expansion added it for a form of the tree.
use Rattle.std.proofs.Common.{◌≡◌, ℕ, suc, ◌+◌, List, [], ◌∷◌, ◌++◌, Some, None, refl, ◌⊎◌, inl, inr}
use Rattle.std.specs.Prelude.{Option, slice_get, Contains}
use Rattle.std.proofs.lemmas.List.Elements.{Contains-append_left, Contains-append_right}
use Rattle.agent_core.specs.Agents.{Constraint}
use Rattle.agent_core.specs.Leaves.{Guard}
use Rattle.agent_core.specs.WellFormed.{IsAmong}
use Rattle.agent_core.specs.Programs.{CoreProgram}
use Rattle.tdcc_reader.specs.Trees.{Tree, Skip, Tell, Then, Else, Par, New, Hence, Next, Always, When, Watch, Time, form_count}
use Rattle.surface_laws.specs.Surfaces.{IsScopedTree}
use Rattle.expansion_laws.specs.Numbering.{bound_cell, bound_constraint}
use Rattle.expansion_laws.specs.Table.{signal_on}
use Rattle.expansion_laws.specs.Expanding.{symbolic_of}
use Rattle.expansion_laws.specs.Origins.{Subtree, subtree, subtrees, copied}
use Rattle.expansion_laws.proofs.Members.{first_in, later_in}
use Rattle.expansion_laws.proofs.Walks.{Way, below, asked, denied, born, cells_of, AreKnown, among_of, opens_same, EachTell, Own, always_kept, when_kept, watching_kept, timed_kept}
use Rattle.expansion_laws.proofs.Enclosing.{IsValid, valid_opens, valid_born}
use Rattle.expansion_laws.proofs.Clocking.{read_back, all_known, in_scope}

-- the tell with this origin copies the one that form m is
pub record IsCopyAt (ms : List ℕ) (floor : ℕ) (whole : List Subtree) (o : Option ℕ) (w : Way) (b : Constraint) : Type 0 where
  pub form : ℕ
  pub ask : Constraint
  pub there : Contains whole (subtree form (Tell ask))
  pub origin : o ≡ Some form
  pub copies : copied ms (bound_constraint w.scope b) ≡ ask
  pub known : AreKnown floor (cells_of w.scope) (bound_constraint w.scope b)

-- the tell with this origin tells the hidden signal of a form
pub record IsAddedAt (cells : ℕ) (ms : List ℕ) (whole : List Subtree) (o : Option ℕ) (w : Way) (b : Constraint) : Type 0 where
  pub form : ℕ
  pub tree : Tree
  pub there : Contains whole (subtree form tree)
  pub origin : o ≡ None
  pub hidden : ℕ
  pub bound : slice_get ms hidden ≡ Some (cells + form)
  pub around : IsAmong (cells_of w.scope) hidden
  pub tells : bound_constraint w.scope b ≡ signal_on hidden

module _ (q : CoreProgram) (cells : ℕ) (ms : List ℕ) (whole : List Subtree) where
  abbrev pub Stemming : Option ℕ → Way → Constraint → Type 0
  Stemming o w b = IsCopyAt ms q.declared whole o w b ⊎ IsAddedAt cells ms whole o w b

  -- one more guard changes nothing
  still : (o : Option ℕ) (w : Way) (b : Constraint) (g : Guard) → Stemming o w b → Stemming o (below w g) b
  still o w b g (inl c) = inl (record { form = c.form; ask = c.ask; there = c.there; origin = c.origin; copies = c.copies; known = c.known })
  still o w b g (inr a) = inr (record { form = a.form; tree = a.tree; there = a.there; origin = a.origin; hidden = a.hidden; bound = a.bound; around = a.around; tells = a.tells })

  -- these forms are among those of the whole
  abbrev AreThere : List Subtree → Type 0
  AreThere some = (y : Subtree) → Contains some y → Contains whole y

  -- what the expansion of a form of the whole adds stems from it
  own : (n : ℕ) (t : Tree) → Contains whole (subtree n t) → Own ms Stemming (cells + n)
  own n t there w reads = inr (record { form = n; tree = t; there = there; origin = refl; hidden = bound_cell w.scope (cells + n); bound = reads.bound; around = among_of (cells_of w.scope) (bound_cell w.scope (cells + n)) reads.known; tells = refl })

  -- the form itself, and those behind it
  root : (n : ℕ) (t : Tree) (rest : List Subtree) → AreThere (subtree n t ∷ rest) → Contains whole (subtree n t)
  root n t rest all = all (subtree n t) (first_in (subtree n t) rest)

  behind : (n : ℕ) (t : Tree) (rest : List Subtree) → AreThere (subtree n t ∷ rest) → AreThere rest
  behind n t rest all y k = all y (later_in (subtree n t) y rest k)

  -- each tell of the symbolic agent of a tree whose forms are among those of the whole stems from one of them
  pub tells_stem : (t : Tree) (locals : List ℕ) (n : ℕ) → AreThere (subtrees n t) → IsScopedTree q locals t → (w : Way) → IsValid ms q.declared locals w → EachTell ms Stemming w (symbolic_of cells n t)
  tells_stem Skip locals n all s w v = tt
  tells_stem (Tell b) locals n all s w v =
      let reads = in_scope ms q.declared q locals w refl v b s.tokens in
      inl (record { form = n; ask = b; there = root n (Tell b) [] all; origin = refl; copies = read_back ms q.declared w.scope b reads; known = all_known ms q.declared w.scope b reads })
  tells_stem (Then b a) locals n all s w v = tells_stem a locals (suc n) (behind n (Then b a) (subtrees (suc n) a) all) s.1 (asked w b) (record { even = v.even; reads = v.reads })
  tells_stem (Else b a) locals n all s w v = tells_stem a locals (suc n) (behind n (Else b a) (subtrees (suc n) a) all) s.1 (denied w b) (record { even = v.even; reads = v.reads })
  tells_stem (Par l r) locals n all s w v =
      let left = subtrees (suc n) l in
      let right = subtrees (suc n + form_count l) r in
      let both = behind n (Par l r) (left ++ right) all in (
        tells_stem l locals (suc n) (λ y k. both y (Contains-append_left left right y k)) s.0 w v,
        tells_stem r locals (suc n + form_count l) (λ y k. both y (Contains-append_right left right y k)) s.1 w v,
      )
  tells_stem (New cell a) locals n all s w v = λ number t e. tells_stem a (cell ∷ locals) (suc n) (behind n (New cell a) (subtrees (suc n) a) all) s (born w cell number t) (valid_born ms q.declared locals w cell number t e v)
  tells_stem (Hence a) locals n all s w v = λ u o. tells_stem a locals (suc n) (behind n (Hence a) (subtrees (suc n) a) all) s u (valid_opens ms q.declared locals w u o v)
  tells_stem (Next a) locals n all s w v = λ u o. tells_stem a locals (suc n) (behind n (Next a) (subtrees (suc n) a) all) s u (valid_opens ms q.declared locals w u o v)
  tells_stem (Always a) locals n all s w v =
      always_kept ms Stemming w (symbolic_of cells (suc n) a) (λ u o. tells_stem a locals (suc n) (behind n (Always a) (subtrees (suc n) a) all) s u (valid_opens ms q.declared locals w u o v)) w (opens_same ms w v.even)
  tells_stem (When b a) locals n all s w v =
      when_kept ms Stemming w (cells + n) b (symbolic_of cells (suc n) a) (own n (When b a) (root n (When b a) (subtrees (suc n) a) all))
      (λ u o. tells_stem a locals (suc n) (behind n (When b a) (subtrees (suc n) a) all) s.1 u (valid_opens ms q.declared locals w u o v)) w (opens_same ms w v.even)
  tells_stem (Watch a b) locals n all s w v =
      watching_kept ms Stemming still w (cells + n) b (symbolic_of cells (suc n) a) (own n (Watch a b) (root n (Watch a b) (subtrees (suc n) a) all))
      (λ u o. tells_stem a locals (suc n) (behind n (Watch a b) (subtrees (suc n) a) all) s.0 u (valid_opens ms q.declared locals w u o v)) w (opens_same ms w v.even)
  tells_stem (Time a b) locals n all s w v =
      timed_kept ms Stemming w (cells + n) b (symbolic_of cells (suc n) a) (own n (Time a b) (root n (Time a b) (subtrees (suc n) a) all))
      (λ u o. tells_stem a locals (suc n) (behind n (Time a b) (subtrees (suc n) a) all) s.0 u (valid_opens ms q.declared locals w u o v)) w (opens_same ms w v.even)
