-- Where a form stands in a tree: what holds of the tells of its copies holds of them in the symbolic agent of the whole tree.
use Rattle.std.proofs.Common.{◌≡◌, ℕ, suc, ◌+◌, ◌<◌, ◌≤◌, List, [], ◌∷◌, ◌++◌, Some, refl, ap, subst, arith, ◌⊎◌, ⊎_elim, inl, inr}
use Rattle.std.specs.Prelude.{Option, slice_get, Contains}
use Rattle.std.proofs.lemmas.List.Elements.{Contains-append_cases}
use Rattle.agent_core.specs.Agents.{Constraint}
use Rattle.agent_core.specs.Leaves.{Guard}
use Rattle.agent_core.specs.Programs.{CoreProgram}
use Rattle.tdcc_reader.specs.Trees.{Tree, Skip, Tell, Then, Else, Par, New, Hence, Next, Always, When, Watch, Time, form_count}
use Rattle.surface_laws.specs.Surfaces.{IsScopedTree}
use Rattle.expansion_laws.specs.Numbering.{binding}
use Rattle.expansion_laws.specs.Expanding.{symbolic_of}
use Rattle.expansion_laws.specs.Origins.{Subtree, subtree, subtrees}
use Rattle.expansion_laws.proofs.Stemming.{Has, has_below, has_own, has_copy}
use Rattle.expansion_laws.proofs.Members.{first_or, none_in}
use Rattle.expansion_laws.proofs.Walks.{Way, below, asked, denied, born, IsKnown, Reads, reads_more, Opens, IsEven, even_born, reads_first, opens_same, EachTell, Own, Ever, always_kept, when_kept, watching_kept, timed_kept}

-- WAYS TO A PLACE WITH THESE LOCAL CELLS

-- the news that a walk has come to are read, and each local cell of the surface that is in scope has one
pub record IsValid (ms : List ℕ) (floor : ℕ) (locals : List ℕ) (w : Way) : Type 0 where
  pub even : IsEven w
  pub reads : (binder : ℕ) → IsKnown floor locals binder → Reads ms floor w.scope binder

module _ (ms : List ℕ) (floor : ℕ) where
  pub valid_below : (locals : List ℕ) (w : Way) (g : Guard) → IsValid ms floor locals w → IsValid ms floor locals (below w g)
  valid_below locals w g v = record { even = v.even; reads = v.reads }

  pub valid_opens : (locals : List ℕ) (w u : Way) → Opens ms w u → IsValid ms floor locals w → IsValid ms floor locals u
  valid_opens locals w u o v = record { even = o.even; reads = λ binder h. o.wide floor binder (v.reads binder h) }

  pub valid_born : (locals : List ℕ) (w : Way) (new cell t : ℕ) → slice_get ms cell ≡ Some new → IsValid ms floor locals w → IsValid ms floor (new ∷ locals) (born w new cell t)
  valid_born locals w new cell t e v = record { even = even_born w new cell t v.even; reads = go }
    where
      go : (binder : ℕ) → IsKnown floor (new ∷ locals) binder → Reads ms floor (binding new cell ∷ w.scope) binder
      go binder (inl lt) = reads_more ms floor w.scope new cell binder e (v.reads binder (inl lt))
      go binder (inr (inl same)) = reads_first ms floor w.scope new cell binder same e
      go binder (inr (inr among)) = reads_more ms floor w.scope new cell binder e (v.reads binder (inr among))

-- FORMS

-- the form stands below form m, of which this is the tree
abbrev pub IsBelow : ℕ → Tree → ℕ → Type 0
IsBelow m x form = (m < form) × (form < m + form_count x)

module _ (cells : ℕ) (ms : List ℕ) (floor m : ℕ) (x : Tree) (G : Way → Type 0) (push : (w : Way) (g : Guard) → G w → G (below w g)) where
  abbrev R : Option ℕ → Way → Constraint → Type 0
  R = Has cells ms (IsBelow m x) G

  push_on : (o : Option ℕ) (w : Way) (c : Constraint) (g : Guard) → R o w c → R o (below w g) c
  push_on = has_below cells ms (IsBelow m x) G push

  own : (n : ℕ) → (IsBelow m x n → ⊥) → Own ms R (cells + n)
  own = has_own cells ms (IsBelow m x) G

  -- what holds of the tells that stem from a form below form m, in the symbolic agent of a tree
  abbrev pub Each : Way → Tree → ℕ → Type 0
  Each w t n = EachTell ms R w (symbolic_of cells n t)

  -- none of these forms, so many from n on, stands below form m
  abbrev IsOut : ℕ → ℕ → Type 0
  IsOut n long = (form : ℕ) → n ≤ form → form < n + long → IsBelow m x form → ⊥

  -- then none of the forms of its body does
  out_body : (n long : ℕ) → IsOut n (suc long) → IsOut (suc n) long
  out_body n long out form from to i = out form (omega arith) (omega arith) i

  -- a tree apart from form m has no tell of its copies
  pub apart : (t : Tree) (n : ℕ) → IsOut n (form_count t) → (w : Way) → IsEven w → Each w t n
  apart Skip n out w even = tt
  apart (Tell c) n out w even = has_copy cells ms (IsBelow m x) G n w c (out n (omega arith) (omega arith))
  apart (Then c a) n out w even = apart a (suc n) (out_body n (form_count a) out) (asked w c) even
  apart (Else c a) n out w even = apart a (suc n) (out_body n (form_count a) out) (denied w c) even
  apart (Par l r) n out w even = (
    apart l (suc n) (λ form from to i. out form (omega arith) (omega arith) i) w even,
    apart r (suc n + form_count l) (λ form from to i. out form (omega arith) (omega arith) i) w even,
  )
  apart (New cell a) n out w even = λ c t e. apart a (suc n) (out_body n (form_count a) out) (born w cell c t) (even_born w cell c t even)
  apart (Hence a) n out w even = λ v o. apart a (suc n) (out_body n (form_count a) out) v o.even
  apart (Next a) n out w even = λ v o. apart a (suc n) (out_body n (form_count a) out) v o.even
  apart (Always a) n out w even = always_kept ms R w (symbolic_of cells (suc n) a) (λ v o. apart a (suc n) (out_body n (form_count a) out) v o.even) w (opens_same ms w even)
  apart (When c a) n out w even = when_kept ms R w (cells + n) c (symbolic_of cells (suc n) a) (own n (out n (omega arith) (omega arith))) (λ v o. apart a (suc n) (out_body n (form_count a) out) v o.even) w (opens_same ms w even)
  apart (Watch a c) n out w even = watching_kept ms R push_on w (cells + n) c (symbolic_of cells (suc n) a) (own n (out n (omega arith) (omega arith))) (λ v o. apart a (suc n) (out_body n (form_count a) out) v o.even) w (opens_same ms w even)
  apart (Time a c) n out w even = timed_kept ms R w (cells + n) c (symbolic_of cells (suc n) a) (own n (out n (omega arith) (omega arith))) (λ v o. apart a (suc n) (out_body n (form_count a) out) v o.even) w (opens_same ms w even)

  -- what is to be shown of form m alone
  abbrev pub Holds : List ℕ → Tree → ℕ → Type 0
  Holds locals t n = (w : Way) → IsValid ms floor locals w → Each w t n

  -- form m stands in the tree, with these local cells around it
  pub record Stands (locals : List ℕ) (t : Tree) (n : ℕ) : Type 0 where
    pub from : n ≤ m
    pub to : m + form_count x ≤ n + form_count t
    pub around : List ℕ
    pub scoped : (p : CoreProgram) → IsScopedTree p locals t → IsScopedTree p around x
    pub each : Holds around x m → Holds locals t n

  -- it is the tree itself
  at_root : (locals : List ℕ) (t : Tree) (n : ℕ) → subtree n t ≡ subtree m x → Stands locals t n
  at_root locals t n e =
      let number : n ≡ m = ap (λ (y : Subtree). y.number) e in
      let long : form_count t ≡ form_count x = ap (λ (y : Subtree). form_count y.tree) e in
      record {
        from = omega arith;
        to = omega arith;
        around = locals;
        scoped = λ p. subst (λ (y : Subtree). IsScopedTree p locals t → IsScopedTree p locals y.tree) e (λ s. s);
        each = subst (λ (y : Subtree). Holds locals y.tree y.number → Holds locals t n) e (λ h. h);
      }

  -- it stands in the only part of the tree
  one_body : (locals inner : List ℕ) (t a : Tree) (n : ℕ) → form_count t ≡ suc (form_count a) → ((p : CoreProgram) → IsScopedTree p locals t → IsScopedTree p inner a) → (Holds inner a (suc n) → Holds locals t n)
      → Stands inner a (suc n) → Stands locals t n
  one_body locals inner t a n long scoped each s = let from = s.from in let to = s.to in record {
    from = omega arith;
    to = omega arith;
    around = s.around;
    scoped = λ p h. s.scoped p (scoped p h);
    each = λ h. each (s.each h);
  }

  -- it is the tree itself, or it stands behind its root
  or_below : (locals : List ℕ) (t : Tree) (n : ℕ) (rest : List Subtree) → Contains (subtree n t ∷ rest) (subtree m x) → (Contains rest (subtree m x) → Stands locals t n) → Stands locals t n
  or_below locals t n rest k h = go (first_or (subtree n t) (subtree m x) rest k)
    where
      go : (subtree n t ≡ subtree m x) ⊎ Contains rest (subtree m x) → Stands locals t n
      go (inl e) = at_root locals t n e
      go (inr c) = h c

  -- it stands in one part of a par, and the other part is apart
  in_par : (locals : List ℕ) (l r : Tree) (n : ℕ) → Stands locals l (suc n) ⊎ Stands locals r (suc n + form_count l) → Stands locals (Par l r) n
  in_par locals l r n (inl s) = let from = s.from in let to = s.to in record {
    from = omega arith;
    to = omega arith;
    around = s.around;
    scoped = λ p h. s.scoped p h.0;
    each = λ h w v. (s.each h w v, apart r (suc n + form_count l) (λ form low high i. let top = i.1 in omega arith) w v.even);
  }
  in_par locals l r n (inr s) = let from = s.from in let to = s.to in record {
    from = omega arith;
    to = omega arith;
    around = s.around;
    scoped = λ p h. s.scoped p h.1;
    each = λ h w v. (apart l (suc n) (λ form low high i. let bottom = i.0 in omega arith) w v.even, s.each h w v);
  }

  -- at whatever instant a symbolic agent begins, what is shown of it holds
  ever : (locals : List ℕ) (a : Tree) (n : ℕ) (w : Way) → Holds locals a n → IsValid ms floor locals w → Ever ms R w (symbolic_of cells n a)
  ever locals a n w h v u o = h u (valid_opens ms floor locals w u o v)

  -- a form around form m does not stand below it
  around : (locals : List ℕ) (a : Tree) (n : ℕ) → Stands locals a (suc n) → Own ms R (cells + n)
  around locals a n s = let from = s.from in own n (λ i. let behind = i.0 in omega arith)

  -- a form of the tree stands in it
  pub stands : (locals : List ℕ) (t : Tree) (n : ℕ) → Contains (subtrees n t) (subtree m x) → Stands locals t n
  stands locals Skip n k = or_below locals Skip n [] k (λ c. absurd (none_in (subtree m x) c))
  stands locals (Tell b) n k = or_below locals (Tell b) n [] k (λ c. absurd (none_in (subtree m x) c))
  stands locals (Then b a) n k = or_below locals (Then b a) n (subtrees (suc n) a) k (λ c. one_body locals locals (Then b a) a n refl (λ p s. s.1) (λ h w v. h (asked w b) (valid_below ms floor locals w _ v)) (stands locals a (suc n) c))
  stands locals (Else b a) n k = or_below locals (Else b a) n (subtrees (suc n) a) k (λ c. one_body locals locals (Else b a) a n refl (λ p s. s.1) (λ h w v. h (denied w b) (valid_below ms floor locals w _ v)) (stands locals a (suc n) c))
  stands locals (Par l r) n k = or_below locals (Par l r) n (subtrees (suc n) l ++ subtrees (suc n + form_count l) r) k (λ c. in_par locals l r n (⊎_elim (λ c. inl (stands locals l (suc n) c)) (λ c. inr (stands locals r (suc n + form_count l) c)) (Contains-append_cases (subtrees (suc n) l) (subtrees (suc n + form_count l) r) (subtree m x) c)))
  stands locals (New cell a) n k = or_below locals (New cell a) n (subtrees (suc n) a) k (λ c. one_body locals (cell ∷ locals) (New cell a) a n refl (λ p s. s) (λ h w v number t e. h (born w cell number t) (valid_born ms floor locals w cell number t e v)) (stands (cell ∷ locals) a (suc n) c))
  stands locals (Hence a) n k = or_below locals (Hence a) n (subtrees (suc n) a) k (λ c. one_body locals locals (Hence a) a n refl (λ p s. s) (λ h w v. ever locals a (suc n) w h v) (stands locals a (suc n) c))
  stands locals (Next a) n k = or_below locals (Next a) n (subtrees (suc n) a) k (λ c. one_body locals locals (Next a) a n refl (λ p s. s) (λ h w v. ever locals a (suc n) w h v) (stands locals a (suc n) c))
  stands locals (Always a) n k = or_below locals (Always a) n (subtrees (suc n) a) k (λ c. one_body locals locals (Always a) a n refl (λ p s. s) (λ h w v. always_kept ms R w (symbolic_of cells (suc n) a) (ever locals a (suc n) w h v) w (opens_same ms w v.even)) (stands locals a (suc n) c))
  stands locals (When b a) n k = or_below locals (When b a) n (subtrees (suc n) a) k (λ c. one_body locals locals (When b a) a n refl (λ p s. s.1) (λ h w v. when_kept ms R w (cells + n) b (symbolic_of cells (suc n) a) (around locals a n (stands locals a (suc n) c)) (ever locals a (suc n) w h v) w (opens_same ms w v.even)) (stands locals a (suc n) c))
  stands locals (Watch a b) n k = or_below locals (Watch a b) n (subtrees (suc n) a) k (λ c. one_body locals locals (Watch a b) a n refl (λ p s. s.0) (λ h w v. watching_kept ms R push_on w (cells + n) b (symbolic_of cells (suc n) a) (around locals a n (stands locals a (suc n) c)) (ever locals a (suc n) w h v) w (opens_same ms w v.even)) (stands locals a (suc n) c))
  stands locals (Time a b) n k = or_below locals (Time a b) n (subtrees (suc n) a) k (λ c. one_body locals locals (Time a b) a n refl (λ p s. s.0) (λ h w v. timed_kept ms R w (cells + n) b (symbolic_of cells (suc n) a) (around locals a n (stands locals a (suc n) c)) (ever locals a (suc n) w h v) w (opens_same ms w v.even)) (stands locals a (suc n) c))
