-- What guards and leaves that a walk lists say: the paths that their links give, and which leaves are below which guard.
use Rattle.std.proofs.Common.{◌≡◌, ℕ, zero, suc, ◌+◌, ◌<◌, ◌≤◌, List, [], ◌∷◌, ◌++◌, length, map, Some, None, refl, sym, ap, ◌∙◌, subst, arith, length-append, ◌⊎◌, inl, inr}
use Rattle.std.specs.Prelude.{Option, All, slice_get, slice_index_or}
use Rattle.std.proofs.lemmas.List.{get_or_append_left, map-append}
use Rattle.std.proofs.lemmas.Option.{slice_get_within}
use Rattle.instant_net.specs.declared.parts.NetCell.{NetCell}
use Rattle.instant_net.specs.declared.parts.NetGuard.{NetGuard}
use Rattle.instant_net.specs.declared.parts.NetLeaf.{NetLeaf}
use Rattle.instant_net.specs.NamedLeaves.{NamedGuard, NamedLeaf}
use Rattle.agent_core.specs.Occurrences.{Occurrence}
use Rattle.instant_net.specs.Nets.{AtomFits, named_guard, named_kind, path_to, paths_from, IsAtOrAbove, here, above, IsLinkBelow, atoms_of}
use Rattle.instant_net.specs.Walks.{Grown, none, leaf, under, beside}
use Rattle.instant_net.proofs.Lists.{get-append, get-left, get-right}

-- PATHS

pub length-push : (paths : List (List NamedGuard)) (x : List NamedGuard) → length (paths ++ x ∷ []) ≡ suc (length paths)
length-push [] x = refl
length-push (y ∷ paths) x = ap suc (length-push paths x)

pub new_path : (paths : List (List NamedGuard)) (x : List NamedGuard) → slice_index_or (paths ++ x ∷ []) (length paths) [] ≡ x
new_path [] x = refl
new_path (y ∷ paths) x = new_path paths x

-- a list of paths says of the first k what another one does
abbrev pub Agree : ℕ → List (List NamedGuard) → List (List NamedGuard) → Type 0
Agree k paths all = (j : ℕ) → j < k → slice_index_or all j [] ≡ slice_index_or paths j []

pub path-agree : (k : ℕ) (paths all : List (List NamedGuard)) (last : Option ℕ) → IsLinkBelow k last → Agree k paths all → path_to all last ≡ path_to paths last
path-agree k paths all None lt same = refl
path-agree k paths all (Some j) lt same = same j lt

below-more : (last : Option ℕ) (k m : ℕ) → k ≤ m → IsLinkBelow k last → IsLinkBelow m last
below-more None k m le h = tt
below-more (Some j) k m le h = omega arith

module _ (cells : List NetCell) where
  pub length-paths : (paths : List (List NamedGuard)) (guards : List NetGuard) → length (paths_from cells paths guards) ≡ length paths + length guards
  length-paths paths [] = let e : length paths ≡ length paths + 0 = omega arith in e
  length-paths paths (g ∷ guards) =
      let h = length-paths (paths ++ (path_to paths g.above ++ named_guard cells g ∷ []) ∷ []) guards in
      let p = length-push paths (path_to paths g.above ++ named_guard cells g ∷ []) in
      omega arith

  paths-append : (paths : List (List NamedGuard)) (a b : List NetGuard) → paths_from cells paths (a ++ b) ≡ paths_from cells (paths_from cells paths a) b
  paths-append paths [] b = refl
  paths-append paths (g ∷ a) b = paths-append (paths ++ (path_to paths g.above ++ named_guard cells g ∷ []) ∷ []) a b

  pub agree-from : (paths : List (List NamedGuard)) (guards : List NetGuard) → Agree (length paths) paths (paths_from cells paths guards)
  agree-from paths [] j lt = refl
  agree-from paths (g ∷ guards) j lt =
      let x : List NamedGuard = path_to paths g.above ++ named_guard cells g ∷ [] in
      let long = length-push paths x in
      agree-from (paths ++ x ∷ []) guards j (omega arith) ∙ get_or_append_left paths (x ∷ []) [] j lt

  -- the leaf, read by these paths
  abbrev pub read : List (List NamedGuard) → NetLeaf → NamedLeaf
  read all l = record { kind = named_kind cells l.kind; path = path_to all l.last }

  -- the guard, read by these paths
  abbrev pub read_guard : List (List NamedGuard) → NetGuard → Occurrence NamedGuard
  read_guard all g = record { guard = named_guard cells g; path = path_to all g.above }

  -- guards and leaves read by a list of paths
  pub record IsRead (all : List (List NamedGuard)) (gs : List NetGuard) (ls : List NetLeaf) (os : List (Occurrence NamedGuard)) (out : List NamedLeaf) : Type 0 where
    pub guards : map (read_guard all) gs ≡ os
    pub leaves : map (read all) ls ≡ out

  -- they are read so by any list of paths that agrees with what the guards give
  grown-read : {last : Option ℕ} {path : List NamedGuard} {k l : ℕ} {gs : List NetGuard} {ls : List NetLeaf} {os : List (Occurrence NamedGuard)} {out : List NamedLeaf} → Grown cells last path k l gs ls os out
      → (paths all : List (List NamedGuard)) → length paths ≡ k → IsLinkBelow k last → path_to paths last ≡ path → Agree (k + length gs) (paths_from cells paths gs) all → IsRead all gs ls os out
  grown-read (none last path k l) paths all long before at same = record { guards = refl; leaves = refl }
  grown-read (leaf path k l x fit) paths all long before at same = record {
    guards = refl;
    leaves = ap (λ (way : List NamedGuard). record { kind = named_kind cells x.kind; path = way } ∷ []) (path-agree k paths all x.last before (λ j lt. same j (omega arith)) ∙ at);
  }
  grown-read (under path k l g gs ls os out fit first past h) paths all long before at same =
      let x : List NamedGuard = path_to paths g.above ++ named_guard cells g ∷ [] in
      let new : path_to (paths ++ x ∷ []) (Some k) ≡ x = ap (λ (j : ℕ). slice_index_or (paths ++ x ∷ []) j []) (sym long) ∙ new_path paths x in
      let way : path_to all g.above ≡ path = path-agree k paths all g.above before (λ j lt. same j (omega arith) ∙ agree-from paths (g ∷ gs) j (omega arith)) ∙ at in
      let rest = grown-read h (paths ++ x ∷ []) all (length-push paths x ∙ ap suc long) (omega arith) (new ∙ ap (λ (way : List NamedGuard). way ++ named_guard cells g ∷ []) at) (λ j lt. same j (omega arith)) in
      record {
        guards =
            ap (λ (way : List NamedGuard). record { guard = named_guard cells g; path = way } ∷ map (read_guard all) gs) way
            ∙ ap (λ (os : List (Occurrence NamedGuard)). record { guard = named_guard cells g; path = path } ∷ os) rest.guards;
        leaves = rest.leaves;
      }
  grown-read (beside last path k l gs ls os out gs' ls' os' out' h h') paths all long before at same =
      let middle : List (List NamedGuard) = paths_from cells paths gs in
      let wide = length-paths paths gs in
      let sum = length-append gs gs' in
      let whole : Agree (k + length gs + length gs') (paths_from cells middle gs') all = λ j lt. same j (omega arith) ∙ ap (λ (ps : List (List NamedGuard)). slice_index_or ps j []) (paths-append paths gs gs') in
      let left : Agree (k + length gs) middle all = λ j lt. whole j (omega arith) ∙ agree-from middle gs' j (omega arith) in
      let same_last : path_to middle last ≡ path_to paths last = path-agree k paths middle last before (λ j lt. agree-from paths gs j (omega arith)) in
      let first = grown-read h paths all long before at left in
      let second = grown-read h' middle all (omega arith) (below-more last k (k + length gs) (omega arith) before) (same_last ∙ at) whole in
      record {
        guards = map-append (read_guard all) gs gs' ∙ ap (λ xs. xs ++ map (read_guard all) gs') first.guards ∙ ap (λ ys. os ++ ys) second.guards;
        leaves = map-append (read all) ls ls' ∙ ap (λ xs. xs ++ map (read all) ls') first.leaves ∙ ap (λ ys. out ++ ys) second.leaves;
      }

  pub grown-all : {gs : List NetGuard} {ls : List NetLeaf} {os : List (Occurrence NamedGuard)} {out : List NamedLeaf} → Grown cells None [] 0 0 gs ls os out → IsRead (paths_from cells [] gs) gs ls os out
  grown-all {gs} h = grown-read h [] (paths_from cells [] gs) refl tt refl (λ j lt. refl)

  -- WHAT GUARDS AND LEAVES NAME IS THERE

  pub record GuardNames (k l past : ℕ) (g : NetGuard) : Type 0 where
    pub fit : All (AtomFits cells) g.ask
    pub before : IsLinkBelow k g.above
    pub first : l ≤ g.first
    pub last : g.past ≤ past

  pub grown-guard : {last : Option ℕ} {path : List NamedGuard} {k l : ℕ} {gs : List NetGuard} {ls : List NetLeaf} {os : List (Occurrence NamedGuard)} {out : List NamedLeaf} → Grown cells last path k l gs ls os out
      → IsLinkBelow k last → (j m past : ℕ) (g : NetGuard) → m ≡ k + j → past ≡ l + length ls → slice_get gs j ≡ Some g → GuardNames m l past g
  grown-guard (none last path k l) before j m past g e f at = absurd (cc)
  grown-guard (leaf path k l x fit) before j m past g e f at = absurd (cc)
  grown-guard (under path k l g' gs ls os out fit first ends h) before zero m past g e f at =
      let same : g' ≡ g = cc in
      subst (GuardNames m l past) same (record { fit = fit; before = below-more g'.above k m (omega arith) before; first = omega arith; last = omega arith })
  grown-guard (under path k l g' gs ls os out fit first ends h) before (suc j) m past g e f at = grown-guard h (omega arith) j m past g (omega arith) f at
  grown-guard (beside last path k l gs ls os out gs' ls' os' out' h h') before j m past g e f at = elim (get-append gs gs' j g at) [
    | inl in_left ↦
        let i = grown-guard h before j m (l + length ls) g e refl in_left in
        let a = i.last in
        record { fit = i.fit; before = i.before; first = i.first; last = omega (arith, length-append ls ls') }
    | inr in_right ↦
        let f' = in_right.1 in
        let i = grown-guard h' (below-more last k (k + length gs) (omega arith) before) in_right.0 m past g (omega arith) (omega (arith, length-append ls ls')) in_right.2 in
        let a = i.first in
        record { fit = i.fit; before = i.before; first = omega arith; last = i.last }
  ]

  pub record LeafNames (past : ℕ) (x : NetLeaf) : Type 0 where
    pub fit : All (AtomFits cells) (atoms_of x.kind)
    pub before : IsLinkBelow past x.last

  pub grown-leaf : {last : Option ℕ} {path : List NamedGuard} {k l : ℕ} {gs : List NetGuard} {ls : List NetLeaf} {os : List (Occurrence NamedGuard)} {out : List NamedLeaf} → Grown cells last path k l gs ls os out
      → IsLinkBelow k last → (i past : ℕ) (x : NetLeaf) → past ≡ k + length gs → slice_get ls i ≡ Some x → LeafNames past x
  grown-leaf (none last path k l) before i past x e at = absurd (cc)
  grown-leaf (leaf path k l x' fit) before zero past x e at =
      let same : x' ≡ x = cc in
      subst (LeafNames past) same (record { fit = fit; before = below-more x'.last k past (omega arith) before })
  grown-leaf (leaf path k l x' fit) before (suc i) past x e at = absurd (cc)
  grown-leaf (under path k l g gs ls os out fit first ends h) before i past x e at = grown-leaf h (omega arith) i past x (omega arith) at
  grown-leaf (beside last path k l gs ls os out gs' ls' os' out' h h') before i past x e at = elim (get-append ls ls' i x at) [
    | inl in_left ↦
        let r = grown-leaf h before i (k + length gs) x refl in_left in
        record { fit = r.fit; before = below-more x.last (k + length gs) past (omega (arith, length-append gs gs')) r.before }
    | inr in_right ↦ grown-leaf h' (below-more last k (k + length gs) (omega arith) before) in_right.0 past x (omega (arith, length-append gs gs')) in_right.2
  ]

  -- WHICH LEAVES ARE BELOW A GUARD

  module _ (all : List NetGuard) where
    -- these guards stand at k among all
    abbrev Stand : ℕ → List NetGuard → Type 0
    Stand k gs = (j m : ℕ) (g : NetGuard) → m ≡ k + j → slice_get gs j ≡ Some g → slice_get all m ≡ Some g

    -- guard m is one of these, and has leaf i between its ends
    record HasBetween (gs : List NetGuard) (k i m : ℕ) : Type 0 where
      number : ℕ
      guard : NetGuard
      stands : slice_get gs number ≡ Some guard
      is : m ≡ k + number
      first : guard.first ≤ i
      past : i < guard.past

    -- the guards above leaf i are those above all of these, and those of these that have the leaf between their ends
    record IsUnder (gs : List NetGuard) (k i : ℕ) (last own : Option ℕ) : Type 0 where
      up : (m : ℕ) → IsAtOrAbove all m own → IsAtOrAbove all m last ⊎ HasBetween gs k i m
      kept : (m : ℕ) → IsAtOrAbove all m last → IsAtOrAbove all m own
      down : (m : ℕ) → HasBetween gs k i m → IsAtOrAbove all m own

    at_one : (m k : ℕ) (g : NetGuard) (o : Option ℕ) → slice_get all k ≡ Some g → o ≡ Some k → IsAtOrAbove all m o → (m ≡ k) ⊎ IsAtOrAbove all m g.above
    at_one m k g _ at e here = inl (cc)
    at_one m k g _ at e (above j g' f h) =
        let same : j ≡ k = cc in
        let alike : g' ≡ g = let f' = sym f ∙ ap (slice_get all) same ∙ at in cc in
        inr (subst (λ (x : NetGuard). IsAtOrAbove all m x.above) alike h)

    under_one : (k : ℕ) (g : NetGuard) (gs : List NetGuard) (i : ℕ) (own : Option ℕ) → slice_get all k ≡ Some g → g.first ≤ i → i < g.past
        → IsUnder gs (suc k) i (Some k) own → IsUnder (g ∷ gs) k i g.above own
    under_one k g gs i own at le lt h = record {
      up = λ m a. up m (h.up m a);
      kept = λ m a. h.kept m (above k g at a);
      down = λ m b. down m b b.number refl;
    }
      where
        up : (m : ℕ) → IsAtOrAbove all m (Some k) ⊎ HasBetween gs (suc k) i m → IsAtOrAbove all m g.above ⊎ HasBetween (g ∷ gs) k i m
        up m (inl a) = elim (at_one m k g (Some k) at refl a) [
          | inl same ↦ inr (record { number = 0; guard = g; stands = refl; is = omega arith; first = le; past = lt })
          | inr more ↦ inl more
        ]
        up m (inr b) = let e = b.is in inr (record { number = suc b.number; guard = b.guard; stands = b.stands; is = omega arith; first = b.first; past = b.past })

        down : (m : ℕ) (b : HasBetween (g ∷ gs) k i m) (j : ℕ) → b.number ≡ j → IsAtOrAbove all m own
        down m b zero e =
            let f = b.is in
            let same : m ≡ k = omega arith in
            h.kept m (subst (λ (n : ℕ). IsAtOrAbove all m (Some n)) same here)
        down m b (suc j) e =
            let f = b.is in
            h.down m (record { number = j; guard = b.guard; stands = ap (slice_get (g ∷ gs)) (sym e) ∙ b.stands; is = omega arith; first = b.first; past = b.past })

    -- the leaf is among the first ones of two parts, and none of the second guards begins so early
    left_under : (k n : ℕ) (gs gs' : List NetGuard) (last own : Option ℕ) → IsUnder gs k n last own → ((j : ℕ) (g : NetGuard) → slice_get gs' j ≡ Some g → n < g.first) → IsUnder (gs ++ gs') k n last own
    left_under k n gs gs' last own r later = record { up = λ m a. up m (r.up m a); kept = r.kept; down = λ m b. down m b (get-append gs gs' b.number b.guard b.stands) }
      where
        up : (m : ℕ) → IsAtOrAbove all m last ⊎ HasBetween gs k n m → IsAtOrAbove all m last ⊎ HasBetween (gs ++ gs') k n m
        up m (inl a) = inl a
        up m (inr b) = inr (record { number = b.number; guard = b.guard; stands = get-left gs gs' b.number b.guard b.stands; is = b.is; first = b.first; past = b.past })

        down : (m : ℕ) (b : HasBetween (gs ++ gs') k n m) → (slice_get gs b.number ≡ Some b.guard) ⊎ ((j : ℕ) × (b.number ≡ length gs + j) × (slice_get gs' j ≡ Some b.guard)) → IsAtOrAbove all m own
        down m b (inl s) = r.down m (record { number = b.number; guard = b.guard; stands = s; is = b.is; first = b.first; past = b.past })
        down m b (inr (j, f, s)) = absurd (let a = later j b.guard s in let c = b.first in omega arith)

    -- the leaf is among the second ones, and all of the first guards end before it
    right_under : (k n : ℕ) (gs gs' : List NetGuard) (last own : Option ℕ) → IsUnder gs' (k + length gs) n last own → ((j : ℕ) (g : NetGuard) → slice_get gs j ≡ Some g → g.past ≤ n) → IsUnder (gs ++ gs') k n last own
    right_under k n gs gs' last own r sooner = record { up = λ m a. up m (r.up m a); kept = r.kept; down = λ m b. down m b (get-append gs gs' b.number b.guard b.stands) }
      where
        up : (m : ℕ) → IsAtOrAbove all m last ⊎ HasBetween gs' (k + length gs) n m → IsAtOrAbove all m last ⊎ HasBetween (gs ++ gs') k n m
        up m (inl a) = inl a
        up m (inr b) =
            let c = b.is in
            inr (record { number = length gs + b.number; guard = b.guard; stands = get-right gs gs' b.number (length gs + b.number) b.guard refl b.stands; is = omega arith; first = b.first; past = b.past })

        down : (m : ℕ) (b : HasBetween (gs ++ gs') k n m) → (slice_get gs b.number ≡ Some b.guard) ⊎ ((j : ℕ) × (b.number ≡ length gs + j) × (slice_get gs' j ≡ Some b.guard)) → IsAtOrAbove all m own
        down m b (inl s) = absurd (let a = sooner b.number b.guard s in let c = b.past in omega arith)
        down m b (inr (j, f, s)) = let c = b.is in r.down m (record { number = j; guard = b.guard; stands = s; is = omega arith; first = b.first; past = b.past })

    grown-under : {last : Option ℕ} {path : List NamedGuard} {k l : ℕ} {gs : List NetGuard} {ls : List NetLeaf} {os : List (Occurrence NamedGuard)} {out : List NamedLeaf} → Grown cells last path k l gs ls os out
        → IsLinkBelow k last → Stand k gs → (i n : ℕ) (x : NetLeaf) → n ≡ l + i → slice_get ls i ≡ Some x → IsUnder gs k n last x.last
    grown-under (none last path k l) before stand i n x e at = absurd (cc)
    grown-under (leaf path k l x' fit) before stand zero n x e at =
        let same : x' ≡ x = cc in
        subst (λ (y : NetLeaf). IsUnder [] k n x'.last y.last) same (record { up = λ m a. inl a; kept = λ m a. a; down = λ m b. absurd (let f = b.stands in cc) })
    grown-under (leaf path k l x' fit) before stand (suc i) n x e at = absurd (cc)
    grown-under (under path k l g gs ls os out fit first ends h) before stand i n x e at =
        let lt = slice_get_within ls i x at in
        under_one k g gs n x.last (stand 0 k g (omega arith) refl) (omega arith) (omega arith)
        (grown-under h (omega arith) (λ j m g' f s. stand (suc j) m g' (omega arith) s) i n x e at)
    grown-under (beside last path k l gs ls os out gs' ls' os' out' h h') before stand i n x e at =
        let more : IsLinkBelow (k + length gs) last = below-more last k (k + length gs) (omega arith) before in
        elim (get-append ls ls' i x at) [
          | inl in_left ↦
              let lt = slice_get_within ls i x in_left in
              left_under k n gs gs' last x.last (grown-under h before (λ j m g f s. stand j m g f (get-left gs gs' j g s)) i n x e in_left)
              (λ j g s. let r = grown-guard h' more j (k + length gs + j) (l + length ls + length ls') g refl refl s in let a = r.first in omega arith)
          | inr in_right ↦
              let f = in_right.1 in
              right_under k n gs gs' last x.last
              (grown-under h' more (λ j m g f s. stand (length gs + j) m g (omega arith) (get-right gs gs' j (length gs + j) g refl s)) in_right.0 n x (omega arith) in_right.2)
              (λ j g s. let r = grown-guard h before j (k + j) (l + length ls) g refl refl s in let a = r.last in omega arith)
        ]

    none_above : (m : ℕ) → IsAtOrAbove all m None → ⊥
    none_above m h = elim h [ ]

    -- the guard is above exactly the leaves between its ends
    pub grown-over : {ls : List NetLeaf} {os : List (Occurrence NamedGuard)} {out : List NamedLeaf} → Grown cells None [] 0 0 all ls os out → (m : ℕ) (g : NetGuard) → slice_get all m ≡ Some g → (i : ℕ) (x : NetLeaf) → slice_get ls i ≡ Some x
        → (IsAtOrAbove all m x.last → (g.first ≤ i) × (i < g.past)) × ((g.first ≤ i) × (i < g.past) → IsAtOrAbove all m x.last)
    grown-over h m g at i x s = (λ a. up (r.up m a), λ b. r.down m (record { number = m; guard = g; stands = at; is = omega arith; first = b.0; past = b.1 }))
      where
        r : IsUnder all 0 i None x.last
        r = grown-under h tt (λ j n g' f e. ap (slice_get all) (let f' : n ≡ j = omega arith in f') ∙ e) i i x (omega arith) s

        up : IsAtOrAbove all m None ⊎ HasBetween all 0 i m → (g.first ≤ i) × (i < g.past)
        up (inl a) = absurd (none_above m a)
        up (inr b) =
            let f = b.is in
            let same : b.guard ≡ g = let f' : b.number ≡ m = omega arith in let e = sym b.stands ∙ ap (slice_get all) f' ∙ at in cc in
            subst (λ (y : NetGuard). (y.first ≤ i) × (i < y.past)) same (b.first, b.past)
