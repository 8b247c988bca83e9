-- The path to a guard is the path to the one above it, and then itself.
use Rattle.std.proofs.Common.{◌≡◌, ◌⊎◌, inl, inr, ℕ, zero, suc, ◌+◌, ◌<◌, ◌≤◌, List, [], ◌∷◌, ◌++◌, length, get_or, Bool, true, false, ◌&&◌, Option, Some, None, refl, sym, ap, ◌∙◌, subst, arith, length-append}
use Rattle.std.proofs.Math.ListN.{get_or-append}
use Rattle.std.proofs.Math.Seq.{get_or-append_seam}
use Rattle.std.specs.Prelude.{slice_get, slice_index_or}
use Rattle.std.specs.List.{list_all}
use Rattle.std.proofs.lemmas.List.Folds.{list_all-append}
use Rattle.std.proofs.lemmas.Option.{slice_get_cases}
use Rattle.token_system.specs.Stores.{StoreMap}
use Rattle.instant_net.specs.declared.parts.NetCell.{NetCell}
use Rattle.instant_net.specs.declared.parts.NetGuard.{NetGuard}
use Rattle.instant_net.specs.declared.parts.NetLeaf.{NetLeaf}
use Rattle.instant_net.specs.NamedLeaves.{NamedGuard, allowed, allows_named, named_entails, runs_named, reaches_named}
use Rattle.instant_net.specs.Nets.{Flat, named_atoms, named_guard, named_leaf, named_occurrence, path_to, paths_from, IsLinkBelow}
use Rattle.instant_net.specs.Opened.{IsNet}
use Rattle.instant_net.specs.Readers.{above_of, guard_ask_of, is_else_of, last_of}

-- the paths that stand already stay
kept : (cells : List NetCell) (guards : List NetGuard) (paths : List (List NamedGuard)) (k : ℕ) → k < length paths → slice_index_or (paths_from cells paths guards) k [] ≡ slice_index_or paths k []
kept cells [] paths k h = refl
kept cells (g ∷ guards) paths k h =
    let longer = length-append paths ((path_to paths g.above ++ named_guard cells g ∷ []) ∷ []) in
    kept cells guards (paths ++ (path_to paths g.above ++ named_guard cells g ∷ []) ∷ []) k (omega arith)
    ∙ get_or-append paths ((path_to paths g.above ++ named_guard cells g ∷ []) ∷ []) [] k h

kept_to : (cells : List NetCell) (guards : List NetGuard) (paths : List (List NamedGuard)) (o : Option ℕ) → IsLinkBelow (length paths) o → path_to (paths_from cells paths guards) o ≡ path_to paths o
kept_to cells guards paths None h = refl
kept_to cells guards paths (Some k) h = kept cells guards paths k h

path_at : (cells : List NetCell) (guards : List NetGuard) (paths : List (List NamedGuard)) (j : ℕ) (g : NetGuard) → slice_get guards j ≡ Some g → ((i : ℕ) (x : NetGuard) → slice_get guards i ≡ Some x → IsLinkBelow (length paths + i) x.above)
    → slice_index_or (paths_from cells paths guards) (length paths + j) [] ≡ path_to (paths_from cells paths guards) g.above ++ named_guard cells g ∷ []
path_at cells [] paths j g e below = absurd (cc)
path_at cells (x ∷ guards) paths zero g e below =
    let same : x ≡ g = cc in
    let own : List NamedGuard = path_to paths x.above ++ named_guard cells x ∷ [] in
    let longer = length-append paths (own ∷ []) in
    let here : IsLinkBelow (length paths) x.above = subst (λ (n : ℕ). IsLinkBelow n x.above) (omega arith) (below 0 x refl) in
    subst (λ (y : NetGuard). slice_index_or (paths_from cells paths (x ∷ guards)) (length paths + 0) [] ≡ path_to (paths_from cells paths (x ∷ guards)) y.above ++ named_guard cells y ∷ []) same
    (
    ap (λ n. slice_index_or (paths_from cells paths (x ∷ guards)) n []) (omega arith)
    ∙ kept cells guards (paths ++ own ∷ []) (length paths) (omega arith)
    ∙ get_or-append_seam paths own [] []
    ∙ ap (λ p. p ++ named_guard cells x ∷ []) (sym (kept_to cells (x ∷ guards) paths x.above here))
    )
path_at cells (x ∷ guards) paths (suc j) g e below =
    let own : List NamedGuard = path_to paths x.above ++ named_guard cells x ∷ [] in
    let longer = length-append paths (own ∷ []) in
    ap (λ n. slice_index_or (paths_from cells paths (x ∷ guards)) n []) (omega arith)
    ∙ path_at cells guards (paths ++ own ∷ []) j g e (λ i y f. subst (λ (n : ℕ). IsLinkBelow n y.above) (omega arith) (below (suc i) y f))

-- u allows each guard on the path
abbrev pub is_free_of : Flat → StoreMap → Option ℕ → Bool
is_free_of net u o = list_all (allows_named u) (path_to (paths_from net.cells [] net.guards) o)

module _ (net : Flat) (is : IsNet net) (u : StoreMap) where
  abbrev paths : List (List NamedGuard)
  paths = paths_from net.cells [] net.guards

  abbrev is_free : Option ℕ → Bool
  is_free o = is_free_of net u o

  -- so far for this guard and those above it
  free_next : (k : ℕ) (g : NetGuard) → slice_get net.guards k ≡ Some g → is_free (Some k) ≡ (is_free g.above && allowed g.negative (named_entails u (named_atoms net.cells g.ask)))
  free_next k g e =
      ap (λ n. list_all (allows_named u) (slice_index_or paths n [])) (omega arith)
      ∙ ap (list_all (allows_named u)) (path_at net.cells net.guards [] k g e (λ i x f. subst (λ (n : ℕ). IsLinkBelow n x.above) (omega arith) (is.of.whole.guards i x f).1))
      ∙ list_all-append (allows_named u) (path_to paths g.above) (named_guard net.cells g ∷ [])
      ∙ ap (λ b. is_free g.above && b) (alone (allowed g.negative (named_entails u (named_atoms net.cells g.ask))))
    where
      alone : (b : Bool) → (b && true) ≡ b
      alone true = refl
      alone false = refl

  module _ (k : ℕ) (inside : k < length net.guards) (b : Bool) (h : b ≡ allowed (is_else_of (slice_get net.guards k)) (named_entails u (named_atoms net.cells (guard_ask_of (slice_get net.guards k))))) where
    step : is_free (Some k) ≡ (is_free (above_of (slice_get net.guards k)) && b)
    step = go (slice_get_cases net.guards k).1
      where
        by_guard : (o : Option NetGuard) (g : NetGuard) → slice_get net.guards k ≡ o → o ≡ Some g → b ≡ allowed (is_else_of o) (named_entails u (named_atoms net.cells (guard_ask_of o))) → is_free (Some k) ≡ (is_free (above_of o) && b)
        by_guard None g e f h = absurd (cc)
        by_guard (Some x) g e f h = free_next k x e ∙ ap (λ y. is_free x.above && y) (sym h)

        go : ((g : NetGuard) × (k < length net.guards) × (slice_get net.guards k ≡ Some g) × (get_or net.guards k g ≡ g)) ⊎ ((length net.guards ≤ k) × (slice_get net.guards k ≡ None)) → is_free (Some k) ≡ (is_free (above_of (slice_get net.guards k)) && b)
        go (inl f) = by_guard (slice_get net.guards k) f.0 refl f.2 h
        go (inr f) = let past = f.0 in absurd (omega arith)

    pub free_stops : b ≡ false → is_free (Some k) ≡ false
    free_stops e = step ∙ ap (λ y. is_free (above_of (slice_get net.guards k)) && y) e ∙ go (is_free (above_of (slice_get net.guards k)))
      where
        go : (a : Bool) → (a && false) ≡ false
        go true = refl
        go false = refl

    pub free_above : b ≡ true → is_free (Some k) ≡ is_free (above_of (slice_get net.guards k))
    free_above e = step ∙ ap (λ y. is_free (above_of (slice_get net.guards k)) && y) e ∙ go (is_free (above_of (slice_get net.guards k)))
      where
        go : (a : Bool) → (a && true) ≡ a
        go true = refl
        go false = refl

-- the number of a guard falls on the way up
abbrev pub place : Option ℕ → ℕ
place None = 0
place (Some k) = suc k

-- a leaf runs where its whole path is free
pub runs_free : (net : Flat) (u : StoreMap) (k : ℕ) (l : NetLeaf) → slice_get net.leaves k ≡ Some l → is_free_of net u (last_of (slice_get net.leaves k)) ≡ runs_named u (named_leaf net l)
runs_free net u k l e = ap (λ o. is_free_of net u (last_of o)) e

-- a guard is reached where the path above it is free
pub reaches_free : (net : Flat) (u : StoreMap) (k : ℕ) (g : NetGuard) → slice_get net.guards k ≡ Some g → is_free_of net u (above_of (slice_get net.guards k)) ≡ reaches_named u (named_occurrence net g)
reaches_free net u k g e = ap (λ o. is_free_of net u (above_of o)) e

pub place_falls : (k : ℕ) (o p : Option ℕ) → p ≡ Some k → IsLinkBelow k o → place o < place p
place_falls k o p e below = subst (λ (x : Option ℕ). place o < place x) (sym e) (go o below)
  where
    go : (o : Option ℕ) → IsLinkBelow k o → place o < suc k
    go None h = omega arith
    go (Some j) h = omega arith

pub still_below : (n k : ℕ) (o : Option ℕ) → k < n → IsLinkBelow k o → IsLinkBelow n o
still_below n k None h below = tt
still_below n k (Some j) h below = omega arith
