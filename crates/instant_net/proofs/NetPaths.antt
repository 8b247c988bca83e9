-- The path of a leaf holds each guard at or above its last one.
use Rattle.std.proofs.Common.{◌≡◌, ℕ, zero, suc, ◌+◌, List, [], ◌∷◌, ◌++◌, length, Some, refl, sym, ap, ◌∙◌, subst, arith}
use Rattle.std.specs.Prelude.{Option, Contains, slice_get, slice_index_or}
use Rattle.std.proofs.lemmas.List.Elements.{Contains-push, Contains-append_left}
use Rattle.instant_net.specs.declared.parts.NetCell.{NetCell}
use Rattle.instant_net.specs.declared.parts.NetGuard.{NetGuard}
use Rattle.instant_net.specs.NamedLeaves.{NamedGuard}
use Rattle.instant_net.specs.Nets.{named_guard, path_to, paths_from, IsAtOrAbove, here, above, IsLinkBelow}
use Rattle.instant_net.proofs.Grown.{path-agree, agree-from, length-push, new_path}

module _ (cells : List NetCell) where
  -- the path to a guard, where the one above it comes before it
  path-step : (paths : List (List NamedGuard)) (guards : List NetGuard) (j m : ℕ) (g : NetGuard) → m ≡ length paths + j → slice_get guards j ≡ Some g → ((k i : ℕ) (h : NetGuard) → i ≡ length paths + k → slice_get guards k ≡ Some h → IsLinkBelow i h.above)
      → path_to (paths_from cells paths guards) (Some m) ≡ path_to (paths_from cells paths guards) g.above ++ named_guard cells g ∷ []
  path-step paths [] j m g e at before = absurd (cc)
  path-step paths (g' ∷ guards) zero m g e at before =
      let same : g' ≡ g = cc in
      let x : List NamedGuard = path_to paths g'.above ++ named_guard cells g' ∷ [] in
      let long = length-push paths x in
      let all : List (List NamedGuard) = paths_from cells (paths ++ x ∷ []) guards in
      let here_is : slice_index_or all m [] ≡ x =
      agree-from cells (paths ++ x ∷ []) guards m (omega arith) ∙ ap (λ (k : ℕ). slice_index_or (paths ++ x ∷ []) k []) (let f : m ≡ length paths = omega arith in f) ∙ new_path paths x in
      let way : path_to all g'.above ≡ path_to paths g'.above = path-agree (length paths) paths all g'.above (before 0 (length paths) g' (omega arith) refl) (agree-from cells paths (g' ∷ guards)) in
      here_is ∙ ap (λ (ys : List NamedGuard). ys ++ named_guard cells g' ∷ []) (sym way) ∙ ap (λ (h : NetGuard). path_to all h.above ++ named_guard cells h ∷ []) same
  path-step paths (g' ∷ guards) (suc j) m g e at before =
      let x : List NamedGuard = path_to paths g'.above ++ named_guard cells g' ∷ [] in
      let long = length-push paths x in
      path-step (paths ++ x ∷ []) guards j m g (omega arith) at (λ k i h f s. before (suc k) i h (omega arith) s)

  pub path-of : (guards : List NetGuard) → ((k : ℕ) (h : NetGuard) → slice_get guards k ≡ Some h → IsLinkBelow k h.above) → (m : ℕ) (g : NetGuard) → slice_get guards m ≡ Some g
      → path_to (paths_from cells [] guards) (Some m) ≡ path_to (paths_from cells [] guards) g.above ++ named_guard cells g ∷ []
  path-of guards before m g at = path-step [] guards m m g (omega arith) at (λ k i h e s. before i h (ap (slice_get guards) (let f : i ≡ k = omega arith in f) ∙ s))

  pub above-in_path : (guards : List NetGuard) → ((k : ℕ) (h : NetGuard) → slice_get guards k ≡ Some h → IsLinkBelow k h.above) → (k : ℕ) (g : NetGuard) → slice_get guards k ≡ Some g → (o : Option ℕ) → IsAtOrAbove guards k o
      → Contains (path_to (paths_from cells [] guards) o) (named_guard cells g)
  above-in_path guards before k g at _ here = subst (λ (ys : List NamedGuard). Contains ys (named_guard cells g)) (sym (path-of guards before k g at)) (Contains-push (path_to (paths_from cells [] guards) g.above) (named_guard cells g))
  above-in_path guards before k g at _ (above j h s up) =
      subst (λ (ys : List NamedGuard). Contains ys (named_guard cells g)) (sym (path-of guards before j h s))
      (Contains-append_left (path_to (paths_from cells [] guards) h.above) (named_guard cells h ∷ []) (named_guard cells g) (above-in_path guards before k g at h.above up))
