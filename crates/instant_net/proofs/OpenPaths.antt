-- A path is open where its lowest guard is passed, and the path to the guard above is open.
use Rattle.std.proofs.Common.{◌≡◌, ℕ, zero, suc, ◌<◌, ◌≤◌, List, [], ◌∷◌, length, Bool, true, false, ◌&&◌, Option, Some, None, refl, sym, ap, ◌∙◌, arith}
use Rattle.std.specs.Prelude.{slice_get}
use Rattle.std.specs.List.{list_all}
use Rattle.instant_net.specs.declared.parts.NetGuard.{NetGuard}
use Rattle.instant_net.specs.Nets.{Flat, IsLinkBelow}
use Rattle.instant_net.specs.Opened.{IsNet}
use Rattle.instant_net.specs.Readers.{above_of}
use Rattle.instant_net.specs.Seen.{SeenView}
use Rattle.instant_net.specs.Deciding.{guards_up, is_open, is_passed}

below_more : (j n : ℕ) (o : Option ℕ) → j ≤ n → IsLinkBelow j o → IsLinkBelow n o
below_more j n None h below = tt
below_more j n (Some k) h below = omega arith

module _ (guards : List NetGuard) (falls : (k : ℕ) → IsLinkBelow k (above_of (slice_get guards k))) where
  none_up : (n : ℕ) → guards_up guards n None ≡ []
  none_up zero = refl
  none_up (suc n) = refl

  -- all guards up are found, however many may be
  as_many_up : (n m : ℕ) (o : Option ℕ) → IsLinkBelow n o → IsLinkBelow m o → guards_up guards n o ≡ guards_up guards m o
  as_many_up n m None h l = none_up n ∙ sym (none_up m)
  as_many_up zero m (Some k) h l = absurd (omega arith)
  as_many_up (suc n) zero (Some k) h l = absurd (omega arith)
  as_many_up (suc n) (suc m) (Some k) h l =
      ap (λ ks. k ∷ ks) (as_many_up n m (above_of (slice_get guards k)) (below_more k n _ (omega arith) (falls k)) (below_more k m _ (omega arith) (falls k)))

  up_next : (n k : ℕ) → k < n → guards_up guards n (Some k) ≡ k ∷ guards_up guards n (above_of (slice_get guards k))
  up_next zero k h = absurd (omega arith)
  up_next (suc n) k h =
      ap (λ ks. k ∷ ks) (as_many_up n (suc n) (above_of (slice_get guards k)) (below_more k n _ (omega arith) (falls k)) (below_more k (suc n) _ (omega arith) (falls k)))

module _ (net : Flat) (is : IsNet net) (s : SeenView) where
  falls : (k : ℕ) → IsLinkBelow k (above_of (slice_get net.guards k))
  falls k = go (slice_get net.guards k) refl
    where
      go : (o : Option NetGuard) → slice_get net.guards k ≡ o → IsLinkBelow k (above_of o)
      go None e = tt
      go (Some g) e = (is.of.whole.guards k g e).1

  pub open_none : is_open net s None ≡ true
  open_none = ap (list_all (λ k. is_passed net s (slice_get net.guards k))) (none_up net.guards falls (length net.guards))

  module _ (k : ℕ) (inside : k < length net.guards) (b : Bool) (h : b ≡ is_passed net s (slice_get net.guards k)) where
    step : is_open net s (Some k) ≡ (b && is_open net s (above_of (slice_get net.guards k)))
    step =
        ap (list_all (λ k. is_passed net s (slice_get net.guards k))) (up_next net.guards falls (length net.guards) k inside)
        ∙ ap (λ a. a && is_open net s (above_of (slice_get net.guards k))) (sym h)

    pub open_stops : b ≡ false → is_open net s (Some k) ≡ false
    open_stops e = step ∙ ap (λ a. a && is_open net s (above_of (slice_get net.guards k))) e

    pub open_above : b ≡ true → is_open net s (Some k) ≡ is_open net s (above_of (slice_get net.guards k))
    open_above e = step ∙ ap (λ a. a && is_open net s (above_of (slice_get net.guards k))) e
