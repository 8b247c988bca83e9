-- What lets a leaf run that did not run before: an ask above it that holds now.
use Rattle.std.proofs.Common.{◌≡◌, ◌⊎◌, inl, inr, ℕ, zero, suc, ◌+◌, ◌<◌, ◌≤◌, Bool, true, false, not, List, [], ◌∷◌, length, get_or, Option, Some, None, refl, sym, ap, ◌∙◌, subst, arith}
use Rattle.std.specs.Prelude.{IsTrue, slice_get}
use Rattle.std.proofs.lemmas.Option.{slice_get_cases}
use Rattle.token_system.specs.Stores.{StoreMap}
use Rattle.token_system.proofs.Alike.{true_false}
use Rattle.instant_net.specs.declared.parts.NetGuard.{NetGuard}
use Rattle.instant_net.specs.NamedLeaves.{allowed, named_entails}
use Rattle.instant_net.specs.Nets.{Flat, named_atoms, IsAtOrAbove, here, above, IsLinkBelow}
use Rattle.instant_net.specs.Opened.{IsNet}
use Rattle.instant_net.specs.Readers.{guard_ask_of, is_else_of, above_of}
use Rattle.instant_net.proofs.PathWalks.{is_free_of, free_stops, free_above}

-- the store entails the ask of this guard
abbrev pub entails_ask : Flat → StoreMap → ℕ → Bool
entails_ask net u g = named_entails u (named_atoms net.cells (guard_ask_of (slice_get net.guards g)))

-- some ask at or above the place holds under w and not under u
pub record Opened (net : Flat) (u w : StoreMap) (o : Option ℕ) : Type 0 where
  pub guard : ℕ
  pub on : IsAtOrAbove net.guards guard o
  pub there : guard < length net.guards
  pub now : IsTrue (entails_ask net w guard)
  pub before : entails_ask net u guard ≡ false

-- a guard that is allowed was so before, or its ask holds only now
allowed-change : (negative eu ew : Bool) → (IsTrue eu → IsTrue ew) → allowed negative ew ≡ true → (allowed negative eu ≡ true) ⊎ (IsTrue ew × (eu ≡ false))
allowed-change true true ew up h = absurd (true_false (sym (sym (ap not (up refl)) ∙ h)))
allowed-change true false ew up h = inl refl
allowed-change false true ew up h = inl refl
allowed-change false false ew up h = inr (h, refl)

link-more : (o : Option ℕ) (k m : ℕ) → k ≤ m → IsLinkBelow k o → IsLinkBelow m o
link-more None k m le h = tt
link-more (Some j) k m le h = omega arith

module _ (net : Flat) (is : IsNet net) (u w : StoreMap) (up : (g : ℕ) → g < length net.guards → IsTrue (entails_ask net u g) → IsTrue (entails_ask net w g)) where
  module _ (k : ℕ) (lt : k < length net.guards) where
    abbrev allow : StoreMap → Bool
    allow s = allowed (is_else_of (slice_get net.guards k)) (entails_ask net s k)

    was-allowed : is_free_of net w (Some k) ≡ true → allow w ≡ true
    was-allowed h = go (allow w) refl
      where
        go : (b : Bool) → allow w ≡ b → allow w ≡ true
        go true e = e
        go false e = absurd (true_false (sym h ∙ free_stops net is w k lt (allow w) refl e))

    free-over : is_free_of net w (Some k) ≡ true → is_free_of net w (above_of (slice_get net.guards k)) ≡ true
    free-over h = sym (free_above net is w k lt (allow w) refl (was-allowed h)) ∙ h

    step : is_free_of net w (Some k) ≡ true → (is_free_of net u (above_of (slice_get net.guards k)) ≡ true) → (is_free_of net u (Some k) ≡ true) ⊎ Opened net u w (Some k)
    step h free = go (allowed-change (is_else_of (slice_get net.guards k)) (entails_ask net u k) (entails_ask net w k) (up k lt) (was-allowed h))
      where
        go : (allow u ≡ true) ⊎ (IsTrue (entails_ask net w k) × (entails_ask net u k ≡ false)) → (is_free_of net u (Some k) ≡ true) ⊎ Opened net u w (Some k)
        go (inl e) = inl (free_above net is u k lt (allow u) refl e ∙ free)
        go (inr e) = inr (record { guard = k; on = here; there = lt; now = e.0; before = e.1 })

  pub free-change : (m : ℕ) (o : Option ℕ) → IsLinkBelow m o → m ≤ length net.guards → is_free_of net w o ≡ true → (is_free_of net u o ≡ true) ⊎ Opened net u w o
  free-change m None lt le h = inl refl
  free-change zero (Some k) lt le h = absurd (omega arith)
  free-change (suc m) (Some k) lt le h =
      go (slice_get_cases net.guards k).1
      (λ x at within. free-change m x.above (link-more x.above k m (omega arith) (is.of.whole.guards k x at).1) (omega arith) (sym (ap (λ o. is_free_of net w (above_of o)) at) ∙ free-over k within h))
    where
      found : (x : NetGuard) → k < length net.guards → slice_get net.guards k ≡ Some x → (is_free_of net u x.above ≡ true) ⊎ Opened net u w x.above → (is_free_of net u (Some k) ≡ true) ⊎ Opened net u w (Some k)
      found x within at (inl free) = step k within h (ap (λ o. is_free_of net u (above_of o)) at ∙ free)
      found x within at (inr o) = inr (record { guard = o.guard; on = above k x at o.on; there = o.there; now = o.now; before = o.before })

      go : ((x : NetGuard) × (k < length net.guards) × (slice_get net.guards k ≡ Some x) × (get_or net.guards k x ≡ x)) ⊎ ((length net.guards ≤ k) × (slice_get net.guards k ≡ None))
          → ((x : NetGuard) → slice_get net.guards k ≡ Some x → k < length net.guards → (is_free_of net u x.above ≡ true) ⊎ Opened net u w x.above) → (is_free_of net u (Some k) ≡ true) ⊎ Opened net u w (Some k)
      go (inr (past, none)) over = absurd (omega arith)
      go (inl (x, within, at, read)) over = found x within at (over x at within)
