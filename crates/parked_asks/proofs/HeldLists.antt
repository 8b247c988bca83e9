-- How many asks are not noted to hold, and that there is room for each of them among the due ones.
use Rattle.std.proofs.Common.{◌≡◌, ℕ, zero, suc, ◌+◌, ◌<◌, ◌≤◌, Bool, true, false, List, [], ◌∷◌, ◌++◌, length, set, ap, arith, length-append, length-set}
use Rattle.parked_asks.specs.Held.{is_noted, unheld}

pub unheld-length : (held : List Bool) → unheld held ≤ length held
unheld-length [] = omega arith
unheld-length (true ∷ held) = let ih = unheld-length held in omega arith
unheld-length (false ∷ held) = let ih = unheld-length held in omega arith

-- one fewer, where this one was not noted
pub unheld-woken : (held : List Bool) (g : ℕ) → g < length held → is_noted held g ≡ false → unheld (set held g true) + 1 ≡ unheld held
unheld-woken [] g lt e = absurd (omega arith)
unheld-woken (true ∷ held) zero lt e = absurd (cc)
unheld-woken (false ∷ held) zero lt e = omega arith
unheld-woken (b ∷ held) (suc g) lt e = let ih = unheld-woken held g (omega arith) e in omega arith

-- the due ones and those that are not noted are no more than all, which have room
abbrev pub HasRoom : List Bool → List ℕ → ℕ → Type 0
HasRoom held due capacity = (length due + unheld held ≤ length held) × (length held ≤ capacity)

pub room-none : (held : List Bool) (due : List ℕ) (guards capacity : ℕ) → length held ≡ guards → due ≡ [] → capacity ≡ guards → HasRoom held due capacity
room-none held due guards capacity long none e =
    let few = unheld-length held in
    let nothing : length due ≡ 0 = ap (λ (xs : List ℕ). length xs) none in
    (omega arith, omega arith)

pub room-noted : (held : List Bool) (due : List ℕ) (g : ℕ) (b : Bool) (capacity : ℕ) → due ≡ [] → length held ≤ capacity → HasRoom (set held g b) due capacity
room-noted held due g b capacity none le =
    let few = unheld-length (set held g b) in
    let long = length-set held g b in
    let nothing : length due ≡ 0 = ap (λ (xs : List ℕ). length xs) none in
    (omega arith, omega arith)

module _ (held : List Bool) (due : List ℕ) (g capacity : ℕ) (there : g < length held) (parked : is_noted held g ≡ false) (room : HasRoom held due capacity) where
  pub has-room : capacity ≤ length due → ⊥
  has-room full =
      let fewer = unheld-woken held g there parked in
      let a = room.0 in
      let b = room.1 in
      omega arith

  pub room-woken : (due' : List ℕ) (capacity' : ℕ) → due' ≡ due ++ g ∷ [] → capacity ≤ capacity' → HasRoom (set held g true) due' capacity'
  room-woken due' capacity' more le =
      let fewer = unheld-woken held g there parked in
      let long = length-set held g true in
      let longer : length due' ≡ length (due ++ g ∷ []) = ap (λ (xs : List ℕ). length xs) more in
      let counted = length-append due (g ∷ []) in
      let a = room.0 in
      let b = room.1 in
      (omega arith, omega arith)
