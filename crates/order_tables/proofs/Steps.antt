-- What raising one number does to a table.
use Rattle.std.proofs.Common.{◌≡◌, ◌⊎◌, inl, inr, ◌≢◌, ℕ, suc, ◌+◌, ◌*◌, ◌-◌, ◌<◌, ◌≤◌, List, [], ◌∷◌, length, set, nat_eq, Bool, true, false, refl, sym, ap, subst, arith}
use Rattle.std.specs.Prelude.{All, Contains, slice_index, slice_index_or, sum}
use Rattle.std.proofs.lemmas.List.{get_or-set_same, get_or-set_other, length-set}
use Rattle.std.proofs.lemmas.List.Sums.{sum_by-set, sum_by-cons}
use Rattle.std.proofs.lemmas.Bool.Decides.{eqb_tells}
use Rattle.order_tables.specs.declared.bound.Bound.{Bound}
use Rattle.order_tables.specs.Bounds.{needs, Satisfies, Within, HasTable, IsLeast, IsRaised}
use Rattle.order_tables.proofs.Lists.{any_default, all_at, stands}
use Rattle.order_tables.proofs.Tables.{ranks, ranks-meet, ranks-below, good_bounds}

-- a bound to read past the end of a list by
abbrev pub nil : Bound
nil = record { low = 0; high = 0; negative = false }

-- what holds of the number put, and of the others, holds of each
set_each : (P : ℕ → ℕ → Type 0) (t : List ℕ) (h v : ℕ) → h < length t → P h v → ((k : ℕ) → k < length t → P k (slice_index t k)) → (k : ℕ) → k < length (set t h v) → P k (slice_index (set t h v) k)
set_each P t h v in_range here other k lt =
    let within : k < length t = omega (arith, length-set t h v) in
    go within (eqb_tells k h)
  where
    go : k < length t → ((nat_eq k h ≡ true) × (k ≡ h)) ⊎ ((nat_eq k h ≡ false) × (k ≢ h)) → P k (slice_index (set t h v) k)
    go within (inl e) = subst (λ (j : ℕ). P j (slice_index (set t h v) j)) (sym e.1) (subst (P h) (sym (get_or-set_same t h v 0 in_range)) here)
    go within (inr e) = subst (P k) (sym (get_or-set_other t h k v 0 e.1)) (other k within)

-- what the least table needs is less than the number of items
pub needs-below : (bounds : List Bound) (t : List ℕ) (a : Bound) → Contains bounds a → All (Within (length t)) bounds → HasTable bounds → IsLeast bounds t → needs t a < length t
needs-below bounds t a i within some least =
    let good = good_bounds bounds some in
    let w = all_at (Within (length t)) bounds a within i in
    let le = least (ranks bounds (length t) within good) (ranks-meet bounds (length t) within good) a.low w.0 in
    let m : Satisfies (ranks bounds (length t) within good) a = all_at (Satisfies (ranks bounds (length t) within good)) bounds a (ranks-meet bounds (length t) within good) i in
    let l = ranks-below bounds (length t) within good a.high w.1 in
    omega arith

pub set-least : (bounds : List Bound) (t : List ℕ) (a : Bound) → Contains bounds a → Within (length t) a → IsLeast bounds t → IsLeast bounds (set t a.high (needs t a))
set-least bounds t a i w least other meets =
    let m : Satisfies other a = all_at (Satisfies other) bounds a meets i in
    let low = least other meets a.low w.0 in
    set_each (λ k x. x ≤ slice_index other k) t a.high (needs t a) w.1 (omega arith) (least other meets)

pub set-sum : (t : List ℕ) (h v : ℕ) → h < length t → slice_index t h < v → sum t < sum (set t h v)
set-sum t h v in_range lt = let e = sum_by-set (λ (x : ℕ). x) t h v 0 in_range in omega arith

one_row : (n m : ℕ) → n * suc m ≡ n + n * m
one_row n m = omega arith

sum-most : (n : ℕ) (t : List ℕ) → ((k : ℕ) → k < length t → slice_index t k < n) → sum t ≤ n * length t
sum-most n [] h = omega arith
sum-most n (x ∷ t) h =
    let rest = sum-most n t (λ k lt. h (suc k) (omega arith)) in
    let first : x < n = h 0 (omega arith) in
    let both : sum (x ∷ t) ≡ x + sum t = sum_by-cons (λ (x : ℕ). x) x t in
    let row : n * length (x ∷ t) ≡ n + n * length t = one_row n (length t) in
    omega arith

-- what stands after some bounds, where the table was `start`
abbrev pub Kept : List Bound → List ℕ → List ℕ → ℕ → Bool → Type 0
Kept bounds start t i changed =
    record {
      least : IsLeast bounds t;
      kept : changed ≡ false → t ≡ start;
      met : changed ≡ false → (k : ℕ) (d : Bound) → k < i → Satisfies t (slice_index_or bounds k d);
      more : changed ≡ true → sum start < sum t;
    }

one_further : (bounds : List Bound) (t : List ℕ) (i : ℕ) (d : Bound) → i < length bounds → ((k : ℕ) (d : Bound) → k < i → Satisfies t (slice_index_or bounds k d)) → Satisfies t (slice_index_or bounds i d) → (k : ℕ) (d : Bound) → k < i + 1 → Satisfies t (slice_index_or bounds k d)
one_further bounds t i d lt before here k e at = go (lt_or_same k i (omega arith))
  where
    lt_or_same : (k i : ℕ) → k ≤ i → (k < i) ⊎ (k ≡ i)
    lt_or_same k i le = grind arith

    go : (k < i) ⊎ (k ≡ i) → Satisfies t (slice_index_or bounds k e)
    go (inl below) = before k e below
    go (inr same) = subst (λ (j : ℕ). Satisfies t (slice_index_or bounds j e)) (sym same) (subst (Satisfies t) (any_default bounds i d e lt) here)

-- one bound more
module _ (bounds : List Bound) (start t : List ℕ) (i : ℕ) (d : Bound) (changed : Bool) (lt : i < length bounds) (h : Kept bounds start t i changed) where
  pub kept-same : (new : List ℕ) → IsRaised (slice_index_or bounds i d) t new false → Kept bounds start new (i + 1) changed
  kept-same new r = subst (λ (x : List ℕ). Kept bounds start x (i + 1) changed) (sym r.0) (record {
    least = h.least;
    kept = h.kept;
    met = λ same. one_further bounds t i d lt (h.met same) r.1;
    more = h.more;
  })

  abbrev a : Bound
  a = slice_index_or bounds i d

  more_yet : (b : Bool) → changed ≡ b → sum t < sum (set t a.high (needs t a)) → sum start < sum (set t a.high (needs t a))
  more_yet true e grows = let m = h.more e in omega arith
  more_yet false e grows = let m : sum t ≡ sum start = ap sum (h.kept e) in omega arith

  pub kept-more : (new : List ℕ) → All (Within (length t)) bounds → IsRaised a t new true → Kept bounds start new (i + 1) true
  kept-more new within r =
      let w : Within (length t) a = within i d lt in
      let grows = set-sum t a.high (needs t a) w.1 r.1 in
      subst (λ (x : List ℕ). Kept bounds start x (i + 1) true) (sym r.0) (record {
        least = set-least bounds t a (stands bounds i d lt) w h.least;
        kept = λ e. absurd (cc);
        met = λ e. absurd (cc);
        more = λ e. more_yet changed refl grows;
      })

pub smaller : (n : ℕ) (old new : List ℕ) → length new ≡ n → ((k : ℕ) → k < length new → slice_index new k < length new) → sum old < sum new → n * n - sum new < n * n - sum old
smaller n old new long below less =
    let most : sum new ≤ n * n = subst (λ (m : ℕ). sum new ≤ m * m) long (sum-most (length new) new below) in
    omega arith
