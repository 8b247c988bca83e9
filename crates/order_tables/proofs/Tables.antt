-- There is a table exactly where no negative bound closes a circle.
use Rattle.std.proofs.Common.{◌≡◌, ◌⊎◌, inl, inr, ℕ, zero, suc, ◌+◌, ◌-◌, ◌<◌, ◌≤◌, Bool, true, false, List, length, map, refl, sym, ap, subst, arith}
use Rattle.std.specs.Prelude.{IsTrue, All, Contains, slice_index, if◌then◌else◌}
use Rattle.std.specs.List.{range_with_len}
use Rattle.std.proofs.lemmas.List.FromFn.{get_or-map-range_with_len}
use Rattle.order_tables.specs.declared.bound.Bound.{Bound}
use Rattle.order_tables.specs.Bounds.{Satisfies, Within, HasTable, IsLeast, Path, HasPath}
use Rattle.order_tables.proofs.Lists.{all_at, all_by}
use Rattle.order_tables.proofs.Spread.{true_false, reaches, reaches-to, reaches-on, path-reaches}

-- the bound is negative, and its high end reaches its low one
abbrev pub IsBad : List Bound → Bound → Type 0
IsBad bounds e = (e.negative ≡ true) × HasPath bounds e.high e.low

-- CHAINS

-- numbers do not fall along a path
pub path-le : (bounds : List Bound) (table : List ℕ) → All (Satisfies table) bounds → (n a b : ℕ) → Path bounds a b n → slice_index table a ≤ slice_index table b
path-le bounds table meets zero a b path = let e = ap (slice_index table) path in omega arith
path-le bounds table meets (suc n) a b (e, path, i, is) =
    let before = path-le bounds table meets n a e.low path in
    let at : slice_index table e.high ≡ slice_index table b = ap (slice_index table) is in
    let step = weak (slice_index table e.low) (slice_index table e.high) e.negative (all_at (Satisfies table) bounds e meets i) in
    omega arith
  where
    weak : (x y : ℕ) (s : Bool) → x + (if s then 1 else 0) ≤ y → x ≤ y
    weak x y true h = omega arith
    weak x y false h = omega arith

-- a bad bound leaves no table
pub bad-none : (bounds : List Bound) (e : Bound) → Contains bounds e → IsBad bounds e → HasTable bounds → ⊥
bad-none bounds e i bad (table, meets) =
    let up = path-le bounds table meets bad.1.0 e.high e.low bad.1.1 in
    let step : slice_index table e.low + 1 ≤ slice_index table e.high =
    subst (λ (s : Bool). slice_index table e.low + (if s then 1 else 0) ≤ slice_index table e.high) bad.0 (all_at (Satisfies table) bounds e meets i) in
    omega arith

-- COUNTING

-- how many numbers below n pass
abbrev count : (ℕ → Bool) → ℕ → ℕ
count f zero = 0
count f (suc n) = count f n + (if f n then 1 else 0)

one_more : (x y : ℕ) (a b : Bool) → x ≤ y → (IsTrue a → IsTrue b) → x + (if a then 1 else 0) ≤ y + (if b then 1 else 0)
one_more x y true true h up = omega arith
one_more x y true false h up = absurd (true_false (sym (up refl)))
one_more x y false true h up = omega arith
one_more x y false false h up = omega arith

count-le : (f g : ℕ → Bool) → ((y : ℕ) → IsTrue (f y) → IsTrue (g y)) → (n : ℕ) → count f n ≤ count g n
count-le f g up zero = omega arith
count-le f g up (suc n) = one_more (count f n) (count g n) (f n) (g n) (count-le f g up n) (up n)

count-lt : (f g : ℕ → Bool) → ((y : ℕ) → IsTrue (f y) → IsTrue (g y)) → (y : ℕ) → f y ≡ false → g y ≡ true → (n : ℕ) → y < n → count f n < count g n
count-lt f g up y fy gy zero lt = absurd (omega arith)
count-lt f g up y fy gy (suc n) lt = go (last (omega arith)) (λ h. count-lt f g up y fy gy n h)
  where
    last : y ≤ n → (y < n) ⊎ (y ≡ n)
    last h = grind arith

    all : count f n ≤ count g n
    all = count-le f g up n

    go : (y < n) ⊎ (y ≡ n) → (y < n → count f n < count g n) → count f n + (if f n then 1 else 0) < count g n + (if g n then 1 else 0)
    go (inl h) ih = let less = one_more (suc (count f n)) (count g n) (f n) (g n) (let i = ih h in omega arith) (up n) in omega arith
    go (inr e) ih =
        let a : f n ≡ false = subst (λ (m : ℕ). f m ≡ false) e fy in
        let b : g n ≡ true = subst (λ (m : ℕ). g m ≡ true) e gy in
        let k = all in
        subst (λ (s : Bool). count f n + (if s then 1 else 0) < count g n + (if g n then 1 else 0)) (sym a)
        (subst (λ (s : Bool). count f n + 0 < count g n + (if s then 1 else 0)) (sym b) (omega arith))

count-most : (f : ℕ → Bool) (n : ℕ) → count f n ≤ n
count-most f zero = omega arith
count-most f (suc n) = let h = count-most f n in grind arith

-- THE TABLE

-- each item is numbered by how many others reach it
module _ (bounds : List Bound) (size : ℕ) (within : All (Within size) bounds) (good : All (λ e. IsBad bounds e → ⊥) bounds) where
  abbrev rank : ℕ → ℕ
  rank x = count (λ y. reaches bounds y x) size - 1

  abbrev pub ranks : List ℕ
  ranks = map rank (range_with_len 0 size)

  itself : (x : ℕ) → IsTrue (reaches bounds x x)
  itself x = path-reaches bounds 0 x x refl

  rank-some : (x : ℕ) → x < size → 0 < count (λ y. reaches bounds y x) size
  rank-some x lt =
      let h = count-lt (λ y. false) (λ y. reaches bounds y x) (λ y h. absurd (true_false (sym h))) x refl (itself x) size lt in
      omega arith

  not_back : (e : Bound) → Contains bounds e → e.negative ≡ true → (b : Bool) → reaches bounds e.high e.low ≡ b → b ≡ false
  not_back e i s true eb = absurd (all_at (λ e. IsBad bounds e → ⊥) bounds e good i (s, reaches-to bounds e.high e.low eb))
  not_back e i s false eb = refl

  rank-meets : (e : Bound) → Contains bounds e → (s : Bool) → e.negative ≡ s → rank e.low + (if s then 1 else 0) ≤ rank e.high
  rank-meets e i false es =
      let h = count-le (λ y. reaches bounds y e.low) (λ y. reaches bounds y e.high) (λ y. reaches-on bounds y e i) size in
      omega arith
  rank-meets e i true es =
      let w = all_at (Within size) bounds e within i in
      let some = rank-some e.low w.0 in
      let h = count-lt (λ y. reaches bounds y e.low) (λ y. reaches bounds y e.high) (λ y. reaches-on bounds y e i) e.high (not_back e i es (reaches bounds e.high e.low) refl) (itself e.high) size w.1 in
      omega arith

  at_rank : (x : ℕ) → x < size → slice_index ranks x ≡ rank x
  at_rank x lt = get_or-map-range_with_len rank 0 size x x 0 lt (omega arith)

  pub ranks-below : (x : ℕ) → x < size → slice_index ranks x < size
  ranks-below x lt =
      let h = rank-some x lt in
      let k = count-most (λ y. reaches bounds y x) size in
      let e = at_rank x lt in
      omega arith

  pub ranks-meet : All (Satisfies ranks) bounds
  ranks-meet = all_by (Satisfies ranks) bounds (λ e i.
      let w = all_at (Within size) bounds e within i in
      subst (λ (k : ℕ). k + (if e.negative then 1 else 0) ≤ slice_index ranks e.high) (sym (at_rank e.low w.0))
      (subst (λ (k : ℕ). rank e.low + (if e.negative then 1 else 0) ≤ k) (sym (at_rank e.high w.1)) (rank-meets e i e.negative refl)))

-- where there is a table, no bound is bad
pub good_bounds : (bounds : List Bound) → HasTable bounds → All (λ e. IsBad bounds e → ⊥) bounds
good_bounds bounds some = all_by (λ e. IsBad bounds e → ⊥) bounds (λ e i bad. bad-none bounds e i bad some)

-- so the least table stays below the number of the items
pub least-below : (bounds : List Bound) (t : List ℕ) → All (Within (length t)) bounds → HasTable bounds → IsLeast bounds t → (k : ℕ) → k < length t → slice_index t k < length t
least-below bounds t within some least k lt =
    let good = good_bounds bounds some in
    let le = least (ranks bounds (length t) within good) (ranks-meet bounds (length t) within good) k lt in
    let l = ranks-below bounds (length t) within good k lt in
    omega arith
