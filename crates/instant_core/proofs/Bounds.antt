-- No pair is announced twice, so 64 times as many leaves are announced at most as there are; and at most 64 are in flight.
use Rattle.std.proofs.Common.{◌≡◌, ◌≢◌, ℕ, zero, suc, ◌+◌, ◌*◌, ◌/◌, ◌%◌, ◌<◌, ◌≤◌, ◌&&◌, Bool, true, false, List, [], ◌∷◌, length, refl, sym, ap, ◌∙◌, inl, inr, arith, cond, eqb, eq-eqb, ne_eqb}
use mathlib.Core.Option.{some}
use mathlib.Core.Logic.{dite}
use native.Mathlib.Decide.{ℕ_discrete}
use lib.ListN.{get_elem?}
use Rattle.instant_net.specs.Nets.{Flat}
use Rattle.instant_core.specs.Layout.{count_of, flying_of}
use Rattle.instant_core.specs.Lists.{total, StandsIn, same_pair, pair_times}
use Rattle.instant_core.specs.Views.{Knows}
use Rattle.instant_core.specs.Invariant.{said, how_many, in_hand, holding, Kept}
use Rattle.instant_core.specs.declared.hand.Hand.{Hand}
use Rattle.instant_core.specs.declared.hand.Hand.TheVariants.{Empty, Announced, Claimed}
use Rattle.instant_core.proofs.Sums.{no_term}

-- f 0 + .. + f (n - 1)
pub below : (ℕ → ℕ) → ℕ → ℕ
below f zero = 0
below f (suc n) = below f n + f n

pub below-le : (f : ℕ → ℕ) (n : ℕ) → ((k : ℕ) → f k ≤ 1) → below f n ≤ n
unfolding below
below-le f zero h = omega arith
below-le f (suc n) h = omega (arith, below-le f n h, h n)

below-add : (f g : ℕ → ℕ) (n : ℕ) → below (λ k. f k + g k) n ≡ below f n + below g n
unfolding below
below-add f g zero = refl
below-add f g (suc n) = omega (arith, below-add f g n)

below-none : (f : ℕ → ℕ) (n : ℕ) → ((k : ℕ) → k < n → f k ≡ 0) → below f n ≡ 0
unfolding below
below-none f zero h = refl
below-none f (suc n) h = omega (arith, below-none f n (λ k l. h k (omega arith)), h n (omega arith))

-- one place of the row is 1
below-one : (f : ℕ → ℕ) (n j : ℕ) → j < n → f j ≡ 1 → ((k : ℕ) → k ≢ j → f k ≡ 0) → below f n ≡ 1
unfolding below
below-one f zero j l a b = absurd (omega arith)
below-one f (suc n) j l a b = dite (ℕ_discrete j n)
    (λ e. omega (arith, below-none f n (λ k q. b k (omega arith)), ap f e))
    (λ ne. omega (arith, below-one f n j (omega arith) a b, b n (λ q. ne (sym q))))

-- the pair of a number
abbrev pair_of : ℕ → ℕ × ℕ
pair_of k = (k / 65536, k % 65536)

pub same_pair-hit : (p q : ℕ × ℕ) → q.0 ≡ p.0 → q.1 ≡ p.1 → same_pair p q ≡ 1
same_pair-hit p q a b = ap (λ x. cond (x && eqb q.1 p.1) 1 0) (eq-eqb q.0 p.0 a) ∙ ap (λ x. cond x 1 0) (eq-eqb q.1 p.1 b)

pub same_pair-miss : (p q : ℕ × ℕ) → (q.0 ≡ p.0 → q.1 ≢ p.1) → same_pair p q ≡ 0
same_pair-miss p q n = dite (ℕ_discrete q.0 p.0)
    (λ e. ap (λ x. cond (x && eqb q.1 p.1) 1 0) (eq-eqb q.0 p.0 e) ∙ ap (λ x. cond x 1 0) (ne_eqb q.1 p.1 (n e)))
    (λ ne. ap (λ x. cond (x && eqb q.1 p.1) 1 0) (ne_eqb q.0 p.0 ne))

hits : (q : ℕ × ℕ) → q.1 < 65536 → q.0 < 64 → below (λ k. same_pair (pair_of k) q) 4194304 ≡ 1
hits q inside few = below-one (λ k. same_pair (pair_of k) q) 4194304 (q.0 * 65536 + q.1) (omega arith)
    (same_pair-hit (pair_of (q.0 * 65536 + q.1)) q (omega arith) (omega arith))
    (λ k ne. same_pair-miss (pair_of k) q (λ a b. ne (omega arith)))

row : (ps : List (ℕ × ℕ)) → ((p : ℕ × ℕ) → StandsIn p ps → (p.0 < 64) × (p.1 < 65536)) → below (λ k. pair_times (pair_of k) ps) 4194304 ≡ length ps
row [] range = below-none (λ k. 0) 4194304 (λ k _. refl)
row (q ∷ qs) range = let t = range q (inl refl) in omega (arith, below-add (λ k. same_pair (pair_of k) q) (λ k. pair_times (pair_of k) qs) 4194304, hits q t.1 t.0, row qs (λ p i. range p (inr i)))

rows : (views : List Knows) → ((seat : ℕ) (v : Knows) → get_elem? views seat ≡ some v → (p : ℕ × ℕ) → StandsIn p v.announced → (p.0 < 64) × (p.1 < 65536)) → below (λ k. total (said (pair_of k)) views) 4194304 ≡ total how_many views
rows [] range = below-none (λ k. 0) 4194304 (λ k _. refl)
rows (v ∷ vs) range = omega (arith, below-add (λ k. said (pair_of k) v) (λ k. total (said (pair_of k)) vs) 4194304, row v.announced (range 0 v refl), rows vs (λ j u e. range (suc j) u e))

pub few_announced : (net : Flat) (input words : List ℕ) (views : List Knows) → length net.leaves ≤ 65536 → Kept net input words views → count_of net words ≤ 4194304
few_announced net input words views few h = omega (arith, h.count, rows views (λ j v e p i. let r = h.range j v e p i in (r.0, omega arith)), below-le (λ k. total (said (pair_of k)) views) 4194304 (λ k. h.said_once (pair_of k)))

-- IN FLIGHT

-- 1 where the view of this number has a leaf in hand
abbrev holds : ℕ → Knows → ℕ
holds n v = cond (eqb v.number n) (holding v) 0

at-most_one : (hand : Hand) → in_hand hand ≤ 1
at-most_one Empty = omega arith
at-most_one (Announced leaf) = omega arith
at-most_one (Claimed leaf from) = omega arith

holds-le : (n : ℕ) (v : Knows) → holds n v ≤ 1
holds-le n v = go (eqb v.number n)
  where
    go : (b : Bool) → cond b (holding v) 0 ≤ 1
    go true = at-most_one v.hand
    go false = omega arith

holds-none : (n : ℕ) (v : Knows) → holding v ≡ 0 → holds n v ≡ 0
holds-none n v e = go (eqb v.number n)
  where
    go : (b : Bool) → cond b (holding v) 0 ≡ 0
    go true = e
    go false = refl

holds-is : (n : ℕ) (v : Knows) → holds n v ≢ 0 → (v.number ≡ n) × (holding v ≢ 0)
holds-is n v ne = dite (ℕ_discrete v.number n)
    (λ e. (e, λ z. ne (holds-none n v z)))
    (λ d. absurd (ne (ap (λ b. cond b (holding v) 0) (ne_eqb v.number n d))))

holds-own : (v : Knows) → (holding v ≢ 0 → v.number < 64) → below (λ n. holds n v) 64 ≡ holding v
holds-own v few = dite (ℕ_discrete (holding v) 0)
    (λ e. below-none (λ n. holds n v) 64 (λ n _. holds-none n v e) ∙ sym e)
    (λ ne. let one : holding v ≡ 1 = omega (arith, at-most_one v.hand) in
    below-one (λ n. holds n v) 64 v.number (few ne) (ap (λ b. cond b (holding v) 0) (eq-eqb v.number v.number refl) ∙ one) (λ n d. ap (λ b. cond b (holding v) 0) (ne_eqb v.number n (λ e. d (sym e)))) ∙ sym one)

all-own : (views : List Knows) → ((seat : ℕ) (v : Knows) → get_elem? views seat ≡ some v → holding v ≢ 0 → v.number < 64) → below (λ n. total (holds n) views) 64 ≡ total holding views
all-own [] few = below-none (λ n. 0) 64 (λ n _. refl)
all-own (v ∷ vs) few = omega (arith, below-add (λ n. holds n v) (λ n. total (holds n) vs) 64, holds-own v (few 0 v refl), all-own vs (λ j u e. few (suc j) u e))

one-holds : (n : ℕ) (views : List Knows) → ((i j : ℕ) (v u : Knows) → get_elem? views i ≡ some v → get_elem? views j ≡ some u → holds n v ≢ 0 → holds n u ≢ 0 → i ≡ j) → total (holds n) views ≤ 1
one-holds n [] same = omega arith
one-holds n (v ∷ vs) same = dite (ℕ_discrete (holds n v) 0)
    (λ e. omega (arith, one-holds n vs (λ i j a b x y p q. let r = same (suc i) (suc j) a b x y p q in omega arith)))
    (λ ne. omega (arith, holds-le n v, no_term (holds n) vs (λ i u t. dite (ℕ_discrete (holds n u) 0) (λ z. z) (λ nz. absurd (let r = same 0 (suc i) v u refl t ne nz in omega arith)))))

-- no two live views have one number, so at most 64 have a leaf in hand
pub few_flying : (net : Flat) (input words : List ℕ) (views : List Knows) → Kept net input words views → flying_of net words ≤ 64
few_flying net input words views h =
    omega (arith, h.flying, all-own views (λ j v e ne. (h.fits j v e (live j v e ne)).numbered), below-le (λ n. total (holds n) views) 64 (λ n. one-holds n views (same n)))
  where
    live : (j : ℕ) (v : Knows) → get_elem? views j ≡ some v → holding v ≢ 0 → v.live ≡ true
    live j v e ne = go v.live refl
      where
        go : (b : Bool) → v.live ≡ b → v.live ≡ true
        go true is = is
        go false is = absurd (ne (ap in_hand (h.idle j v e is)))

    same : (n i j : ℕ) (v u : Knows) → get_elem? views i ≡ some v → get_elem? views j ≡ some u → holds n v ≢ 0 → holds n u ≢ 0 → i ≡ j
    same n i j v u ei ej a b =
        let x = holds-is n v a in
        let y = holds-is n u b in
        h.apart i j v u ei ej (live i v ei x.1) (live j u ej y.1) (x.0 ∙ sym y.0)
