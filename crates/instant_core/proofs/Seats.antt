-- A split and a join of views.
use Rattle.std.proofs.Common.{◌≡◌, ◌≢◌, ◌⊎◌, ℕ, zero, suc, ◌+◌, ◌<◌, ◌≤◌, Bool, true, false, true≢false, List, [], ◌∷◌, ◌++◌, length, set, get_or, refl, sym, ap, ◌∙◌, subst, inl, inr, ⊎_elim, arith, cond, eqb, eq-eqb, length-append, le_refl}
use mathlib.Core.Option.{some, some-injective, some-ne-none}
use lib.ListN.{get_elem?}
use Rattle.instant_net.specs.Nets.{Flat}
use Rattle.instant_net.specs.Words.{lub, Lies}
use Rattle.instant_core.specs.Net.{how_of, width, IsWordsBelow, TellsWords}
use Rattle.instant_core.specs.Lists.{total, StandsIn, same_pair, of_leaf}
use Rattle.instant_core.specs.Views.{Knows}
use Rattle.instant_core.specs.Effects.{without, handing, newcomer, no_view, joined}
use Rattle.instant_core.specs.Invariant.{AreSettled, wins, said, how_many, in_hand, holding, ViewFits, Pending, Instant}
use Rattle.instant_core.specs.Licences.{IsFreeNumber}
use Rattle.instant_core.proofs.Order.{lub_comm, Lies_both, Lies_trans}
use Rattle.instant_core.proofs.Places.{at_set, set_there, set_else, at_longer}
use Rattle.instant_core.proofs.SeenWords.{seen_wide, joined_of, joined_below, joined_settled}
use Rattle.instant_core.specs.declared.hand.Hand.TheVariants.{Empty, Claimed}
use Rattle.instant_core.proofs.Sums.{in-left, in-right, total-append, total-set, in-append}
use Rattle.instant_core.proofs.Quiet.{marked}

-- what is left without n is of the list, and is not n
without-in : (n x : ℕ) (xs : List ℕ) → StandsIn x (without n xs) → StandsIn x xs × (x ≢ n)
without-in n x [] h = absurd h
without-in n x (y ∷ ys) h = go (eqb y n) refl h (without-in n x ys)
  where
    go : (b : Bool) → eqb y n ≡ b → StandsIn x (cond b (without n ys) (y ∷ without n ys)) → (StandsIn x (without n ys) → StandsIn x ys × (x ≢ n)) → StandsIn x (y ∷ ys) × (x ≢ n)
    go true e i deeper = let t = deeper i in (inr t.0, t.1)
    go false e i deeper = ⊎_elim (λ (q : y ≡ x). (inl q, λ same. let z = eq-eqb y n (q ∙ same) in absurd (true≢false (sym z ∙ e)))) (λ q. let t = deeper q in (inr t.0, t.1)) i

-- a worker with a free number begins, which knows what v knows
pub adds : (net : Flat) (input words : List ℕ) (vs : List Knows) (seat n : ℕ) (v : Knows) → IsFreeNumber vs n → v.live ≡ true → Instant net input words vs → get_elem? vs seat ≡ some v
    → Instant net input words (vs ++ newcomer n v ∷ [])
adds net input words vs seat n v free live h at =
    let w : Knows = newcomer n v in
    let f : ViewFits net input words v = h.kept.fits seat v at live in
    let k = h.kept in
    let snoc : (j : ℕ) (u : Knows) → get_elem? (vs ++ w ∷ []) j ≡ some u → (get_elem? vs j ≡ some u) ⊎ ((w ≡ u) × (j ≡ length vs)) = λ j u e. at_end vs w u j e in
    record {
      kept = record {
        wide = k.wide;
        phase = k.phase;
        above = k.above;
        fits = λ j u e alive. ⊎_elim (λ t. k.fits j u t alive) (λ (t : (w ≡ u) × (j ≡ length vs)). subst (ViewFits net input words) t.0 (record { numbered = free.small; seen = f.seen; held = λ leaf q. absurd (cc); below = f.below; known = f.known; announced = λ leaf q. absurd (cc); claimed = λ leaf x q. absurd (cc); mark = λ m q. absurd (cc) })) (snoc j u e);
        won_once = λ leaf. omega (arith, total-append (wins leaf) vs (w ∷ []), k.won_once leaf);
        posted = λ leaf j bit within. ⊎_elim inl (λ (p : Pending vs leaf j). inr (p.0, p.1, p.2, at_longer vs (w ∷ []) p.0 p.1 p.3, p.4, p.5)) (k.posted leaf j bit within);
        one_left = λ i j leaf from to a b ei ej ha hb la lb. ⊎_elim
            (λ x. ⊎_elim (λ y. k.one_left i j leaf from to a b x y ha hb la lb) (λ (y : (w ≡ b) × (j ≡ length vs)). absurd (let q = ap (λ (z : Knows). z.hand) y.0 in cc)) (snoc j b ej))
            (λ (x : (w ≡ a) × (i ≡ length vs)). absurd (let q = ap (λ (z : Knows). z.hand) x.0 in cc))
            (snoc i a ei);
        won = λ j u e p i. ⊎_elim (λ t. k.won j u t p i) (λ (t : (w ≡ u) × (j ≡ length vs)). absurd (subst (λ (z : Knows). StandsIn p z.won) (sym t.0) i)) (snoc j u e);
        idle = λ j u e dead. ⊎_elim (λ t. k.idle j u t dead) (λ (t : (w ≡ u) × (j ≡ length vs)). ap (λ (z : Knows). z.hand) (sym t.0)) (snoc j u e);
        count = omega (arith, total-append how_many vs (w ∷ []), k.count);
        flying = omega (arith, total-append holding vs (w ∷ []), k.flying);
        said_once = λ p. omega (arith, total-append (said p) vs (w ∷ []), k.said_once p);
        range = λ j u e p i. ⊎_elim (λ t. k.range j u t p i) (λ (t : (w ≡ u) × (j ≡ length vs)). absurd (subst (λ (z : Knows). StandsIn p z.announced) (sym t.0) i)) (snoc j u e);
        busy = λ j u e. ⊎_elim (λ t. k.busy j u t) (λ (t : (w ≡ u) × (j ≡ length vs)). subst (λ (z : Knows). holding z ≤ how_many z) t.0 (omega arith)) (snoc j u e);
        apart = λ i j a b ei ej la lb same. ⊎_elim
            (λ x. ⊎_elim (λ y. k.apart i j a b x y la lb same) (λ (y : (w ≡ b) × (j ≡ length vs)). absurd (free.no_number i a x la (same ∙ ap (λ (z : Knows). z.number) (sym y.0)))) (snoc j b ej))
            (λ (x : (w ≡ a) × (i ≡ length vs)). ⊎_elim (λ y. absurd (free.no_number j b y lb (sym same ∙ ap (λ (z : Knows). z.number) (sym x.0)))) (λ (y : (w ≡ b) × (j ≡ length vs)). x.1 ∙ sym y.1) (snoc j b ej))
            (snoc i a ei);
        own = λ i j a b ei la ej ne leaf. ⊎_elim
            (λ x. ⊎_elim (λ y. k.own i j a b x la y ne leaf) (λ (y : (w ≡ b) × (j ≡ length vs)). ap (said (a.number, leaf)) (sym y.0)) (snoc j b ej))
            (λ (x : (w ≡ a) × (i ≡ length vs)). ⊎_elim (λ y. subst (λ (z : ℕ). said (z, leaf) b ≡ 0) (ap (λ (z : Knows). z.number) x.0) (free.no_pair j b y leaf)) (λ (y : (w ≡ b) × (j ≡ length vs)). absurd (ne (y.1 ∙ sym x.1))) (snoc j b ej))
            (snoc i a ei);
        spare_range = λ i x a ei ia. ⊎_elim (λ t. k.spare_range i x a t ia) (λ (t : (w ≡ a) × (i ≡ length vs)). absurd (subst (λ (z : Knows). StandsIn x z.spare) (sym t.0) ia)) (snoc i a ei);
        spare_once = λ i j x a b ei ej ia ib. ⊎_elim
            (λ t. ⊎_elim (λ y. k.spare_once i j x a b t y ia ib) (λ (y : (w ≡ b) × (j ≡ length vs)). absurd (subst (λ (z : Knows). StandsIn x z.spare) (sym y.0) ib)) (snoc j b ej))
            (λ (t : (w ≡ a) × (i ≡ length vs)). absurd (subst (λ (z : Knows). StandsIn x z.spare) (sym t.0) ia)) (snoc i a ei);
        spare_free = λ i j x a b ei ej ia lb e. ⊎_elim
            (λ t. ⊎_elim (λ y. k.spare_free i j x a b t y ia lb e) (λ (y : (w ≡ b) × (j ≡ length vs)). free.no_spare i a t (subst (λ (z : ℕ). StandsIn z a.spare) (sym e ∙ ap (λ (z : Knows). z.number) (sym y.0)) ia)) (snoc j b ej))
            (λ (t : (w ≡ a) × (i ≡ length vs)). absurd (subst (λ (z : Knows). StandsIn x z.spare) (sym t.0) ia)) (snoc i a ei);
        spare_new = λ i j x a b ei ej ia leaf. ⊎_elim
            (λ t. ⊎_elim (λ y. k.spare_new i j x a b t y ia leaf) (λ (y : (w ≡ b) × (j ≡ length vs)). ap (said (x, leaf)) (sym y.0)) (snoc j b ej))
            (λ (t : (w ≡ a) × (i ≡ length vs)). absurd (subst (λ (z : Knows). StandsIn x z.spare) (sym t.0) ia)) (snoc i a ei);
      };
      right = λ out is. let r = h.right out is in record {
        below = r.below;
        runs = r.runs;
        hands = λ j leaf u e alive held. ⊎_elim (λ t. r.hands j leaf u t alive held) (λ (t : (w ≡ u) × (j ≡ length vs)). absurd (let q = ap (λ (z : Knows). z.hand) t.0 in cc)) (snoc j u e);
        final = r.final;
        done = r.done;
        settled = λ j u e alive. ⊎_elim (λ t. r.settled j u t alive) (λ (t : (w ≡ u) × (j ≡ length vs)). subst (λ (z : Knows). AreSettled net out z.seen) t.0 (r.settled seat v at live)) (snoc j u e);
      };
    }
  where
    at_end : (l : List Knows) (a b : Knows) (j : ℕ) → get_elem? (l ++ a ∷ []) j ≡ some b → (get_elem? l j ≡ some b) ⊎ ((a ≡ b) × (j ≡ length l))
    at_end [] a b zero e = inr (some-injective a b e, refl)
    at_end [] a b (suc j) e = absurd (some-ne-none b (sym e))
    at_end (x ∷ xs) a b zero e = inl e
    at_end (x ∷ xs) a b (suc j) e = ⊎_elim inl (λ t. inr (t.0, ap suc t.1)) (at_end xs a b j e)

pub splits : (net : Flat) (input words : List ℕ) (views : List Knows) (seat n : ℕ) (v : Knows) → TellsWords net → v.live ≡ true → StandsIn n v.spare → Instant net input words views → get_elem? views seat ≡ some v
    → Instant net input words (set views seat (handing n v) ++ newcomer n v ∷ [])
splits net input words views seat n v whole live has h' at =
    let l : Knows = handing n v in
    let f : ViewFits net input words v = h'.kept.fits seat v at live in
    let h : Instant net input words (set views seat l) = marked net input words views seat v l whole live h' at refl refl refl refl refl (λ x i. (without-in n x v.spare i).0) refl refl (le_refl v.seen.known) f.known f.mark in
    let vs : List Knows = set views seat l in
    let old : (j : ℕ) (u : Knows) → get_elem? vs j ≡ some u → (o : Knows) × (get_elem? views j ≡ some o) × (o.live ≡ u.live) × (o.number ≡ u.number) × (o.announced ≡ u.announced) × ((x : ℕ) → StandsIn x u.spare → StandsIn x o.spare × (x ≢ n)) = λ j u e. ⊎_elim
    (λ (y : (j ≡ seat) × (l ≡ u)). (v, ap (get_elem? views) y.0 ∙ at, ap (λ (z : Knows). z.live) y.1, ap (λ (z : Knows). z.number) y.1, ap (λ (z : Knows). z.announced) y.1, λ x i. without-in n x v.spare (subst (λ (z : Knows). StandsIn x z.spare) (sym y.1) i)))
    (λ (y : (j ≢ seat) × (get_elem? views j ≡ some u)). (u, y.1, refl, refl, refl, λ x i. (i, λ same. y.0 (sym (h'.kept.spare_once seat j n v u at y.1 has (subst (λ (z : ℕ). StandsIn z u.spare) same i))))))
    (at_set views seat j l u e) in
    let no_number : (j : ℕ) (u : Knows) → get_elem? vs j ≡ some u → u.live ≡ true → u.number ≢ n = λ j u e alive. let o = old j u e in along o.3 (h'.kept.spare_free seat j n v o.0 at o.1 has (o.2 ∙ alive)) in
    let no_pair : (j : ℕ) (u : Knows) → get_elem? vs j ≡ some u → (leaf : ℕ) → said (n, leaf) u ≡ 0 = λ j u e leaf. let o = old j u e in ap (total (same_pair (n, leaf))) (sym o.4) ∙ h'.kept.spare_new seat j n v o.0 at o.1 has leaf in
    adds net input words vs seat n l
    (record { small = h'.kept.spare_range seat n v at has; no_number = no_number; no_pair = no_pair; no_spare = λ j u e i. (let o = old j u e in (o.5 n i).1 refl) })
    live h (set_there views seat l v at)
  where
    along : {a b c : ℕ} → a ≡ b → a ≢ c → b ≢ c
    along e ne same = ne (e ∙ same)

pub joins : (net : Flat) (input words : List ℕ) (views : List Knows) (seat other : ℕ) (v w : Knows) → TellsWords net → v.live ≡ true → w.live ≡ true → v.hand ≡ Empty → w.hand ≡ Empty → Instant net input words views → get_elem? views seat ≡ some v → other ≢ seat → get_elem? (set views seat (joined net v w)) other ≡ some w
    → Instant net input words (set (set views seat (joined net v w)) other no_view)
joins net input words views seat other v w whole live alive empty bare h at apart there =
    let both : Knows = joined net v w in
    let vs : List Knows = set views seat both in
    let k = h.kept in
    let at' : get_elem? views other ≡ some w = sym (set_else views seat other both apart) ∙ there in
    let f : ViewFits net input words v = k.fits seat v at live in
    let g : ViewFits net input words w = k.fits other w at' alive in
    -- each view is the joined one, the spent one, or as it was
    let cases : (j : ℕ) (u : Knows) → get_elem? (set vs other no_view) j ≡ some u → ((j ≡ other) × (no_view ≡ u)) ⊎ ((j ≡ seat) × (both ≡ u)) ⊎ ((j ≢ seat) × (j ≢ other) × (get_elem? views j ≡ some u)) = λ j u e. ⊎_elim inl
    (λ (t : (j ≢ other) × (get_elem? vs j ≡ some u)). ⊎_elim (λ s. inr (inl s)) (λ (s : (j ≢ seat) × (get_elem? views j ≡ some u)). inr (inr (s.0, t.0, s.1))) (at_set views seat j both u t.1))
    (at_set vs other j no_view u e) in
    -- whoever has a claimed leaf in hand is neither of both
    let holder : (j leaf from : ℕ) (u : Knows) → get_elem? (set vs other no_view) j ≡ some u → u.hand ≡ Claimed leaf from → get_elem? views j ≡ some u = λ j leaf from u e hand. ⊎_elim
    (λ (t : (j ≡ other) × (no_view ≡ u)). absurd (let q = ap (λ (z : Knows). z.hand) t.1 in cc)) (⊎_elim
    (λ (t : (j ≡ seat) × (both ≡ u)). absurd (let q = ap (λ (z : Knows). z.hand) t.1 in let none : Empty ≡ Claimed leaf from = sym empty ∙ q ∙ hand in cc))
    (λ (t : (j ≢ seat) × (j ≢ other) × (get_elem? views j ≡ some u)). t.2)) (cases j u e) in
    let dead : (u : Knows) → no_view ≡ u → u.live ≢ true = λ u e yes'. absurd (true≢false (sym yes' ∙ ap (λ (z : Knows). z.live) (sym e))) in
    let pairs : (p : ℕ × ℕ) → said p both ≡ said p v + said p w = λ p. total-append (same_pair p) v.announced w.announced in
    let sum : (q : Knows → ℕ) → q both ≡ q v + q w → q no_view ≡ 0 → total q (set vs other no_view) ≡ total q views = λ q a b. omega (arith, total-set q views seat v both at, total-set q vs other w no_view there) in
    record {
      kept = record {
        wide = k.wide;
        phase = k.phase;
        above = k.above;
        fits = λ j u e yes'. ⊎_elim (λ (t : (j ≡ other) × (no_view ≡ u)). absurd (dead u t.1 yes')) (⊎_elim
            (λ (t : (j ≡ seat) × (both ≡ u)). subst (ViewFits net input words) t.1 (record {
              numbered = f.numbered;
              seen = joined_of net v.seen w.seen f.seen;
              held = λ leaf q. in-left (v.number, leaf) v.announced w.announced (f.held leaf q);
              below = joined_below net v.seen.words w.seen.words words (seen_wide net v.seen f.seen) f.below g.below;
              known = omega (arith, f.known, g.known);
              announced = f.announced;
              claimed = f.claimed;
              mark = f.mark;
            }))
            (λ (t : (j ≢ seat) × (j ≢ other) × (get_elem? views j ≡ some u)). k.fits j u t.2 yes')) (cases j u e);
        won_once = λ leaf. sum (wins leaf) (total-append (of_leaf leaf) v.won w.won) refl ∙ k.won_once leaf;
        posted = λ leaf n bit within. ⊎_elim inl
            (λ (p : Pending views leaf n). let not_me : p.0 ≢ seat = λ e. let same : p.1 ≡ v = some-injective p.1 v (sym p.3 ∙ ap (get_elem? views) e ∙ at) in let u = ap (λ (y : Knows). y.hand) same in let q = p.4 in absurd (cc) in
            let not_other : p.0 ≢ other = λ e. let same : p.1 ≡ w = some-injective p.1 w (sym p.3 ∙ ap (get_elem? views) e ∙ at') in let u = ap (λ (y : Knows). y.hand) same in let q = p.4 in absurd (cc) in
            inr (p.0, p.1, p.2, set_else vs other p.0 no_view not_other ∙ set_else views seat p.0 both not_me ∙ p.3, p.4, p.5)) (k.posted leaf n bit within);
        one_left = λ i j leaf from to a b ei ej ha hb la lb. k.one_left i j leaf from to a b (holder i leaf from a ei ha) (holder j leaf to b ej hb) ha hb la lb;
        won = λ j u e p i. ⊎_elim (λ (t : (j ≡ other) × (no_view ≡ u)). absurd (subst (λ (z : Knows). StandsIn p z.won) (sym t.1) i)) (⊎_elim
            (λ (t : (j ≡ seat) × (both ≡ u)). subst (λ (z : Knows). StandsIn p z.announced) t.1 (⊎_elim (λ x. in-left p v.announced w.announced (k.won seat v at p x)) (λ x. in-right p v.announced w.announced (k.won other w at' p x)) (in-append p v.won w.won (subst (λ (z : Knows). StandsIn p z.won) (sym t.1) i))))
            (λ (t : (j ≢ seat) × (j ≢ other) × (get_elem? views j ≡ some u)). k.won j u t.2 p i)) (cases j u e);
        idle = λ j u e dead'. ⊎_elim (λ (t : (j ≡ other) × (no_view ≡ u)). ap (λ (z : Knows). z.hand) (sym t.1)) (⊎_elim
            (λ (t : (j ≡ seat) × (both ≡ u)). ap (λ (z : Knows). z.hand) (sym t.1) ∙ empty)
            (λ (t : (j ≢ seat) × (j ≢ other) × (get_elem? views j ≡ some u)). k.idle j u t.2 dead')) (cases j u e);
        count = sum how_many (length-append v.announced w.announced) refl ∙ k.count;
        flying = sum holding (let a = ap in_hand bare in omega arith) refl ∙ k.flying;
        said_once = λ p. let s = sum (said p) (pairs p) refl in omega (arith, k.said_once p);
        range = λ j u e p i. ⊎_elim (λ (t : (j ≡ other) × (no_view ≡ u)). absurd (subst (λ (z : Knows). StandsIn p z.announced) (sym t.1) i)) (⊎_elim
            (λ (t : (j ≡ seat) × (both ≡ u)). ⊎_elim (k.range seat v at p) (k.range other w at' p) (in-append p v.announced w.announced (subst (λ (z : Knows). StandsIn p z.announced) (sym t.1) i)))
            (λ (t : (j ≢ seat) × (j ≢ other) × (get_elem? views j ≡ some u)). k.range j u t.2 p i)) (cases j u e);
        busy = λ j u e. ⊎_elim (λ (t : (j ≡ other) × (no_view ≡ u)). subst (λ (z : Knows). holding z ≤ how_many z) t.1 (omega arith)) (⊎_elim
            (λ (t : (j ≡ seat) × (both ≡ u)). subst (λ (z : Knows). holding z ≤ how_many z) t.1 (let a = ap in_hand empty in omega arith))
            (λ (t : (j ≢ seat) × (j ≢ other) × (get_elem? views j ≡ some u)). k.busy j u t.2)) (cases j u e);
        apart = λ i j a b ei ej la lb same. let x = was i a ei la in let y = was j b ej lb in k.apart i j x.0 y.0 x.1 y.1 x.2 y.2 (x.3 ∙ same ∙ sym y.3);
        own = λ i j a b ei la ej ne leaf. let x = was i a ei la in
            ⊎_elim (λ (t : (j ≡ other) × (no_view ≡ b)). ap (said (a.number, leaf)) (sym t.1)) (⊎_elim
            (λ (t : (j ≡ seat) × (both ≡ b)). let n : ℕ = a.number in
            let s = pairs (n, leaf) in
            let ni : i ≢ seat = λ e. ne (t.0 ∙ sym e) in
            let no : i ≢ other = λ e. not_other i a ei la e in
            let p : said (n, leaf) v ≡ 0 = subst (λ (z : ℕ). said (z, leaf) v ≡ 0) x.3 (k.own i seat x.0 v x.1 x.2 at (λ e. ni (sym e)) leaf) in
            let q : said (n, leaf) w ≡ 0 = subst (λ (z : ℕ). said (z, leaf) w ≡ 0) x.3 (k.own i other x.0 w x.1 x.2 at' (λ e. no (sym e)) leaf) in
            ap (said (n, leaf)) (sym t.1) ∙ omega (arith, s))
            (λ (t : (j ≢ seat) × (j ≢ other) × (get_elem? views j ≡ some b)). subst (λ (z : ℕ). said (z, leaf) b ≡ 0) x.3 (k.own i j x.0 b x.1 x.2 t.2 ne leaf))) (cases j b ej);
        spare_range = λ i n a ei ia. let x = held i n a ei ia in k.spare_range i n x.0 x.1 x.2;
        spare_once = λ i j n a b ei ej ia ib. let x = held i n a ei ia in let y = held j n b ej ib in k.spare_once i j n x.0 y.0 x.1 y.1 x.2 y.2;
        spare_free = λ i j n a b ei ej ia lb e. let x = held i n a ei ia in let y = was j b ej lb in k.spare_free i j n x.0 y.0 x.1 y.1 x.2 y.2 (y.3 ∙ e);
        spare_new = λ i j n a b ei ej ia leaf. let x = held i n a ei ia in
            ⊎_elim (λ (t : (j ≡ other) × (no_view ≡ b)). ap (said (n, leaf)) (sym t.1)) (⊎_elim
            (λ (t : (j ≡ seat) × (both ≡ b)). let s = pairs (n, leaf) in let p = k.spare_new i seat n x.0 v x.1 at x.2 leaf in let q = k.spare_new i other n x.0 w x.1 at' x.2 leaf in ap (said (n, leaf)) (sym t.1) ∙ omega (arith, s))
            (λ (t : (j ≢ seat) × (j ≢ other) × (get_elem? views j ≡ some b)). k.spare_new i j n x.0 b x.1 t.2 x.2 leaf)) (cases j b ej);
      };
      right = λ out is. let r = h.right out is in record {
        below = r.below;
        runs = r.runs;
        hands = λ j leaf u e yes' q. ⊎_elim (λ (t : (j ≡ other) × (no_view ≡ u)). absurd (dead u t.1 yes')) (⊎_elim
            (λ (t : (j ≡ seat) × (both ≡ u)). r.hands seat leaf v at live (ap (λ (z : Knows). z.hand) t.1 ∙ q))
            (λ (t : (j ≢ seat) × (j ≢ other) × (get_elem? views j ≡ some u)). r.hands j leaf u t.2 yes' q)) (cases j u e);
        final = r.final;
        done = r.done;
        settled = λ j u e yes'. ⊎_elim (λ (t : (j ≡ other) × (no_view ≡ u)). absurd (dead u t.1 yes')) (⊎_elim
            (λ (t : (j ≡ seat) × (both ≡ u)). subst (λ (z : Knows). AreSettled net out z.seen) t.1
            (joined_settled net out v.seen w.seen f.seen (under v f.below out r.below) (under w g.below out r.below) (r.settled seat v at live) (r.settled other w at' alive)))
            (λ (t : (j ≢ seat) × (j ≢ other) × (get_elem? views j ≡ some u)). r.settled j u t.2 yes')) (cases j u e);
      };
    }
  where
    under : (a : Knows) → IsWordsBelow net a.seen.words words → (out : List ℕ) → IsWordsBelow net words out → IsWordsBelow net a.seen.words out
    under a p out q x inside = Lies_trans (how_of net x) (get_or a.seen.words x 0) (get_or words x 0) (get_or out x 0) (p x inside) (q x inside)

    -- a live view was live, with its number
    was : (j : ℕ) (u : Knows) → get_elem? (set (set views seat (joined net v w)) other no_view) j ≡ some u → u.live ≡ true → (o : Knows) × (get_elem? views j ≡ some o) × (o.live ≡ true) × (o.number ≡ u.number)
    was j u e yes' = ⊎_elim (λ (t : (j ≡ other) × (no_view ≡ u)). absurd (true≢false (sym yes' ∙ ap (λ (z : Knows). z.live) (sym t.1))))
        (λ (t : (j ≢ other) × (get_elem? (set views seat (joined net v w)) j ≡ some u)). ⊎_elim
        (λ (s : (j ≡ seat) × (joined net v w ≡ u)). (v, ap (get_elem? views) s.0 ∙ at, live, ap (λ (z : Knows). z.number) s.1))
        (λ (s : (j ≢ seat) × (get_elem? views j ≡ some u)). (u, s.1, yes', refl)) (at_set views seat j (joined net v w) u t.1))
        (at_set (set views seat (joined net v w)) other j no_view u e)

    not_other : (j : ℕ) (u : Knows) → get_elem? (set (set views seat (joined net v w)) other no_view) j ≡ some u → u.live ≡ true → j ≢ other
    not_other j u e yes' same = ⊎_elim (λ (t : (j ≡ other) × (no_view ≡ u)). absurd (true≢false (sym yes' ∙ ap (λ (z : Knows). z.live) (sym t.1)))) (λ (t : (j ≢ other) × (get_elem? (set views seat (joined net v w)) j ≡ some u)). t.0 same) (at_set (set views seat (joined net v w)) other j no_view u e)

    held : (j n : ℕ) (u : Knows) → get_elem? (set (set views seat (joined net v w)) other no_view) j ≡ some u → StandsIn n u.spare → (o : Knows) × (get_elem? views j ≡ some o) × StandsIn n o.spare
    held j n u e i = ⊎_elim (λ (t : (j ≡ other) × (no_view ≡ u)). absurd (subst (λ (z : Knows). StandsIn n z.spare) (sym t.1) i))
        (λ (t : (j ≢ other) × (get_elem? (set views seat (joined net v w)) j ≡ some u)). ⊎_elim
        (λ (s : (j ≡ seat) × (joined net v w ≡ u)). (v, ap (get_elem? views) s.0 ∙ at, subst (λ (z : Knows). StandsIn n z.spare) (sym s.1) i))
        (λ (s : (j ≢ seat) × (get_elem? views j ≡ some u)). (u, s.1, i)) (at_set views seat j (joined net v w) u t.1))
        (at_set (set views seat (joined net v w)) other j no_view u e)
