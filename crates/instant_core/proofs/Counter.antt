-- The steps on the counter: announce and finish.
use Rattle.std.proofs.Common.{◌≡◌, ◌≢◌, ℕ, ◌+◌, ◌-◌, ◌%◌, ◌<◌, ◌≤◌, true, List, [], ◌∷◌, ◌++◌, length, set, get_or, refl, sym, ap, ◌∙◌, subst, ⊎_elim, arith, length-set, get_or-set_same, get_or-set_other, length-append}
use Rattle.std.specs.Int.{bit_at}
use mathlib.Core.Option.{some}
use mathlib.Core.Logic.{dite}
use native.Mathlib.Decide.{ℕ_discrete}
use lib.ListN.{get_elem?}
use Rattle.std.specs.Prelude.{IsTrue}
use Rattle.instant_net.specs.Deciding.{is_decided}
use Rattle.instant_net.specs.Nets.{Flat}
use Rattle.instant_net.specs.Words.{Lies}
use Rattle.instant_core.specs.Net.{how_of, width, IsWordsBelow, Runs, TellsWords, tells_count}
use Rattle.instant_core.specs.Layout.{counter_at, phase_at, claim_word, claim_bit, count_of, flying_of, phase_of}
use Rattle.instant_core.specs.Lists.{StandsIn, total, same_pair, pair_times}
use Rattle.instant_core.specs.Notes.{Notes}
use Rattle.instant_core.specs.Views.{Knows}
use Rattle.instant_core.specs.Effects.{announced, finished}
use Rattle.instant_core.specs.Invariant.{IsPair, wins, said, in_hand, holding, MarkFits, ViewFits, Instant}
use Rattle.instant_core.specs.Licences.{MayAnnounce}
use Rattle.instant_core.proofs.Order.{Lies_refl, Lies_trans}
use Rattle.instant_core.specs.declared.hand.Hand.TheVariants.{Claimed}
use Rattle.instant_core.proofs.Sums.{in-left, in-last, total-append, only_term, in-snoc, term_le}
use Rattle.instant_core.proofs.Deciding.{decided_runs, exists, tells}
use Rattle.instant_core.proofs.Moves.{Steps, mark_on, moves, moves_right}
use Rattle.instant_core.proofs.Bounds.{same_pair-hit, same_pair-miss, few_flying}

-- the counter becomes n
pub counter_steps : (net : Flat) (words : List ℕ) (n : ℕ) → width net < length words → Steps net words (set words (counter_at net) n)
counter_steps net words n there = record {
  long = length-set words (counter_at net) n;
  grows = λ x inside. subst (Lies (how_of net x) (get_or words x 0)) (sym (get_or-set_other words (counter_at net) x n 0 (λ e. omega arith))) (Lies_refl (how_of net x) (get_or words x 0));
  bits = λ leaf b. ap (λ (y : ℕ). bit_at y (leaf % 64)) (get_or-set_other words (counter_at net) (claim_word net leaf) n 0 (λ e. omega arith)) ∙ b;
  phase = let e = get_or-set_other words (counter_at net) (phase_at net) n 0 (λ e. omega arith) in omega arith;
  top = let e = get_or-set_other words (counter_at net) (phase_at net) n 0 (λ e. omega arith) in omega arith;
}

pub counter_bit : (net : Flat) (words : List ℕ) (n leaf : ℕ) → claim_bit net (set words (counter_at net) n) leaf ≡ claim_bit net words leaf
counter_bit net words n leaf = ap (λ (y : ℕ). bit_at y (leaf % 64)) (get_or-set_other words (counter_at net) (claim_word net leaf) n 0 (λ e. omega arith))

pub counter_below : (net : Flat) (words out : List ℕ) (n : ℕ) → IsWordsBelow net words out → IsWordsBelow net (set words (counter_at net) n) out
counter_below net words out n h x inside = subst (λ (y : ℕ). Lies (how_of net x) y (get_or out x 0)) (sym (get_or-set_other words (counter_at net) x n 0 (λ e. omega arith))) (h x inside)

counter_phase : (net : Flat) (words : List ℕ) (n : ℕ) → phase_of net (set words (counter_at net) n) ≡ phase_of net words
counter_phase net words n = get_or-set_other words (counter_at net) (phase_at net) n 0 (λ e. omega arith)

below_on : (net : Flat) (seen words words' : List ℕ) → IsWordsBelow net seen words → IsWordsBelow net words words' → IsWordsBelow net seen words'
below_on net seen words words' p q x inside = Lies_trans (how_of net x) (get_or seen x 0) (get_or words x 0) (get_or words' x 0) (p x inside) (q x inside)

said-snoc : (p q : ℕ × ℕ) (ps : List (ℕ × ℕ)) → pair_times p (ps ++ q ∷ []) ≡ pair_times p ps + same_pair p q
said-snoc p q ps = omega (arith, total-append (same_pair p) ps (q ∷ []))

pub announces : (net : Flat) (input words : List ℕ) (views : List Knows) (seat leaf : ℕ) (v : Knows) → TellsWords net → MayAnnounce net v leaf → Instant net input words views → get_elem? views seat ≡ some v
    → Instant net input (set words (counter_at net) (get_or words (counter_at net) 0 + 4294967297)) (set views seat (announced leaf v))
announces net input words views seat leaf v whole may h at =
    let n : ℕ = get_or words (counter_at net) 0 in
    let words' : List ℕ = set words (counter_at net) (n + 4294967297) in
    let w : Knows = announced leaf v in
    let f : ViewFits net input words v = h.kept.fits seat v at may.live in
    let d : IsTrue (is_decided net v.seen leaf) = may.decided in
    let there : width net < length words = omega (arith, h.kept.wide) in
    let s : Steps net words words' = counter_steps net words (n + 4294967297) there in
    let now : get_or words' (counter_at net) 0 ≡ n + 4294967297 = get_or-set_same words (counter_at net) (n + 4294967297) 0 there in
    let low = few_flying net input words views h.kept in
    let count : count_of net words' ≡ count_of net words + 1 = omega arith in
    let flying : flying_of net words' ≡ flying_of net words + 1 = omega arith in
    let marks : (m : Notes) → MarkFits net input words m → MarkFits net input words' m = λ m y. mark_on net input words words' m whole s (omega arith) (λ _. omega arith) y in
    let p : ℕ × ℕ = (v.number, leaf) in
    let alone : total (said p) views ≡ 0 = only_term (said p) views seat v at (λ i u ne e. h.kept.own seat i v u at may.live e ne leaf) ∙ may.new in
    let more : (q : ℕ × ℕ) → said q w ≡ said q v + same_pair q p = λ q. said-snoc q p v.announced in
    let idle : holding v ≡ 0 = ap in_hand may.empty in
    record {
      kept = moves net input words words' views seat v w whole h.kept at may.live s marks (record {
        live = refl;
        number = refl;
        fits = λ _. record {
          numbered = f.numbered;
          seen = f.seen;
          below = below_on net v.seen.words words words' f.below s.grows;
          known = omega (arith, f.known, counter_phase net words (n + 4294967297));
          held = λ l e. let q : leaf ≡ l = cc in subst (λ (y : ℕ). StandsIn (v.number, y) w.announced) q (in-last p v.announced);
          announced = λ l e. let q : leaf ≡ l = cc in subst (λ (y : ℕ). y < length net.leaves) q (exists net v.seen leaf d);
          claimed = λ l k e. absurd (cc);
          mark = λ m e. marks m (f.mark m e);
        };
        won = λ l. ap (λ (y : ℕ). y + wins l v) (counter_bit net words (n + 4294967297) l);
        held = λ l from k e _ _. absurd (let q = may.empty in cc);
        fresh = λ l k yes' no' _. absurd (omega (arith, counter_bit net words (n + 4294967297) l));
        count = omega (arith, count, length-append v.announced (p ∷ []));
        flying = omega (arith, flying, idle);
        said_once = λ q. dite (ℕ_discrete (same_pair q p) 0)
            (λ e. omega (arith, more q, h.kept.said_once q))
            (λ ne. let same : q ≡ p = meets q p ne in omega (arith, more q, ap (λ (y : ℕ × ℕ). total (said y) views) same, alone, ap (λ (y : ℕ × ℕ). same_pair y p) same, same_pair-hit p p refl refl));
        said_own = λ q ne. dite (ℕ_discrete (same_pair q p) 0) (λ e. absurd (ne (omega (arith, more q)))) (λ z. ap (λ (y : ℕ × ℕ). y.0) (meets q p z));
        range = λ q i. ⊎_elim (h.kept.range seat v at q) (λ (e : p ≡ q). subst (IsPair net) e (f.numbered, exists net v.seen leaf d, tells net v.seen leaf d)) (in-snoc q p v.announced i);
        won_said = λ q i. in-left q v.announced (p ∷ []) (h.kept.won seat v at q i);
        left = λ l k e _. absurd (cc);
        spare = λ n i. i;
        busy = omega (arith, length-append v.announced (p ∷ []));
      });
      right = λ out is. let r = h.right out is in moves_right net out words words' views seat v w whole r at s (record {
        below = counter_below net words out (n + 4294967297) r.below;
        fresh = λ l a b. absurd (omega (arith, counter_bit net words (n + 4294967297) l));
        hand = λ l e. let q : leaf ≡ l = cc in subst (Runs net out) q (decided_runs net whole.net_is v.seen out f.seen (below_on net v.seen.words words out f.below r.below) (r.settled seat v at may.live) leaf d);
        final = λ x inside low'. r.final x inside (omega (arith, counter_phase net words (n + 4294967297)));
        done = λ l j run low' within. r.done l j run (low'.0, low'.1, (let q = low'.2 in omega (arith, counter_phase net words (n + 4294967297)))) within;
        settled = r.settled seat v at may.live;
      });
    }
  where
    meets : (q p : ℕ × ℕ) → same_pair q p ≢ 0 → q ≡ p
    meets q p ne = dite (ℕ_discrete p.0 q.0)
        (λ a. dite (ℕ_discrete p.1 q.1) (λ b. λ i. (sym a i, sym b i)) (λ n. absurd (ne (same_pair-miss q p (λ _. n)))))
        (λ n. absurd (ne (same_pair-miss q p (λ a. absurd (n a)))))

pub finishes : (net : Flat) (input words : List ℕ) (views : List Knows) (seat leaf : ℕ) (v : Knows) → TellsWords net → v.live ≡ true → v.hand ≡ Claimed leaf (tells_count net leaf) → Instant net input words views → get_elem? views seat ≡ some v
    → Instant net input (set words (counter_at net) (get_or words (counter_at net) 0 - 1)) (set views seat (finished v))
finishes net input words views seat leaf v whole live hand h at =
    let n : ℕ = get_or words (counter_at net) 0 in
    let words' : List ℕ = set words (counter_at net) (n - 1) in
    let w : Knows = finished v in
    let f : ViewFits net input words v = h.kept.fits seat v at live in
    let there : width net < length words = omega (arith, h.kept.wide) in
    let s : Steps net words words' = counter_steps net words (n - 1) there in
    let now : get_or words' (counter_at net) 0 ≡ n - 1 = get_or-set_same words (counter_at net) (n - 1) 0 there in
    let mine : holding v ≡ 1 = ap in_hand hand in
    let some_flying : 1 ≤ flying_of net words = omega (arith, term_le holding views seat v at, h.kept.flying) in
    let count : count_of net words' ≡ count_of net words = omega arith in
    let flying : flying_of net words' + 1 ≡ flying_of net words = omega arith in
    let marks : (m : Notes) → MarkFits net input words m → MarkFits net input words' m = λ m y. mark_on net input words words' m whole s (omega arith) (λ z. omega arith) y in
    record {
      kept = moves net input words words' views seat v w whole h.kept at live s marks (record {
        live = refl;
        number = refl;
        fits = λ _. record {
          numbered = f.numbered;
          seen = f.seen;
          below = below_on net v.seen.words words words' f.below s.grows;
          known = omega (arith, f.known, counter_phase net words (n - 1));
          held = λ l e. absurd (cc);
          announced = λ l e. absurd (cc);
          claimed = λ l k e. absurd (cc);
          mark = λ m e. marks m (f.mark m e);
        };
        won = λ l. ap (λ (y : ℕ). y + wins l v) (counter_bit net words (n - 1) l);
        held = λ l from k e le within. absurd (let q : Claimed leaf (tells_count net leaf) ≡ Claimed l from = sym hand ∙ e in let a : leaf ≡ l = cc in let b : tells_count net leaf ≡ from = cc in omega (arith, ap (tells_count net) a));
        fresh = λ l k yes' no' _. absurd (omega (arith, counter_bit net words (n - 1) l));
        count = omega (arith, count);
        flying = omega (arith, flying, mine);
        said_once = λ q. omega (arith, h.kept.said_once q);
        said_own = λ q ne. absurd (ne refl);
        range = h.kept.range seat v at;
        won_said = h.kept.won seat v at;
        left = λ l k e _. absurd (cc);
        spare = λ n i. i;
        busy = omega arith;
      });
      right = λ out is. let r = h.right out is in moves_right net out words words' views seat v w whole r at s (record {
        below = counter_below net words out (n - 1) r.below;
        fresh = λ l a b. absurd (omega (arith, counter_bit net words (n - 1) l));
        hand = λ l e. absurd (cc);
        final = λ x inside low'. r.final x inside (omega (arith, counter_phase net words (n - 1)));
        done = λ l j run low' within. r.done l j run (low'.0, low'.1, (let q = low'.2 in omega (arith, counter_phase net words (n - 1)))) within;
        settled = r.settled seat v at live;
      });
    }
