-- The step on the phase word.
use Rattle.std.proofs.Common.{◌≡◌, ◌≢◌, ℕ, suc, ◌+◌, ◌/◌, ◌%◌, ◌<◌, ◌≤◌, max, true, List, length, set, get_or, Some, refl, sym, ap, ◌∙◌, subst, inr, arith, le_refl, length-set, get_or-set_same, get_or-set_other}
use Rattle.std.specs.Int.{bit_at}
use mathlib.Core.Option.{some}
use mathlib.Core.Logic.{dite}
use native.Mathlib.Decide.{dec_le}
use lib.ListN.{get_elem?}
use Rattle.instant_net.specs.Nets.{Flat}
use Rattle.instant_net.specs.PartLists.{part_stratum}
use Rattle.instant_net.specs.Words.{Lies}
use Rattle.instant_net.specs.Outputs.{IsStratified}
use Rattle.net_laws.specs.FinalWords.{AreFinal}
use Rattle.instant_core.specs.Net.{told_stratum, how_of, word_and_bits, width, Entails, TellsWords}
use Rattle.instant_core.specs.Layout.{counter_at, phase_at, claim_word, claim_bit, count_of, flying_of, phase_of}
use Rattle.instant_core.specs.Notes.{Notes}
use Rattle.instant_core.specs.Views.{Knows}
use Rattle.instant_core.specs.Effects.{raised}
use Rattle.instant_core.specs.Invariant.{wins, how_many, holding, MarkFits, ViewFits, Right, Instant}
use Rattle.instant_core.specs.Licences.{Covers}
use Rattle.instant_core.proofs.Order.{Lies_refl, Lies_trans}
use Rattle.instant_core.proofs.Moves.{Steps, moves, moves_right}
use Rattle.instant_net.specs.Words.{AreWords}
use Rattle.instant_core.proofs.Resting.{Rested, rests}

abbrev pub phase_told : Flat → List ℕ → ℕ → List ℕ
phase_told net words p = set words (phase_at net) (max (get_or words (phase_at net) 0) p)

other : (net : Flat) (words : List ℕ) (p x : ℕ) → x ≢ phase_at net → get_or (phase_told net words p) x 0 ≡ get_or words x 0
other net words p x ne = get_or-set_other words (phase_at net) x (max (get_or words (phase_at net) 0) p) 0 ne

pub raises : (net : Flat) (input words : List ℕ) (views : List Knows) (seat p : ℕ) (v : Knows) (m : Notes) → TellsWords net → IsStratified net → p ≤ net.strata → AreWords net.cells input → v.live ≡ true → v.mark ≡ Some m → Covers net p m → Instant net input words views → get_elem? views seat ≡ some v
    → Instant net input (phase_told net words p) (set views seat (raised p v))
raises net input words views seat p v m whole ordered few ii live mark covers h at =
    let words' : List ℕ = phase_told net words p in
    let w : Knows = raised p v in
    let f : ViewFits net input words v = h.kept.fits seat v at live in
    let there : phase_at net < length words = omega (arith, h.kept.wide) in
    let now : phase_of net words' ≡ max (phase_of net words) p = get_or-set_same words (phase_at net) (max (phase_of net words) p) 0 there in
    let store : (x : ℕ) → x < width net → get_or words' x 0 ≡ get_or words x 0 = λ x inside. other net words p x (λ e. omega arith) in
    let bit : (leaf : ℕ) → claim_bit net words' leaf ≡ claim_bit net words leaf = λ leaf. ap (λ (y : ℕ). bit_at y (leaf % 64)) (other net words p (claim_word net leaf) (λ e. omega arith)) in
    let counter : get_or words' (counter_at net) 0 ≡ get_or words (counter_at net) 0 = other net words p (counter_at net) (λ e. omega arith) in
    let count : count_of net words' ≡ count_of net words = ap (λ (y : ℕ). y / 4294967296) counter in
    let flying : flying_of net words' ≡ flying_of net words = ap (λ (y : ℕ). y % 4294967296) counter in
    let s : Steps net words words' = record {
      long = length-set words (phase_at net) (max (phase_of net words) p);
      grows = λ x inside. subst (Lies (how_of net x) (get_or words x 0)) (sym (store x inside)) (Lies_refl (how_of net x) (get_or words x 0));
      bits = λ leaf b. bit leaf ∙ b;
      phase = omega arith;
      top = omega arith;
    } in
    let entails : (a : ℕ × ℕ) → a.0 < width net → Entails net words a → Entails net words' a = λ a inside e. subst (Lies (how_of net a.0) a.1) (sym (store a.0 inside)) e in
    let marks : (o : Notes) → MarkFits net input words o → MarkFits net input words' o = λ o y. record {
      old = let q = y.old in omega arith;
      rest = λ e. flying ∙ y.rest (e ∙ count);
      word_now = λ e x z n. y.word_now (e ∙ count) x z n ∙ sym (store x (y.within x z n));
      leaf_now = λ e leaf z n. y.leaf_now (e ∙ count) leaf z n ∙ sym (bit leaf);
      word_below = λ x z n. subst (Lies (how_of net x) z) (sym (store x (y.within x z n))) (y.word_below x z n);
      leaf_set = λ leaf n. bit leaf ∙ y.leaf_set leaf n;
      within = y.within;
      above = y.above;
      posted = λ leaf j n within. entails (word_and_bits net leaf j) (whole.tells leaf j within) (y.posted leaf j n within);
      told = y.told;
    } in
    let shown : (out : List ℕ) → AreFinal net input out → Right net out words views → Rested net p out words = λ out is r. rests net whole.net_is ordered p few input words out ii (let a = h.kept.wide in omega arith) m (f.mark m mark) h.kept.above r.below is covers in
    record {
      kept = moves net input words words' views seat v w whole h.kept at live s marks (record {
        live = refl;
        number = refl;
        fits = λ _. record {
          numbered = f.numbered;
          seen = record { words = f.seen.words; settled = f.seen.settled };
          held = f.held;
          below = λ x inside. Lies_trans (how_of net x) (get_or v.seen.words x 0) (get_or words x 0) (get_or words' x 0) (f.below x inside) (s.grows x inside);
          known = omega (arith, f.known);
          announced = f.announced;
          claimed = λ l k e. (bit l ∙ (f.claimed l k e).0, (f.claimed l k e).1);
          mark = λ o e. marks o (f.mark o e);
        };
        won = λ l. ap (λ (y : ℕ). y + wins l v) (bit l);
        held = λ l from k e le _. inr (from, e, le);
        fresh = λ l k a b _. absurd (omega (arith, bit l));
        count = ap (λ (y : ℕ). y + how_many v) count;
        flying = ap (λ (y : ℕ). y + holding v) flying;
        said_once = λ q. omega (arith, h.kept.said_once q);
        said_own = λ q ne. absurd (ne refl);
        range = h.kept.range seat v at;
        won_said = h.kept.won seat v at;
        left = λ l k e _. inr (k, e, le_refl k);
        spare = λ n i. i;
        busy = h.kept.busy seat v at;
      });
      right = λ out is. let r = h.right out is in let q = shown out is r in moves_right net out words words' views seat v w whole r at s (record {
        below = λ x inside. subst (λ (y : ℕ). Lies (how_of net x) y (get_or out x 0)) (sym (store x inside)) (r.below x inside);
        fresh = λ l a b. absurd (omega (arith, bit l));
        hand = λ l e. r.hands seat l v at live e;
        final = λ x inside low. dite (dec_le (suc (part_stratum net.cells x)) p) (λ y. q.final x inside y) (λ n. r.final x inside (omega arith));
        done = λ l j run low within. let st : ℕ = told_stratum net l low.0 in let z = low.2 in dite (dec_le (suc st) p) (λ y. q.done l j run (low.0, low.1, y) within) (λ n. r.done l j run (low.0, low.1, omega arith) within);
        settled = λ x o. let t = r.settled seat v at live x o in (t.0, (let u = t.1 in omega arith), t.2);
      });
    }
