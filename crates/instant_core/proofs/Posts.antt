-- The step that tells a token.
use Rattle.std.proofs.Common.{◌≡◌, ℕ, ◌+◌, ◌/◌, ◌%◌, ◌<◌, ◌≤◌, true, false, List, length, set, get_or, refl, sym, ap, ◌∙◌, subst, inl, inr, Some, arith, length-set, get_or-set_same, get_or-set_other, le_refl}
use Rattle.std.specs.Int.{bit_at}
use mathlib.Core.Option.{some}
use mathlib.Core.Logic.{dite}
use native.Mathlib.Decide.{ℕ_discrete}
use lib.ListN.{get_elem?}
use Rattle.instant_net.specs.Nets.{Flat}
use Rattle.instant_net.specs.PartLists.{part_how}
use Rattle.instant_net.specs.Seen.{taken}
use Rattle.instant_net.specs.Words.{lub, Lies}
use Rattle.net_laws.specs.Laws.{IsFinalUpto}
use Rattle.net_laws.proofs.RisingWords.{parts_below}
use Rattle.instant_core.specs.Net.{part_in, how_of, word_and_bits, width, Entails, IsWordsBelow, Runs, TellsWords, tells_count}
use Rattle.instant_core.specs.Layout.{counter_at, phase_at, claim_word, claim_bit, count_of, flying_of, phase_of}
use Rattle.instant_core.specs.Notes.{Notes}
use Rattle.instant_core.specs.Views.{Knows}
use Rattle.instant_core.specs.Effects.{posted}
use Rattle.instant_core.specs.Invariant.{leaf_in, AreSettled, wins, in_hand, holding, MarkFits, ViewFits, Instant}
use Rattle.instant_core.proofs.Order.{Lies_refl, Lies_trans, Lies_left, Lies_right, Lies_both, Lies_antisym}
use Rattle.instant_core.proofs.SeenWords.{seen_wide, sees_below, taken_of, takes_settled}
use Rattle.instant_core.specs.declared.hand.Hand.TheVariants.{Claimed}
use Rattle.instant_core.proofs.Facts.{final-told}
use Rattle.instant_core.proofs.Moves.{Steps, mark_on, moves, moves_right}
use Rattle.instant_core.proofs.Claims.{flies}

abbrev pub told : Flat → List ℕ → ℕ → ℕ → List ℕ
told net words leaf n = set words (word_and_bits net leaf n).0 (lub (how_of net (word_and_bits net leaf n).0) (get_or words (word_and_bits net leaf n).0 0) (word_and_bits net leaf n).1)

told_high : (net : Flat) (words : List ℕ) (leaf n x : ℕ) → (word_and_bits net leaf n).0 < width net → width net ≤ x → get_or (told net words leaf n) x 0 ≡ get_or words x 0
told_high net words leaf n x inside high = let i : ℕ = (word_and_bits net leaf n).0 in get_or-set_other words i x (lub (how_of net i) (get_or words i 0) (word_and_bits net leaf n).1) 0 (λ e. omega arith)

told_bit : (net : Flat) (words : List ℕ) (leaf n x : ℕ) → (word_and_bits net leaf n).0 < width net → claim_bit net (told net words leaf n) x ≡ claim_bit net words x
told_bit net words leaf n x inside = ap (λ (y : ℕ). bit_at y (x % 64)) (told_high net words leaf n (claim_word net x) inside (omega arith))

told_steps : (net : Flat) (words : List ℕ) (leaf n : ℕ) → (word_and_bits net leaf n).0 < width net → width net < length words → Steps net words (told net words leaf n)
told_steps net words leaf n inside_i there = let i : ℕ = (word_and_bits net leaf n).0 in let b : ℕ = (word_and_bits net leaf n).1 in let new : ℕ = lub (how_of net i) (get_or words i 0) b in record {
  long = length-set words i new;
  grows = λ x inside. dite (ℕ_discrete x i)
      (λ e. subst (λ (y : ℕ). Lies (how_of net y) (get_or words y 0) (get_or (told net words leaf n) y 0)) (sym e) (subst (Lies (how_of net i) (get_or words i 0)) (sym (get_or-set_same words i new 0 (omega arith))) (Lies_left (how_of net i) (get_or words i 0) b)))
      (λ ne. subst (Lies (how_of net x) (get_or words x 0)) (sym (get_or-set_other words i x new 0 ne)) (Lies_refl (how_of net x) (get_or words x 0)));
  bits = λ l bit. told_bit net words leaf n l inside_i ∙ bit;
  phase = let e = told_high net words leaf n (phase_at net) inside_i (omega arith) in omega arith;
  top = let e = told_high net words leaf n (phase_at net) inside_i (omega arith) in omega arith;
}

pub posts : (net : Flat) (input words : List ℕ) (views : List Knows) (seat leaf n : ℕ) (v : Knows) → TellsWords net → v.live ≡ true → v.hand ≡ Claimed leaf n → n < tells_count net leaf → Instant net input words views → get_elem? views seat ≡ some v
    → Instant net input (told net words leaf n) (set views seat (posted net leaf n (get_or words (word_and_bits net leaf n).0 0) v))
posts net input words views seat leaf n v whole live hand more h at =
    let i : ℕ = (word_and_bits net leaf n).0 in
    let b : ℕ = (word_and_bits net leaf n).1 in
    let words' : List ℕ = told net words leaf n in
    let w : Knows = posted net leaf n (get_or words i 0) v in
    let f : ViewFits net input words v = h.kept.fits seat v at live in
    let inside : i < width net = whole.tells leaf n more in
    let there : width net < length words = omega (arith, h.kept.wide) in
    let s : Steps net words words' = told_steps net words leaf n inside there in
    let new : ℕ = lub (how_of net i) (get_or words i 0) b in
    let now : get_or words' i 0 ≡ new = get_or-set_same words i new 0 (omega arith) in
    let had = f.claimed leaf n hand in
    let mine : holding v ≡ 1 = ap in_hand hand in
    let air = flies net input words views seat v h.kept at mine in
    let counter : get_or words' (counter_at net) 0 ≡ get_or words (counter_at net) 0 = told_high net words leaf n (counter_at net) inside (le_refl (width net)) in
    let phase : phase_of net words' ≡ phase_of net words = told_high net words leaf n (phase_at net) inside (omega arith) in
    let count : count_of net words' ≡ count_of net words = ap (λ (y : ℕ). y / 4294967296) counter in
    let flying : flying_of net words' ≡ flying_of net words = ap (λ (y : ℕ). y % 4294967296) counter in
    let marks : (m : Notes) → MarkFits net input words m → MarkFits net input words' m = λ m y. mark_on net input words words' m whole s (omega arith) (λ z. omega arith) y in
    let below_v : IsWordsBelow net v.seen.words words' = λ x in_x. Lies_trans (how_of net x) (get_or v.seen.words x 0) (get_or words x 0) (get_or words' x 0) (f.below x in_x) (s.grows x in_x) in
    let entailed : Entails net words' (word_and_bits net leaf n) = subst (Lies (how_of net i) b) (sym now) (Lies_right (how_of net i) (get_or words i 0) b) in
    record {
      kept = moves net input words words' views seat v w whole h.kept at live s marks (record {
        live = refl;
        number = refl;
        fits = λ _. record {
          numbered = f.numbered;
          seen = taken_of net i new false v.seen inside f.seen;
          below = sees_below net v.seen.words words' i new (seen_wide net v.seen f.seen) below_v (subst (Lies (how_of net i) new) (sym now) (Lies_refl (how_of net i) new));
          known = omega (arith, f.known);
          held = λ l e. let q : leaf ≡ l = cc in f.held l (ap leaf_in hand ∙ ap Some q);
          announced = λ l e. absurd (cc);
          claimed = λ l k e. let q : Claimed leaf (n + 1) ≡ Claimed l k = e in let a : leaf ≡ l = cc in let c : n + 1 ≡ k = cc in subst (λ (y : ℕ). (claim_bit net words' y ≡ 1) × (k ≤ tells_count net y)) a (told_bit net words leaf n leaf inside ∙ had.0, omega arith);
          mark = λ m e. marks m (f.mark m e);
        };
        won = λ l. ap (λ (y : ℕ). y + wins l v) (told_bit net words leaf n l inside);
        held = λ l from k e le within. let q : Claimed leaf n ≡ Claimed l from = sym hand ∙ e in let a : leaf ≡ l = cc in let c : n ≡ from = cc in
            dite (ℕ_discrete k n)
            (λ same. inl (subst (λ (y : ℕ). Entails net words' (word_and_bits net y k)) a (subst (λ (y : ℕ). Entails net words' (word_and_bits net leaf y)) (sym same) entailed)))
            (λ ne. inr (n + 1, ap (λ (y : ℕ). Claimed y (n + 1)) a, omega arith));
        fresh = λ l k x y _. absurd (omega (arith, told_bit net words leaf n l inside));
        count = omega (arith, count);
        flying = omega (arith, flying, mine);
        said_once = λ q. omega (arith, h.kept.said_once q);
        said_own = λ q ne. absurd (ne refl);
        range = h.kept.range seat v at;
        won_said = h.kept.won seat v at;
        left = λ l k e _. let q : Claimed leaf (n + 1) ≡ Claimed l k = e in let a : leaf ≡ l = cc in let c : n + 1 ≡ k = cc in inr (n, hand ∙ ap (λ (y : ℕ). Claimed y n) a, omega arith);
        spare = λ n i. i;
        busy = omega (arith, h.kept.busy seat v at);
      });
      right = λ out is. let r = h.right out is in
          let run : Runs net out leaf = r.runs leaf had.0 in
          let tok : Entails net out (word_and_bits net leaf n) = final-told net whole.net_is input out is leaf n run more in
          let below' : IsWordsBelow net words' out = λ x in_x. dite (ℕ_discrete x i)
          (λ e. subst (λ (y : ℕ). Lies (how_of net y) (get_or words' y 0) (get_or out y 0)) (sym e) (subst (λ (y : ℕ). Lies (how_of net i) y (get_or out i 0)) (sym now) (Lies_both (how_of net i) (get_or words i 0) b (get_or out i 0) (r.below i inside) tok)))
          (λ ne. subst (λ (y : ℕ). Lies (how_of net x) y (get_or out x 0)) (sym (get_or-set_other words i x new 0 ne)) (r.below x in_x)) in
          let final' : IsFinalUpto net out (phase_of net words') words' = λ q in_q low'. Lies_antisym (part_how net.cells q) (part_in net words' q) (part_in net out q) (parts_below net.cells words' out below' q in_q)
          (subst (λ (y : ℕ). Lies (part_how net.cells q) y (part_in net words' q)) (r.final q in_q (omega arith)) (parts_below net.cells words words' s.grows q in_q)) in
          moves_right net out words words' views seat v w whole r at s (record {
            below = below';
            fresh = λ l x y. absurd (omega (arith, told_bit net words leaf n l inside));
            hand = λ l e. absurd (cc);
            final = λ x in_x low'. r.final x in_x (omega arith);
            done = λ l j run' low' within. r.done l j run' (low'.0, low'.1, (let q = low'.2 in omega arith)) within;
            settled = subst (λ (y : ℕ). AreSettled net out (taken net i y false v.seen)) now
                (takes_settled net out words' (phase_of net words') final' i false v.seen inside f.seen below_v (omega (arith, f.known)) (r.settled seat v at live));
          });
    }
