-- The step on a claim word.
use Rattle.std.proofs.Common.{◌≡◌, ◌≢◌, ℕ, zero, suc, ◌+◌, ◌/◌, ◌%◌, ◌^◌, ◌<◌, ◌≤◌, max, true, List, [], ◌∷◌, length, set, get_or, refl, sym, ap, ◌∙◌, subst, inl, inr, ⊎_elim, Some, arith, cond, eq-eqb, ne_eqb, length-set, get_or-set_same, get_or-set_other}
use Rattle.std.specs.Prelude.{bit_or}
use Rattle.std.specs.Int.{bit_at}
use Rattle.std.proofs.lemmas.Nat.Bits.{bit_at_or, bit_at-lt, bit_at-pow_same, bit_at-pow_other}
use mathlib.Core.Option.{some}
use mathlib.Core.Logic.{dite}
use native.Mathlib.Decide.{ℕ_discrete}
use lib.ListN.{get_elem?}
use Rattle.instant_net.specs.Nets.{Flat}
use Rattle.instant_net.specs.Words.{Lies}
use Rattle.net_laws.specs.FinalWords.{AreFinal}
use Rattle.instant_core.specs.Net.{how_of, width, IsWordsBelow, Runs, TellsWords, tells_count}
use Rattle.instant_core.specs.Layout.{counter_at, phase_at, claim_word, claim_bit, count_of, flying_of, phase_of}
use Rattle.instant_core.specs.Lists.{StandsIn, of_leaf}
use Rattle.instant_core.specs.Notes.{Notes}
use Rattle.instant_core.specs.Views.{Knows}
use Rattle.instant_core.specs.Effects.{claimed}
use Rattle.instant_core.specs.Invariant.{leaf_in, AreSettled, wins, in_hand, holding, MarkFits, ViewFits, Kept, Right, Instant}
use Rattle.instant_core.proofs.Order.{Lies_refl, Lies_trans}
use Rattle.instant_core.specs.declared.hand.Hand.TheVariants.{Announced, Claimed}
use Rattle.instant_core.proofs.Sums.{in-snoc, total-append, term_le}
use Rattle.instant_core.proofs.Moves.{Steps, mark_on, moves, moves_right}

-- in hand, so that something is in flight
pub flies : (net : Flat) (input words : List ℕ) (views : List Knows) (seat : ℕ) (v : Knows) → Kept net input words views → get_elem? views seat ≡ some v → holding v ≡ 1 → 1 ≤ flying_of net words
flies net input words views seat v h at one = omega (arith, term_le holding views seat v at, h.flying)

abbrev pub bit_told : Flat → List ℕ → ℕ → List ℕ
bit_told net words leaf = set words (claim_word net leaf) (bit_or (get_or words (claim_word net leaf) 0) (2 ^ (leaf % 64)))

bit_set : (net : Flat) (words : List ℕ) (leaf : ℕ) → claim_word net leaf < length words → claim_bit net (bit_told net words leaf) leaf ≡ 1
bit_set net words leaf there = let i : ℕ = claim_word net leaf in let n : ℕ = get_or words i 0 in let p : ℕ = 2 ^ (leaf % 64) in
    ap (λ (y : ℕ). bit_at y (leaf % 64)) (get_or-set_same words i (bit_or n p) 0 there) ∙ bit_at_or n p (leaf % 64) ∙ ap (max (bit_at n (leaf % 64))) (bit_at-pow_same (leaf % 64)) ∙ omega (arith, bit_at-lt n (leaf % 64))

bit_stays : (net : Flat) (words : List ℕ) (leaf other : ℕ) → claim_word net leaf < length words → other ≢ leaf → claim_bit net (bit_told net words leaf) other ≡ claim_bit net words other
bit_stays net words leaf other there n = let i : ℕ = claim_word net leaf in let old : ℕ = get_or words i 0 in let p : ℕ = 2 ^ (leaf % 64) in
    dite (ℕ_discrete (other / 64) (leaf / 64))
    (λ e. let same : claim_word net other ≡ i = omega arith in let apart : other % 64 ≢ leaf % 64 = λ q. n (omega arith) in
    ap (λ (y : ℕ). bit_at (get_or (set words i (bit_or old p)) y 0) (other % 64)) same ∙ ap (λ (y : ℕ). bit_at y (other % 64)) (get_or-set_same words i (bit_or old p) 0 there) ∙ bit_at_or old p (other % 64)
    ∙ ap (max (bit_at old (other % 64))) (bit_at-pow_other (leaf % 64) (other % 64) apart) ∙ omega arith ∙ ap (λ (y : ℕ). bit_at (get_or words y 0) (other % 64)) (sym same))
    (λ ne. ap (λ (y : ℕ). bit_at y (other % 64)) (get_or-set_other words i (claim_word net other) (bit_or old p) 0 (λ e. ne (omega arith))))

low_same : (net : Flat) (words : List ℕ) (leaf x : ℕ) → x < width net + 2 → get_or (bit_told net words leaf) x 0 ≡ get_or words x 0
low_same net words leaf x inside = get_or-set_other words (claim_word net leaf) x (bit_or (get_or words (claim_word net leaf) 0) (2 ^ (leaf % 64))) 0 (λ e. omega arith)

bit_steps : (net : Flat) (words : List ℕ) (leaf : ℕ) → claim_word net leaf < length words → Steps net words (bit_told net words leaf)
bit_steps net words leaf there = record {
  long = length-set words (claim_word net leaf) (bit_or (get_or words (claim_word net leaf) 0) (2 ^ (leaf % 64)));
  grows = λ x inside. subst (Lies (how_of net x) (get_or words x 0)) (sym (low_same net words leaf x (omega arith))) (Lies_refl (how_of net x) (get_or words x 0));
  bits = λ l b. dite (ℕ_discrete l leaf) (λ e. ap (claim_bit net (bit_told net words leaf)) e ∙ bit_set net words leaf there) (λ ne. bit_stays net words leaf l there ne ∙ b);
  phase = let e = low_same net words leaf (phase_at net) (omega arith) in omega arith;
  top = let e = low_same net words leaf (phase_at net) (omega arith) in omega arith;
}

of_leaf-hit : (leaf n : ℕ) → of_leaf leaf (n, leaf) ≡ 1
of_leaf-hit leaf n = ap (λ b. cond b 1 0) (eq-eqb leaf leaf refl)

of_leaf-miss : (x leaf n : ℕ) → x ≢ leaf → of_leaf x (n, leaf) ≡ 0
of_leaf-miss x leaf n ne = ap (λ b. cond b 1 0) (ne_eqb leaf x (λ e. ne (sym e)))

pub claims : (net : Flat) (input words : List ℕ) (views : List Knows) (seat leaf : ℕ) (v : Knows) → TellsWords net → v.live ≡ true → v.hand ≡ Announced leaf → Instant net input words views → get_elem? views seat ≡ some v
    → Instant net input (bit_told net words leaf) (set views seat (claimed net leaf (claim_bit net words leaf) v))
claims net input words views seat leaf v whole live hand h at =
    let words' : List ℕ = bit_told net words leaf in
    let f : ViewFits net input words v = h.kept.fits seat v at live in
    let exists = f.announced leaf hand in
    let there : claim_word net leaf < length words = omega (arith, h.kept.wide) in
    let s : Steps net words words' = bit_steps net words leaf there in
    let counter : get_or words' (counter_at net) 0 ≡ get_or words (counter_at net) 0 = low_same net words leaf (counter_at net) (omega arith) in
    let phase : phase_of net words' ≡ phase_of net words = low_same net words leaf (phase_at net) (omega arith) in
    let mine : holding v ≡ 1 = ap in_hand hand in
    let air = flies net input words views seat v h.kept at mine in
    let count : count_of net words' ≡ count_of net words = ap (λ (y : ℕ). y / 4294967296) counter in
    let flying : flying_of net words' ≡ flying_of net words = ap (λ (y : ℕ). y % 4294967296) counter in
    let marks : (m : Notes) → MarkFits net input words m → MarkFits net input words' m = λ m y. mark_on net input words words' m whole s (omega arith) (λ z. omega arith) y in
    let below' : IsWordsBelow net v.seen.words words' = λ x inside. Lies_trans (how_of net x) (get_or v.seen.words x 0) (get_or words x 0) (get_or words' x 0) (f.below x inside) (s.grows x inside) in
    let mine_said : StandsIn (v.number, leaf) v.announced = f.held leaf (ap leaf_in hand) in
    let held : (l : ℕ) → Some leaf ≡ Some l → StandsIn (v.number, l) v.announced = λ l e. let q : leaf ≡ l = cc in subst (λ (y : ℕ). StandsIn (v.number, y) v.announced) q mine_said in
    let P : Knows → Type 0 = λ w. Instant net input words' (set views seat w) in
    let right : (w : Knows) → w.seen ≡ v.seen → ((l : ℕ) → w.hand ≡ Announced l → ⊥) → (out : List ℕ) → AreFinal net input out → Right net out words' (set views seat w) = λ w seen no_hand out is. let r = h.right out is in
    moves_right net out words words' views seat v w whole r at s (record {
      below = λ x inside. subst (λ (y : ℕ). Lies (how_of net x) y (get_or out x 0)) (sym (low_same net words leaf x (omega arith))) (r.below x inside);
      fresh = λ l a b. dite (ℕ_discrete l leaf) (λ e. subst (Runs net out) (sym e) (r.hands seat leaf v at live hand)) (λ ne. absurd (omega (arith, bit_stays net words leaf l there ne)));
      hand = λ l e. absurd (no_hand l e);
      final = λ x inside low'. r.final x inside (omega arith);
      done = λ l j run low' within. r.done l j run (low'.0, low'.1, (let q = low'.2 in omega arith)) within;
      settled = subst (AreSettled net out) (sym seen) (r.settled seat v at live);
    }) in
    let go : (b : ℕ) → claim_bit net words leaf ≡ b → P (claimed net leaf b v) = λ b is. elim b as (λ (c : ℕ). claim_bit net words leaf ≡ c → P (claimed net leaf c v)) [
      | zero ↦ λ none. let w : Knows = claimed net leaf 0 v in
          let more : (x : ℕ) → wins x w ≡ wins x v + of_leaf x (v.number, leaf) = λ x. omega (arith, total-append (of_leaf x) v.won ((v.number, leaf) ∷ [])) in
          record {
            kept = moves net input words words' views seat v w whole h.kept at live s marks (record {
              live = refl;
              number = refl;
              fits = λ _. record {
                numbered = f.numbered;
                seen = f.seen;
                held = held;
                below = below';
                known = omega (arith, f.known);
                announced = λ l e. absurd (cc);
                claimed = λ l k e. let q : Claimed leaf 0 ≡ Claimed l k = e in let a : leaf ≡ l = cc in let b' : 0 ≡ k = cc in subst (λ (y : ℕ). (claim_bit net words' y ≡ 1) × (k ≤ tells_count net y)) a (bit_set net words leaf there, (omega arith));
                mark = λ m e. marks m (f.mark m e);
              };
              won = λ x. dite (ℕ_discrete x leaf)
                  (λ e. subst (λ (y : ℕ). claim_bit net words' y + wins y v ≡ claim_bit net words y + wins y w) (sym e) (omega (arith, bit_set net words leaf there, none, more leaf, of_leaf-hit leaf v.number)))
                  (λ n. omega (arith, bit_stays net words leaf x there n, more x, of_leaf-miss x leaf v.number n));
              held = λ l from k e _ _. absurd (cc);
              fresh = λ l k a b' _. dite (ℕ_discrete l leaf) (λ e. inr (0, ap (λ (y : ℕ). Claimed y 0) (sym e), omega arith)) (λ ne. absurd (omega (arith, bit_stays net words leaf l there ne)));
              count = omega (arith, count);
              flying = omega (arith, flying, mine);
              said_once = λ q. omega (arith, h.kept.said_once q);
              said_own = λ q ne. absurd (ne refl);
              range = h.kept.range seat v at;
              won_said = λ q i. ⊎_elim (h.kept.won seat v at q) (λ (e : (v.number, leaf) ≡ q). subst (λ (y : ℕ × ℕ). StandsIn y v.announced) e mine_said) (in-snoc q (v.number, leaf) v.won i);
              left = λ l k e _. let q : leaf ≡ l = cc in inl (ap (claim_bit net words) (sym q) ∙ none);
              spare = λ n i. i;
              busy = omega (arith, h.kept.busy seat v at);
            });
            right = right w refl (λ l e. cc);
          }
      | suc m ↦ λ some_bit. let w : Knows = claimed net leaf (suc m) v in
          let was : claim_bit net words leaf ≡ 1 = omega (arith, bit_at-lt (get_or words (claim_word net leaf) 0) (leaf % 64)) in
          record {
            kept = moves net input words words' views seat v w whole h.kept at live s marks (record {
              live = refl;
              number = refl;
              fits = λ _. record {
                numbered = f.numbered;
                seen = f.seen;
                held = held;
                below = below';
                known = omega (arith, f.known);
                announced = λ l e. absurd (cc);
                claimed = λ l k e. let q : Claimed leaf (tells_count net leaf) ≡ Claimed l k = e in let a : leaf ≡ l = cc in let b' : tells_count net leaf ≡ k = cc in subst (λ (y : ℕ). (claim_bit net words' y ≡ 1) × (k ≤ tells_count net y)) a (bit_set net words leaf there, omega arith);
                mark = λ n e. marks n (f.mark n e);
              };
              won = λ x. dite (ℕ_discrete x leaf)
                  (λ e. subst (λ (y : ℕ). claim_bit net words' y + wins y v ≡ claim_bit net words y + wins y v) (sym e) (omega (arith, bit_set net words leaf there)))
                  (λ n. omega (arith, bit_stays net words leaf x there n));
              held = λ l from k e _ _. absurd (cc);
              fresh = λ l k a b' _. dite (ℕ_discrete l leaf) (λ e. absurd (omega (arith, ap (claim_bit net words) e))) (λ ne. absurd (omega (arith, bit_stays net words leaf l there ne)));
              count = omega (arith, count);
              flying = omega (arith, flying, mine);
              said_once = λ q. omega (arith, h.kept.said_once q);
              said_own = λ q ne. absurd (ne refl);
              range = h.kept.range seat v at;
              won_said = h.kept.won seat v at;
              left = λ l k e more. absurd (let q : Claimed leaf (tells_count net leaf) ≡ Claimed l k = e in let a : leaf ≡ l = cc in let b : tells_count net leaf ≡ k = cc in omega (arith, ap (tells_count net) a));
              spare = λ n i. i;
              busy = omega (arith, h.kept.busy seat v at);
            });
            right = right w refl (λ l e. cc);
          }
    ] is in
    go (claim_bit net words leaf) refl
