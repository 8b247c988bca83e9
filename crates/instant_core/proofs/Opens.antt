-- The invariant holds at the opening.
use Rattle.std.proofs.Common.{◌≡◌, ◌≢◌, ◌⊎◌, ℕ, zero, suc, ◌+◌, ◌/◌, ◌%◌, ◌<◌, ◌≤◌, true, List, [], ◌∷◌, length, get_or, take, None, Some, refl, sym, ap, ◌∙◌, subst, inl, inr, ⊎_elim, arith, length-take, get_or-take}
use Rattle.std.specs.Int.{bit_at}
use Rattle.std.proofs.lemmas.Nat.Bits.{bit_at-zero}
use mathlib.Core.Option.{some, some-injective, some-ne-none}
use lib.ListN.{get_elem?}
use Rattle.instant_net.specs.Nets.{Flat}
use Rattle.std.specs.Prelude.{IsTrue, false}
use Rattle.std.proofs.lemmas.List.{length-replicate}
use Rattle.instant_net.specs.PartLists.{parts}
use Rattle.instant_net.specs.Seen.{is_set}
use Rattle.instant_net.specs.Words.{Lies, empty_words}
use Rattle.instant_core.proofs.SeenWords.{none_settled}
use Rattle.instant_core.specs.Net.{how_of, width}
use Rattle.instant_core.specs.Layout.{claim_word, claim_bit, phase_of}
use Rattle.instant_core.specs.Lists.{StandsIn, count_up}
use Rattle.instant_core.specs.Views.{Knows}
use Rattle.instant_core.specs.Invariant.{said, holding, how_many, ViewFits, Instant}
use Rattle.instant_core.specs.Opening.{first_view, OpensOn}
use Rattle.instant_net.proofs.WordPlaces.{as_many}
use Rattle.instant_core.proofs.Order.{Lies_refl}

pub in-count_up : (x from n : ℕ) → StandsIn x (count_up from n) → (from ≤ x) × (x < from + n)
unfolding count_up
in-count_up x from zero h = absurd h
in-count_up x from (suc n) h = ⊎_elim (λ (e : from ≡ x). (omega arith, omega arith)) (λ t. let r = in-count_up x (suc from) n t in (omega arith, omega arith)) h

pub in-count_up-in : (x from n : ℕ) → from ≤ x → x < from + n → StandsIn x (count_up from n)
unfolding count_up
in-count_up-in x from zero a b = absurd (omega arith)
in-count_up-in x from (suc n) a b = Rattle.std.proofs.Common.⊎_elim (λ (e : from ≡ x). inl e) (λ (l : suc from ≤ x). inr (in-count_up-in x (suc from) n l (omega arith))) (near from x a)
  where
    near : (f y : ℕ) → f ≤ y → (f ≡ y) ⊎ (suc f ≤ y)
    near f y l = mathlib.Core.Logic.dite (native.Mathlib.Decide.ℕ_discrete f y) inl (λ ne. inr (omega arith))

only : (w : Knows) (P : ℕ → Knows → Type 0) → P 0 w → (j : ℕ) (u : Knows) → get_elem? (w ∷ []) j ≡ some u → P j u
only w P mine zero u e = subst (P 0) (some-injective w u e) mine
only w P mine (suc j) u e = absurd (some-ne-none u (sym e))

pub opens : (net : Flat) (input words : List ℕ) → OpensOn net input words → Instant net input words (first_view net ∷ [])
opens net input words o =
    let w : Knows = first_view net in
    let unclaimed : (leaf : ℕ) → claim_bit net words leaf ≡ 0 = λ leaf. ap (λ (y : ℕ). bit_at y (leaf % 64)) (o.zeros (claim_word net leaf) (omega arith)) ∙ bit_at-zero (leaf % 64) in
    let counter : get_or words (width net) 0 ≡ 0 = o.zeros (width net) (omega arith) in
    let phase : phase_of net words ≡ 0 = o.zeros (width net + 1) (omega arith) in
    let place : (j : ℕ) (u : Knows) → get_elem? (w ∷ []) j ≡ some u → (j ≡ 0) × (w ≡ u) = only w (λ j u. (j ≡ 0) × (w ≡ u)) (refl, refl) in
    let mine : (n : ℕ) (u : Knows) → w ≡ u → StandsIn n u.spare → (1 ≤ n) × (n < 64) = λ n u e i. in-count_up n 1 63 (subst (λ (y : Knows). StandsIn n y.spare) (sym e) i) in
    record {
      kept = record {
        wide = o.wide;
        phase = omega arith;
        above = λ x inside. subst (λ (y : ℕ). Lies (how_of net x) (get_or input x 0) y) (sym (o.same x inside)) (Lies_refl (how_of net x) (get_or input x 0));
        fits = λ j u e _. subst (ViewFits net input words) (place j u e).1 (record {
          numbered = omega arith;
          seen = record { words = record { long = refl; above = λ k lt. Lies_refl (how_of net k) (get_or (empty_words net.cells) k 0) }; settled = length-replicate (parts net.cells) false };
          below = λ x inside. subst (λ (y : ℕ). Lies (how_of net x) (get_or (empty_words net.cells) x 0) y) (sym (o.same x inside)) (o.input_are.above x (let a = o.input_are.long in let b = as_many net.cells in omega arith));
          known = omega arith;
          held = λ leaf q. absurd (cc);
          announced = λ leaf q. absurd (cc);
          claimed = λ leaf k q. absurd (cc);
          mark = λ m q. absurd (cc);
        });
        won_once = λ leaf. sym (unclaimed leaf);
        posted = λ leaf k bit _. absurd (omega (arith, unclaimed leaf));
        one_left = λ i j leaf from to a b ei ej _ _ _ _. (place i a ei).0 ∙ sym (place j b ej).0;
        won = λ j u e p i. absurd (subst (λ (y : Knows). StandsIn p y.won) (sym (place j u e).1) i);
        idle = λ j u e _. ap (λ (y : Knows). y.hand) (sym (place j u e).1);
        count = sym (ap (λ (y : ℕ). y / 4294967296) counter);
        flying = sym (ap (λ (y : ℕ). y % 4294967296) counter);
        said_once = λ p. omega arith;
        range = λ j u e p i. absurd (subst (λ (y : Knows). StandsIn p y.announced) (sym (place j u e).1) i);
        busy = λ j u e. subst (λ (y : Knows). holding y ≤ how_many y) (place j u e).1 (omega arith);
        apart = λ i j a b ei ej _ _ _. (place i a ei).0 ∙ sym (place j b ej).0;
        own = λ i j a b ei _ ej ne leaf. absurd (ne ((place j b ej).0 ∙ sym (place i a ei).0));
        spare_range = λ i n a ei ia. (mine n a (place i a ei).1 ia).1;
        spare_once = λ i j n a b ei ej _ _. (place i a ei).0 ∙ sym (place j b ej).0;
        spare_free = λ i j n a b ei ej ia _ e. let m = mine n a (place i a ei).1 ia in let z : 0 ≡ n = ap (λ (y : Knows). y.number) (place j b ej).1 ∙ e in omega arith;
        spare_new = λ i j n a b ei ej ia leaf. ap (said (n, leaf)) (sym (place j b ej).1);
      };
      right = λ out is. record {
        below = λ x inside. subst (λ (y : ℕ). Lies (how_of net x) y (get_or out x 0)) (sym (o.same x inside)) (is.above x inside);
        runs = λ leaf bit. absurd (omega (arith, unclaimed leaf));
        hands = λ j leaf u e _ q. absurd (let z = ap (λ (y : Knows). y.hand) (place j u e).1 in cc);
        final = λ x inside low. absurd (omega arith);
        done = λ leaf j run low _. absurd (let z = low.2 in omega arith);
        settled = λ j u e _ q i. absurd (none_settled (parts net.cells) q (subst (λ (y : Knows). IsTrue (is_set y.seen.settled q)) (sym (place j u e).1) i));
      };
    }
