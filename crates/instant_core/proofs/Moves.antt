-- One view goes from v to w, and the words from words to words'.
use Rattle.std.proofs.Common.{◌≡◌, ◌≢◌, ◌⊎◌, ℕ, ◌+◌, ◌%◌, ◌<◌, ◌≤◌, max, Bool, true, false, true≢false, List, length, set, get_or, refl, sym, ap, ◌∙◌, subst, inl, inr, ⊎_elim, arith}
use Rattle.std.proofs.lemmas.Nat.Bits.{bit_at-lt}
use mathlib.Core.Option.{some, some-injective}
use mathlib.Core.Logic.{dite}
use native.Mathlib.Decide.{ℕ_discrete}
use lib.ListN.{get_elem?}
use Rattle.instant_net.specs.Nets.{Flat}
use Rattle.instant_net.specs.PartLists.{part_how}
use Rattle.instant_net.specs.Words.{Lies}
use Rattle.net_laws.specs.Laws.{IsFinalUpto}
use Rattle.net_laws.proofs.RisingWords.{parts_below}
use Rattle.instant_core.specs.Net.{part_in, how_of, word_and_bits, width, Entails, IsWordsBelow, Runs, TellsWords, tells_count, IsLow}
use Rattle.instant_core.specs.Layout.{claim_word, claim_bit, count_of, flying_of, phase_of}
use Rattle.instant_core.specs.Lists.{total, StandsIn}
use Rattle.instant_core.specs.Notes.{Notes}
use Rattle.instant_core.specs.Views.{Knows}
use Rattle.instant_core.specs.Invariant.{IsPair, AreSettled, wins, said, how_many, holding, MarkFits, ViewFits, Pending, Kept, Right}
use Rattle.instant_core.proofs.Order.{Lies_trans, Lies_antisym}
use Rattle.instant_core.proofs.Places.{at_set, set_there, set_else}
use Rattle.instant_core.specs.declared.hand.Hand.TheVariants.{Announced, Claimed}
use Rattle.instant_core.proofs.Sums.{total-set}

pub entails_on : (net : Flat) (words words' : List ℕ) (a : ℕ × ℕ) → a.0 < width net → IsWordsBelow net words words' → Entails net words a → Entails net words' a
entails_on net words words' a inside grows h = Lies_trans (how_of net a.0) a.1 (get_or words a.0 0) (get_or words' a.0 0) h (grows a.0 inside)

-- what a step does to the words
pub record Steps (net : Flat) (words words' : List ℕ) : Type 0 where
  pub long : length words' ≡ length words
  pub grows : IsWordsBelow net words words'
  pub bits : (leaf : ℕ) → claim_bit net words leaf ≡ 1 → claim_bit net words' leaf ≡ 1
  pub phase : phase_of net words ≤ phase_of net words'
  pub top : phase_of net words' ≤ max (phase_of net words) net.strata

-- a step by a worker that has a leaf in hand, or takes one: no mark is at rest afterwards
pub mark_on : (net : Flat) (input words words' : List ℕ) (m : Notes) → TellsWords net → Steps net words words' → count_of net words ≤ count_of net words' → (flying_of net words ≡ 0 → count_of net words < count_of net words') → MarkFits net input words m → MarkFits net input words' m
mark_on net input words words' m whole s more busy f =
    let awake : m.count ≢ count_of net words' = λ e. let o = f.old in dite (ℕ_discrete m.count (count_of net words)) (λ same. let b = busy (f.rest same) in omega arith) (λ ne. omega arith) in record {
      old = let o = f.old in omega arith;
      rest = λ e. absurd (awake e);
      word_now = λ e. absurd (awake e);
      leaf_now = λ e. absurd (awake e);
      word_below = λ x y n. Lies_trans (how_of net x) y (get_or words x 0) (get_or words' x 0) (f.word_below x y n) (s.grows x (f.within x y n));
      leaf_set = λ leaf n. s.bits leaf (f.leaf_set leaf n);
      within = f.within;
      above = f.above;
      posted = λ leaf j n h. entails_on net words words' (word_and_bits net leaf j) (whole.tells leaf j h) s.grows (f.posted leaf j n h);
      told = f.told;
    }

-- what is left of a claimed leaf once a view is w
abbrev pub Left : Flat → List ℕ → Knows → ℕ → ℕ → Type 0
Left net words' w leaf k = Entails net words' (word_and_bits net leaf k) ⊎ ((from : ℕ) × (w.hand ≡ Claimed leaf from) × (from ≤ k))

left_in : (net : Flat) (words' : List ℕ) (views : List Knows) (seat : ℕ) (v w : Knows) (leaf k : ℕ) → get_elem? views seat ≡ some v → Left net words' w leaf k → Entails net words' (word_and_bits net leaf k) ⊎ Pending (set views seat w) leaf k
left_in net words' views seat v w leaf k at left = ⊎_elim inl (λ (t : (from : ℕ) × (w.hand ≡ Claimed leaf from) × (from ≤ k)). inr (seat, w, t.0, set_there views seat w v at, t.1, t.2)) left

-- what a step does to the view of the worker that makes it
pub record Turns (net : Flat) (input words words' : List ℕ) (views : List Knows) (v w : Knows) : Type 0 where
  pub live : w.live ≡ v.live
  pub number : w.number ≡ v.number
  pub fits : w.live ≡ true → ViewFits net input words' w
  pub won : (leaf : ℕ) → claim_bit net words' leaf + wins leaf v ≡ claim_bit net words leaf + wins leaf w
  pub held : (leaf from k : ℕ) → v.hand ≡ Claimed leaf from → from ≤ k → k < tells_count net leaf → Left net words' w leaf k
  pub fresh : (leaf k : ℕ) → claim_bit net words' leaf ≡ 1 → claim_bit net words leaf ≡ 0 → k < tells_count net leaf → Left net words' w leaf k
  pub count : count_of net words' + how_many v ≡ count_of net words + how_many w
  pub flying : flying_of net words' + holding v ≡ flying_of net words + holding w
  pub said_once : (p : ℕ × ℕ) → total (said p) views + said p w ≤ 1 + said p v
  pub said_own : (p : ℕ × ℕ) → said p w ≢ said p v → p.0 ≡ v.number
  pub range : (p : ℕ × ℕ) → StandsIn p w.announced → IsPair net p
  pub won_said : (p : ℕ × ℕ) → StandsIn p w.won → StandsIn p w.announced
  -- tokens are left of the leaf in hand only where it is claimed now, or there were before
  pub left : (leaf from : ℕ) → w.hand ≡ Claimed leaf from → from < tells_count net leaf → (claim_bit net words leaf ≡ 0) ⊎ ((before : ℕ) × (v.hand ≡ Claimed leaf before) × (before ≤ from))
  pub busy : holding w ≤ how_many w
  pub spare : (n : ℕ) → StandsIn n w.spare → StandsIn n v.spare

-- a claimed leaf in hand is claimed
claimed_bit : (net : Flat) (input words : List ℕ) (views : List Knows) → Kept net input words views → (j leaf from : ℕ) (u : Knows) → get_elem? views j ≡ some u → u.hand ≡ Claimed leaf from → claim_bit net words leaf ≡ 1
claimed_bit net input words views h j leaf from u at hand = go u.live refl
  where
    go : (b : Bool) → u.live ≡ b → claim_bit net words leaf ≡ 1
    go true e = ((h.fits j u at e).claimed leaf from hand).0
    go false e = absurd (let empty = h.idle j u at e in cc)

pub moves : (net : Flat) (input words words' : List ℕ) (views : List Knows) (seat : ℕ) (v w : Knows) → TellsWords net → Kept net input words views → get_elem? views seat ≡ some v → v.live ≡ true
    → Steps net words words'
    → ((m : Notes) → MarkFits net input words m → MarkFits net input words' m)
    → Turns net input words words' views v w
    → Kept net input words' (set views seat w)
moves net input words words' views seat v w whole h at live s marks t =
    let others : (j : ℕ) (u : Knows) → get_elem? (set views seat w) j ≡ some u → ((j ≡ seat) × (w ≡ u)) ⊎ ((j ≢ seat) × (get_elem? views j ≡ some u)) = λ j u e. at_set views seat j w u e in
    -- whoever else has tokens left of the leaf in hand
    let alone : (j leaf from to : ℕ) (u : Knows) → get_elem? views j ≡ some u → w.hand ≡ Claimed leaf from → u.hand ≡ Claimed leaf to → from < tells_count net leaf → to < tells_count net leaf → seat ≡ j = λ j leaf from to u e mine its la lb.
    ⊎_elim
    (λ (none : claim_bit net words leaf ≡ 0). absurd (let bit = claimed_bit net input words views h j leaf to u e its in omega arith))
    (λ (o : (before : ℕ) × (v.hand ≡ Claimed leaf before) × (before ≤ from)). h.one_left seat j leaf o.0 to v u at e o.1 its (let le = o.2 in omega arith) lb)
    (t.left leaf from mine la) in
    let was : (j : ℕ) (u : Knows) → get_elem? (set views seat w) j ≡ some u → (o : Knows) × (get_elem? views j ≡ some o) × ((n : ℕ) → StandsIn n u.spare → StandsIn n o.spare) = λ j u e. ⊎_elim
    (λ (y : (j ≡ seat) × (w ≡ u)). (v, ap (get_elem? views) y.0 ∙ at, λ n i. t.spare n (subst (λ (z : Knows). StandsIn n z.spare) (sym y.1) i)))
    (λ (y : (j ≢ seat) × (get_elem? views j ≡ some u)). (u, y.1, λ n i. i)) (others j u e) in
    record {
      wide = omega (arith, h.wide, s.long);
      phase = omega (arith, h.phase, s.top);
      above = λ x inside. Lies_trans (how_of net x) (get_or input x 0) (get_or words x 0) (get_or words' x 0) (h.above x inside) (s.grows x inside);
      fits = λ j u e alive. ⊎_elim (λ (y : (j ≡ seat) × (w ≡ u)). subst (ViewFits net input words') y.1 (t.fits (ap (λ (z : Knows). z.live) y.1 ∙ alive)))
          (λ (y : (j ≢ seat) × (get_elem? views j ≡ some u)). let f : ViewFits net input words u = h.fits j u y.1 alive in record {
            numbered = f.numbered;
            seen = f.seen;
            held = f.held;
            below = λ x inside. Lies_trans (how_of net x) (get_or u.seen.words x 0) (get_or words x 0) (get_or words' x 0) (f.below x inside) (s.grows x inside);
            known = omega (arith, f.known, s.phase);
            announced = f.announced;
            claimed = λ leaf k e'. (s.bits leaf (f.claimed leaf k e').0, (f.claimed leaf k e').1);
            mark = λ m e'. marks m (f.mark m e');
          }) (others j u e);
      won_once = λ leaf. omega (arith, total-set (wins leaf) views seat v w at, h.won_once leaf, t.won leaf);
      posted = λ leaf k bit within. dite (ℕ_discrete (claim_bit net words leaf) 1)
          (λ was. ⊎_elim (λ (y : Entails net words (word_and_bits net leaf k)). inl (entails_on net words words' (word_and_bits net leaf k) (whole.tells leaf k within) s.grows y))
          (λ (p : Pending views leaf k). dite (ℕ_discrete p.0 seat)
          (λ e. let me : p.1 ≡ v = some-injective p.1 v (sym p.3 ∙ ap (get_elem? views) e ∙ at) in left_in net words' views seat v w leaf k at (t.held leaf p.2 k (ap (λ (y : Knows). y.hand) (sym me) ∙ p.4) p.5 within))
          (λ n. inr (p.0, p.1, p.2, set_else views seat p.0 w n ∙ p.3, p.4, p.5))) (h.posted leaf k was within))
          (λ not_yet. left_in net words' views seat v w leaf k at (t.fresh leaf k bit (omega (arith, bit_at-lt (get_or words (claim_word net leaf) 0) (leaf % 64))) within));
      one_left = λ i j leaf from to a b ei ej ha hb la lb. ⊎_elim
          (λ (y : (i ≡ seat) × (w ≡ a)). ⊎_elim
          (λ (z : (j ≡ seat) × (w ≡ b)). y.0 ∙ sym z.0)
          (λ (z : (j ≢ seat) × (get_elem? views j ≡ some b)). absurd (z.0 (sym (alone j leaf from to b z.1 (ap (λ (x : Knows). x.hand) y.1 ∙ ha) hb la lb)))) (others j b ej))
          (λ (y : (i ≢ seat) × (get_elem? views i ≡ some a)). ⊎_elim
          (λ (z : (j ≡ seat) × (w ≡ b)). absurd (y.0 (sym (alone i leaf to from a y.1 (ap (λ (x : Knows). x.hand) z.1 ∙ hb) ha lb la))))
          (λ (z : (j ≢ seat) × (get_elem? views j ≡ some b)). h.one_left i j leaf from to a b y.1 z.1 ha hb la lb) (others j b ej))
          (others i a ei);
      count = omega (arith, total-set how_many views seat v w at, h.count, t.count);
      flying = omega (arith, total-set holding views seat v w at, h.flying, t.flying);
      said_once = λ p. omega (arith, total-set (said p) views seat v w at, t.said_once p);
      range = λ j u e. ⊎_elim (λ (y : (j ≡ seat) × (w ≡ u)). subst (λ (z : Knows). (p : ℕ × ℕ) → StandsIn p z.announced → IsPair net p) y.1 t.range) (λ (y : (j ≢ seat) × (get_elem? views j ≡ some u)). h.range j u y.1) (others j u e);
      won = λ j u e. ⊎_elim (λ (y : (j ≡ seat) × (w ≡ u)). subst (λ (z : Knows). (p : ℕ × ℕ) → StandsIn p z.won → StandsIn p z.announced) y.1 t.won_said) (λ (y : (j ≢ seat) × (get_elem? views j ≡ some u)). h.won j u y.1) (others j u e);
      idle = λ j u e dead. ⊎_elim (λ (y : (j ≡ seat) × (w ≡ u)). absurd (true≢false (sym live ∙ sym t.live ∙ ap (λ (z : Knows). z.live) y.1 ∙ dead))) (λ (y : (j ≢ seat) × (get_elem? views j ≡ some u)). h.idle j u y.1 dead) (others j u e);
      busy = λ j u e. ⊎_elim (λ (y : (j ≡ seat) × (w ≡ u)). subst (λ (z : Knows). holding z ≤ how_many z) y.1 t.busy) (λ (y : (j ≢ seat) × (get_elem? views j ≡ some u)). h.busy j u y.1) (others j u e);
      apart = λ i j a b ei ej la lb same.
          ⊎_elim
          (λ (y : (i ≡ seat) × (w ≡ a)). ⊎_elim
          (λ (z : (j ≡ seat) × (w ≡ b)). y.0 ∙ sym z.0)
          (λ (z : (j ≢ seat) × (get_elem? views j ≡ some b)). y.0 ∙ h.apart seat j v b at z.1 live lb (sym t.number ∙ ap (λ (q : Knows). q.number) y.1 ∙ same)) (others j b ej))
          (λ (y : (i ≢ seat) × (get_elem? views i ≡ some a)). ⊎_elim
          (λ (z : (j ≡ seat) × (w ≡ b)). h.apart i seat a v y.1 at la live (same ∙ ap (λ (q : Knows). q.number) (sym z.1) ∙ t.number) ∙ sym z.0)
          (λ (z : (j ≢ seat) × (get_elem? views j ≡ some b)). h.apart i j a b y.1 z.1 la lb same) (others j b ej))
          (others i a ei);
      own = λ i j a b ei la ej ne leaf.
          ⊎_elim
          (λ (y : (i ≡ seat) × (w ≡ a)). ⊎_elim
          (λ (z : (j ≡ seat) × (w ≡ b)). absurd (ne (z.0 ∙ sym y.0)))
          (λ (z : (j ≢ seat) × (get_elem? views j ≡ some b)). subst (λ (n : ℕ). said (n, leaf) b ≡ 0) (sym t.number ∙ ap (λ (q : Knows). q.number) y.1) (h.own seat j v b at live z.1 z.0 leaf)) (others j b ej))
          (λ (y : (i ≢ seat) × (get_elem? views i ≡ some a)). ⊎_elim
          (λ (z : (j ≡ seat) × (w ≡ b)). ap (said (a.number, leaf)) (sym z.1) ∙ dite (ℕ_discrete (said (a.number, leaf) w) (said (a.number, leaf) v))
          (λ e. e ∙ h.own i seat a v y.1 la at (λ q. y.0 (sym q)) leaf)
          (λ changed. absurd (y.0 (h.apart i seat a v y.1 at la live (t.said_own (a.number, leaf) changed)))))
          (λ (z : (j ≢ seat) × (get_elem? views j ≡ some b)). h.own i j a b y.1 la z.1 ne leaf) (others j b ej))
          (others i a ei);
      spare_range = λ j n u e i. ⊎_elim (λ (y : (j ≡ seat) × (w ≡ u)). h.spare_range seat n v at (t.spare n (subst (λ (z : Knows). StandsIn n z.spare) (sym y.1) i))) (λ (y : (j ≢ seat) × (get_elem? views j ≡ some u)). h.spare_range j n u y.1 i) (others j u e);
      spare_once = λ i j n a b ei ej ia ib. let x = was i a ei in let y = was j b ej in h.spare_once i j n x.0 y.0 x.1 y.1 (x.2 n ia) (y.2 n ib);
      spare_free = λ i j n a b ei ej ia lb e. let x = was i a ei in ⊎_elim
          (λ (z : (j ≡ seat) × (w ≡ b)). h.spare_free i seat n x.0 v x.1 at (x.2 n ia) live (sym t.number ∙ ap (λ (q : Knows). q.number) z.1 ∙ e))
          (λ (z : (j ≢ seat) × (get_elem? views j ≡ some b)). h.spare_free i j n x.0 b x.1 z.1 (x.2 n ia) lb e) (others j b ej);
      spare_new = λ i j n a b ei ej ia leaf. let x = was i a ei in ⊎_elim
          (λ (z : (j ≡ seat) × (w ≡ b)). ap (said (n, leaf)) (sym z.1) ∙ dite (ℕ_discrete (said (n, leaf) w) (said (n, leaf) v))
          (λ e. e ∙ h.spare_new i seat n x.0 v x.1 at (x.2 n ia) leaf)
          (λ changed. absurd (h.spare_free i seat n x.0 v x.1 at (x.2 n ia) live (sym (t.said_own (n, leaf) changed)))))
          (λ (z : (j ≢ seat) × (get_elem? views j ≡ some b)). h.spare_new i j n x.0 b x.1 z.1 (x.2 n ia) leaf) (others j b ej);
    }

-- the same for what ties it to the output
pub record TurnsRight (net : Flat) (out words words' : List ℕ) (w : Knows) : Type 0 where
  pub below : IsWordsBelow net words' out
  pub fresh : (leaf : ℕ) → claim_bit net words' leaf ≡ 1 → claim_bit net words leaf ≡ 0 → Runs net out leaf
  pub hand : (leaf : ℕ) → w.hand ≡ Announced leaf → Runs net out leaf
  pub final : IsFinalUpto net out (phase_of net words') words
  pub done : (leaf j : ℕ) → Runs net out leaf → IsLow net (phase_of net words') leaf → j < tells_count net leaf → (claim_bit net words leaf ≡ 1) × Entails net words (word_and_bits net leaf j)
  pub settled : AreSettled net out w.seen

pub moves_right : (net : Flat) (out words words' : List ℕ) (views : List Knows) (seat : ℕ) (v w : Knows) → TellsWords net → Right net out words views → get_elem? views seat ≡ some v → Steps net words words' → TurnsRight net out words words' w → Right net out words' (set views seat w)
moves_right net out words words' views seat v w whole r at s t = record {
  below = t.below;
  runs = λ leaf bit. dite (ℕ_discrete (claim_bit net words leaf) 1) (λ was. r.runs leaf was) (λ not_yet. t.fresh leaf bit (omega (arith, bit_at-lt (get_or words (claim_word net leaf) 0) (leaf % 64))));
  hands = λ j leaf u e alive held. ⊎_elim (λ (y : (j ≡ seat) × (w ≡ u)). t.hand leaf (ap (λ (z : Knows). z.hand) y.1 ∙ held)) (λ (y : (j ≢ seat) × (get_elem? views j ≡ some u)). r.hands j leaf u y.1 alive held) (at_set views seat j w u e);
  final = λ q inside low. Lies_antisym (part_how net.cells q) (part_in net words' q) (part_in net out q) (parts_below net.cells words' out t.below q inside)
      (subst (λ (y : ℕ). Lies (part_how net.cells q) y (part_in net words' q)) (t.final q inside low) (parts_below net.cells words words' s.grows q inside));
  done = λ leaf j run low h. (s.bits leaf (t.done leaf j run low h).0, entails_on net words words' (word_and_bits net leaf j) (whole.tells leaf j h) s.grows (t.done leaf j run low h).1);
  settled = λ j u e alive. ⊎_elim (λ (y : (j ≡ seat) × (w ≡ u)). subst (λ (z : Knows). AreSettled net out z.seen) y.1 t.settled)
      (λ (y : (j ≢ seat) × (get_elem? views j ≡ some u)). r.settled j u y.1 alive) (at_set views seat j w u e);
}
