-- The steps that change no word: load, seek, count and phase.
use Rattle.std.proofs.Common.{◌≡◌, ◌≢◌, ◌⊎◌, ℕ, zero, suc, ◌+◌, ◌<◌, ◌≤◌, max, Bool, true, false, List, [], ◌∷◌, ◌++◌, length, set, get_or, Option, None, Some, refl, sym, ap, ◌∙◌, subst, inl, inr, ⊎_elim, arith, cond, eqb, ltb, eqb-true, eq-eqb, ne_eqb, lt-ltb, le-ltb, length-set, le_refl}
use mathlib.Core.Option.{some}
use lib.ListN.{get_elem?}
use Rattle.instant_net.specs.Nets.{Flat}
use Rattle.std.specs.Prelude.{IsTrue}
use Rattle.instant_net.specs.Seen.{is_set}
use Rattle.instant_net.specs.Words.{AreWords, Lies}
use Rattle.instant_core.specs.Net.{part_in, how_of, word_and_bits, width, Entails, IsWordsBelow, TellsWords, tells_count}
use Rattle.instant_core.specs.Layout.{claim_bit, count_of, flying_of, phase_of}
use Rattle.instant_core.specs.Lists.{total, StandsIn, of_leaf, pair_times}
use Rattle.instant_core.specs.Notes.{HasNote, no_notes, Notes, word_noted, leaf_noted, mark_at_rest, mark_counted, fresh_mark, confirmed, NotesWord, NotesLeaf}
use Rattle.instant_core.specs.Views.{Knows}
use Rattle.instant_core.specs.Effects.{loaded, sought, counted, phase_seen}
use Rattle.instant_core.specs.Invariant.{leaf_in, AreSettled, in_hand, holding, MarkFits, ViewFits, Pending, Kept, Right, Instant}
use Rattle.instant_core.proofs.Order.{Lies_refl}
use Rattle.instant_core.proofs.SeenWords.{seen_wide, sees_below, taken_of, takes_settled}
use Rattle.instant_core.specs.declared.hand.Hand.{Hand}
use Rattle.instant_core.proofs.Sums.{term_le}
use Rattle.instant_core.proofs.Noting.{note_set, none_noted, newer_note}
use Rattle.instant_core.proofs.Moves.{Steps, Turns, TurnsRight, moves, moves_right}

pub still : (net : Flat) (words : List ℕ) → Steps net words words
still net words = record { long = refl; grows = λ x _. Lies_refl (how_of net x) (get_or words x 0); bits = λ leaf b. b; phase = le_refl (phase_of net words); top = omega arith }

-- the leaf in hand and the pairs stay
pub same_hand : (net : Flat) (input words : List ℕ) (views : List Knows) (seat : ℕ) (v w : Knows) → Kept net input words views → get_elem? views seat ≡ some v
    → w.live ≡ v.live → w.number ≡ v.number → w.hand ≡ v.hand → w.announced ≡ v.announced → w.won ≡ v.won → ((n : ℕ) → StandsIn n w.spare → StandsIn n v.spare) → (w.live ≡ true → ViewFits net input words w) → Turns net input words words views v w
same_hand net input words views seat v w h at live number hand pairs won spare fits = record {
  spare = spare;
  live = live;
  number = number;
  fits = fits;
  won = λ leaf. ap (λ (y : List (ℕ × ℕ)). claim_bit net words leaf + total (of_leaf leaf) y) (sym won);
  held = λ leaf from k e le _. inr (from, hand ∙ e, le);
  fresh = λ leaf k a b _. absurd (omega arith);
  count = ap (λ (y : List (ℕ × ℕ)). count_of net words + length y) (sym pairs);
  flying = ap (λ (y : Hand). flying_of net words + in_hand y) (sym hand);
  said_once = λ p. omega (arith, h.said_once p, ap (pair_times p) pairs);
  said_own = λ p n. absurd (n (ap (pair_times p) pairs));
  range = λ p i. h.range seat v at p (subst (StandsIn p) pairs i);
  won_said = λ p i. subst (StandsIn p) (sym pairs) (h.won seat v at p (subst (StandsIn p) won i));
  left = λ leaf from e _. inr (from, sym hand ∙ e, le_refl from);
  busy = omega (arith, ap (λ (y : Hand). in_hand y) hand, ap (λ (y : List (ℕ × ℕ)). length y) pairs, h.busy seat v at);
}

pub same_right : (net : Flat) (out words : List ℕ) (views : List Knows) (seat : ℕ) (v w : Knows) → Right net out words views → get_elem? views seat ≡ some v → v.live ≡ true → w.hand ≡ v.hand → AreSettled net out w.seen → TurnsRight net out words words w
same_right net out words views seat v w r at live hand settled = record {
  below = r.below;
  fresh = λ leaf a b. absurd (omega arith);
  hand = λ leaf e. r.hands seat leaf v at live (sym hand ∙ e);
  final = r.final;
  done = r.done;
  settled = settled;
}

some_is : (m n : Notes) → Some m ≡ Some n → m ≡ n
some_is m n e = cc

-- ---- load
word_mark : (net : Flat) (input words : List ℕ) (i : ℕ) (mk : Option Notes) → i < width net → ((m : Notes) → mk ≡ Some m → MarkFits net input words m) → (m : Notes) → word_noted i (get_or words i 0) mk ≡ Some m → MarkFits net input words m
word_mark net input words i None inside f m e = absurd (cc)
word_mark net input words i (Some o) inside f m e =
    let x : ℕ = get_or words i 0 in
    let old : MarkFits net input words o = f o refl in
    let n : Notes = record o { open_words = set o.open_words i (Some x) } in
    let either_way : (word y : ℕ) → NotesWord n word y → NotesWord o word y ⊎ ((i, x) ≡ (word, y)) = λ word y w. ⊎_elim (λ t. ⊎_elim (λ a. inl (inl a)) inr (note_set o.open_words (i, x) (word, y) t)) (λ t. inl (inr t)) w in
    subst (MarkFits net input words) (some_is n m e) (record {
      old = old.old;
      rest = old.rest;
      word_now = λ q word y w. ⊎_elim (λ t. old.word_now q word y t) (λ t. ap (λ (z : ℕ × ℕ). z.1) (sym t) ∙ ap (λ (z : ℕ × ℕ). get_or words z.0 0) t) (either_way word y w);
      leaf_now = old.leaf_now;
      word_below = λ word y w. ⊎_elim (old.word_below word y) (λ t. subst (λ (z : ℕ × ℕ). Lies (how_of net z.0) z.1 (get_or words z.0 0)) t (Lies_refl (how_of net i) x)) (either_way word y w);
      leaf_set = old.leaf_set;
      within = λ word y w. ⊎_elim (old.within word y) (λ t. subst (λ (z : ℕ × ℕ). z.0 < width net) t inside) (either_way word y w);
      above = old.above;
      posted = old.posted;
      told = old.told;
    })

pub loads : (net : Flat) (input words : List ℕ) (views : List Knows) (seat i : ℕ) (v : Knows) → TellsWords net → i < width net → v.live ≡ true → Instant net input words views → get_elem? views seat ≡ some v
    → Instant net input words (set views seat (loaded net i (get_or words i 0) v))
loads net input words views seat i v whole inside live h at =
    let w : Knows = loaded net i (get_or words i 0) v in
    let f : ViewFits net input words v = h.kept.fits seat v at live in
    record {
      kept = moves net input words words views seat v w whole h.kept at live (still net words) (λ m y. y) (same_hand net input words views seat v w h.kept at refl refl refl refl refl (λ n i. i) (λ _. record {
        numbered = f.numbered;
        seen = taken_of net i (get_or words i 0) true v.seen inside f.seen;
        held = f.held;
        below = sees_below net v.seen.words words i (get_or words i 0) (seen_wide net v.seen f.seen) f.below (Lies_refl (how_of net i) (get_or words i 0));
        known = f.known;
        announced = f.announced;
        claimed = f.claimed;
        mark = word_mark net input words i v.mark inside f.mark;
      }));
      right = λ out is. let r = h.right out is in moves_right net out words words views seat v w whole r at (still net words) (same_right net out words views seat v w r at live refl
          (takes_settled net out words (phase_of net words) r.final i true v.seen inside f.seen f.below f.known (r.settled seat v at live)));
    }

-- ---- seek
leaf_mark : (net : Flat) (input words : List ℕ) (leaf : ℕ) (mk : Option Notes) → ((m : Notes) → mk ≡ Some m → MarkFits net input words m) → (m : Notes) → leaf_noted leaf (claim_bit net words leaf) mk ≡ Some m → MarkFits net input words m
leaf_mark net input words leaf None f m e = absurd (cc)
leaf_mark net input words leaf (Some o) f m e =
    let x : ℕ = claim_bit net words leaf in
    let old : MarkFits net input words o = f o refl in
    let n : Notes = record o { open_leaves = set o.open_leaves leaf (Some x) } in
    let either_way : (l b : ℕ) → NotesLeaf n l b → NotesLeaf o l b ⊎ ((leaf, x) ≡ (l, b)) = λ l b w. ⊎_elim (λ t. ⊎_elim (λ a. inl (inl a)) inr (note_set o.open_leaves (leaf, x) (l, b) t)) (λ t. inl (inr t)) w in
    subst (MarkFits net input words) (some_is n m e) (record {
      old = old.old;
      rest = old.rest;
      word_now = old.word_now;
      leaf_now = λ q l b w. ⊎_elim (λ t. old.leaf_now q l b t) (λ t. ap (λ (z : ℕ × ℕ). z.1) (sym t) ∙ ap (λ (z : ℕ × ℕ). claim_bit net words z.0) t) (either_way l b w);
      word_below = old.word_below;
      leaf_set = λ l w. ⊎_elim (old.leaf_set l) (λ t. ap (λ (z : ℕ × ℕ). claim_bit net words z.0) (sym t) ∙ ap (λ (z : ℕ × ℕ). z.1) t) (either_way l 1 w);
      within = old.within;
      above = old.above;
      posted = old.posted;
      told = old.told;
    })

-- a step that changes the mark alone, or what is counted
pub marked : (net : Flat) (input words : List ℕ) (views : List Knows) (seat : ℕ) (v w : Knows) → TellsWords net → v.live ≡ true → Instant net input words views → get_elem? views seat ≡ some v
    → w.live ≡ v.live → w.number ≡ v.number → w.hand ≡ v.hand → w.announced ≡ v.announced → w.won ≡ v.won → ((n : ℕ) → StandsIn n w.spare → StandsIn n v.spare) → w.seen.words ≡ v.seen.words → w.seen.settled ≡ v.seen.settled → v.seen.known ≤ w.seen.known → w.seen.known ≤ phase_of net words → ((m : Notes) → w.mark ≡ Some m → MarkFits net input words m)
    → Instant net input words (set views seat w)
marked net input words views seat v w whole live h at a b c d e fewer seen settled more known mark =
    let f : ViewFits net input words v = h.kept.fits seat v at live in
    record {
      kept = moves net input words words views seat v w whole h.kept at live (still net words) (λ m y. y) (same_hand net input words views seat v w h.kept at a b c d e fewer (λ _. record {
        numbered = subst (λ (y : ℕ). y < 64) (sym b) f.numbered;
        seen = record { words = subst (AreWords net.cells) (sym seen) f.seen.words; settled = ap length settled ∙ f.seen.settled };
        held = λ leaf q. subst (λ (y : ℕ). StandsIn (y, leaf) w.announced) (sym b) (subst (StandsIn (v.number, leaf)) (sym d) (f.held leaf (ap (λ (y : Hand). leaf_in y) (sym c) ∙ q)));
        below = subst (λ (y : List ℕ). IsWordsBelow net y words) (sym seen) f.below;
        known = known;
        announced = λ leaf q. f.announced leaf (sym c ∙ q);
        claimed = λ leaf k q. f.claimed leaf k (sym c ∙ q);
        mark = mark;
      }));
      right = λ out is. let r = h.right out is in moves_right net out words words views seat v w whole r at (still net words) (same_right net out words views seat v w r at live c (λ q s.
          let t = r.settled seat v at live q (subst (λ (y : List Bool). IsTrue (is_set y q)) settled s) in (t.0, (let o = t.1 in omega arith), ap (λ (y : List ℕ). part_in net y q) seen ∙ t.2)));
    }

pub seeks : (net : Flat) (input words : List ℕ) (views : List Knows) (seat leaf : ℕ) (v : Knows) → TellsWords net → v.live ≡ true → Instant net input words views → get_elem? views seat ≡ some v
    → Instant net input words (set views seat (sought leaf (claim_bit net words leaf) v))
seeks net input words views seat leaf v whole live h at = let f : ViewFits net input words v = h.kept.fits seat v at live in
    marked net input words views seat v (sought leaf (claim_bit net words leaf) v) whole live h at refl refl refl refl refl (λ n i. i) refl refl (le_refl v.seen.known) f.known (leaf_mark net input words leaf v.mark f.mark)

-- ---- phase
pub looks : (net : Flat) (input words : List ℕ) (views : List Knows) (seat : ℕ) (v : Knows) → TellsWords net → v.live ≡ true → Instant net input words views → get_elem? views seat ≡ some v
    → Instant net input words (set views seat (phase_seen (phase_of net words) v))
looks net input words views seat v whole live h at = let f : ViewFits net input words v = h.kept.fits seat v at live in
    marked net input words views seat v (phase_seen (phase_of net words) v) whole live h at refl refl refl refl refl (λ n i. i) refl refl (omega arith) (omega (arith, f.known)) f.mark

-- ---- count
-- where nothing is in flight, every claimed leaf is posted
all_posted : (net : Flat) (input words : List ℕ) (views : List Knows) → Kept net input words views → flying_of net words ≡ 0 → (leaf j : ℕ) → claim_bit net words leaf ≡ 1 → j < tells_count net leaf → Entails net words (word_and_bits net leaf j)
all_posted net input words views h none leaf j bit within = ⊎_elim (λ y. y)
    (λ (p : Pending views leaf j). absurd (let one : in_hand p.1.hand ≡ 1 = ap in_hand p.4 in omega (arith, term_le holding views p.0 p.1 p.3, h.flying))) (h.posted leaf j bit within)

rest_mark : (net : Flat) (input words : List ℕ) (views : List Knows) (mk : Option Notes) → Kept net input words views → flying_of net words ≡ 0 → ((m : Notes) → mk ≡ Some m → MarkFits net input words m) → (m : Notes) → mark_at_rest net (count_of net words) mk ≡ Some m → MarkFits net input words m
rest_mark net input words views mk h none f m e = go mk f e
  where
    no_word : (word x : ℕ) → HasNote (no_notes (width net)) word x ⊎ HasNote (no_notes (width net)) word x → ⊥
    no_word word x w = ⊎_elim (none_noted (width net) word x) (none_noted (width net) word x) w

    no_leaf : (leaf x : ℕ) → HasNote (no_notes (length net.leaves)) leaf x ⊎ HasNote (no_notes (length net.leaves)) leaf x → ⊥
    no_leaf leaf x w = ⊎_elim (none_noted (length net.leaves) leaf x) (none_noted (length net.leaves) leaf x) w

    new : (n : Notes) → fresh_mark net (count_of net words) ≡ Some n → MarkFits net input words n
    new n q = subst (MarkFits net input words) (some_is _ n q) (record {
      old = le_refl (count_of net words);
      rest = λ _. none;
      word_now = λ _ word x w. absurd (no_word word x w);
      leaf_now = λ _ leaf x w. absurd (no_leaf leaf x w);
      word_below = λ word x w. absurd (no_word word x w);
      leaf_set = λ leaf w. absurd (no_leaf leaf 1 w);
      within = λ word x w. absurd (no_word word x w);
      above = λ word x w. absurd (no_word word x (inr w));
      posted = λ leaf j w _. absurd (no_leaf leaf 1 (inr w));
      told = λ leaf j x w _ _. absurd (no_leaf leaf 1 (inr w));
    })

    sure : (o : Notes) → MarkFits net input words o → o.count ≡ count_of net words → MarkFits net input words (confirmed o)
    sure o y same =
        let word_of : (word x : ℕ) → NotesWord (confirmed o) word x → NotesWord o word x = λ word x w. ⊎_elim (λ z. absurd (none_noted (length o.open_words) word x z)) (λ z. ⊎_elim inr inl (newer_note o.words o.open_words word x z)) w in
        let leaf_of' : (leaf b : ℕ) → NotesLeaf (confirmed o) leaf b → NotesLeaf o leaf b = λ leaf b w. ⊎_elim (λ z. absurd (none_noted (length o.open_leaves) leaf b z)) (λ z. ⊎_elim inr inl (newer_note o.leaves o.open_leaves leaf b z)) w in
        record {
          old = y.old;
          rest = y.rest;
          word_now = λ q word x w. y.word_now q word x (word_of word x w);
          leaf_now = λ q leaf b w. y.leaf_now q leaf b (leaf_of' leaf b w);
          word_below = λ word x w. y.word_below word x (word_of word x w);
          leaf_set = λ leaf w. y.leaf_set leaf (leaf_of' leaf 1 w);
          within = λ word x w. y.within word x (word_of word x w);
          above = λ word x w. subst (Lies (how_of net word) (get_or input word 0)) (sym (y.word_now same word x (word_of word x (inr w)))) (h.above word (y.within word x (word_of word x (inr w))));
          posted = λ leaf j w within. all_posted net input words views h none leaf j (y.leaf_set leaf (leaf_of' leaf 1 (inr w))) within;
          told = λ leaf j x w within n. subst (Lies (how_of net (word_and_bits net leaf j).0) (word_and_bits net leaf j).1) (sym (y.word_now same (word_and_bits net leaf j).0 x (word_of (word_and_bits net leaf j).0 x (inr n)))) (all_posted net input words views h none leaf j (y.leaf_set leaf (leaf_of' leaf 1 (inr w))) within);
        }

    again : (o : Notes) (b : Bool) → MarkFits net input words o → eqb o.count (count_of net words) ≡ b → cond b (Some (confirmed o)) (fresh_mark net (count_of net words)) ≡ Some m → MarkFits net input words m
    again o true y is q = subst (MarkFits net input words) (some_is _ m q) (sure o y (eqb-true o.count (count_of net words) is))
    again o false y is q = new m q

    go : (k : Option Notes) → ((n : Notes) → k ≡ Some n → MarkFits net input words n) → mark_at_rest net (count_of net words) k ≡ Some m → MarkFits net input words m
    go None g q = new m q
    go (Some o) g q = again o (eqb o.count (count_of net words)) (g o refl) refl q

count_mark : (net : Flat) (input words : List ℕ) (views : List Knows) (mk : Option Notes) (flying : ℕ) → Kept net input words views → flying_of net words ≡ flying → ((m : Notes) → mk ≡ Some m → MarkFits net input words m) → (m : Notes) → mark_counted net (count_of net words) flying mk ≡ Some m → MarkFits net input words m
count_mark net input words views mk zero h is f m e = rest_mark net input words views mk h is f m e
count_mark net input words views mk (suc _) h is f m e = absurd (cc)

pub counts : (net : Flat) (input words : List ℕ) (views : List Knows) (seat : ℕ) (v : Knows) → TellsWords net → v.live ≡ true → Instant net input words views → get_elem? views seat ≡ some v
    → Instant net input words (set views seat (counted net (count_of net words) (flying_of net words) v))
counts net input words views seat v whole live h at = let f : ViewFits net input words v = h.kept.fits seat v at live in
    marked net input words views seat v (counted net (count_of net words) (flying_of net words) v) whole live h at refl refl refl refl refl (λ n i. i) refl refl (le_refl v.seen.known) f.known (count_mark net input words views v.mark (flying_of net words) h.kept refl f.mark)
