-- What a view sees after it took a word, and what two views see that are joined.
use Rattle.std.proofs.Common.{◌≡◌, ◌≢◌, ◌⊎◌, inl, inr, ⊎_elim, ℕ, zero, suc, ◌+◌, ◌<◌, ◌≤◌, Bool, true, false, ◌&&◌, ◌||◌, List, [], ◌∷◌, length, get_or, refl, sym, ap, ◌∙◌, subst, arith, get_or-set_same, get_or-set_other, nat_lt}
use Rattle.std.specs.Prelude.{slice_index, nat_eq, IsTrue}
use Rattle.std.proofs.lemmas.Bool.Decides.{nat_tests}
use Rattle.std.proofs.lemmas.List.FromFn.{length-map-range_with_len, get_or-map-range_with_len}
use mathlib.Core.Logic.{dite}
use native.Mathlib.Decide.{ℕ_discrete}
use Rattle.token_system.proofs.Alike.{true_false}
use Rattle.agent_core.proofs.Bools.{first_of_both, second_of_both}
use Rattle.instant_net.specs.declared.parts.NetCell.{NetCell}
use Rattle.instant_net.specs.Nets.{Flat}
use Rattle.instant_net.specs.PartLists.{parts, part_how, part_stratum}
use Rattle.instant_net.specs.Seen.{SeenView, IsSeenOf, is_set, is_in_word, rests_in_word, settle, taken, merged, join_words, join_flags}
use Rattle.instant_net.specs.WordParts.{word_of, part_of}
use Rattle.instant_net.specs.Words.{lub, Lies, AreWords, empty_words, hows, signals, tell_word, told_to}
use Rattle.instant_net.proofs.PartTells.{part_lub}
use Rattle.instant_net.proofs.SeenViews.{told_words, settle-long, join-long}
use Rattle.instant_net.proofs.WordPlaces.{as_many}
use Rattle.net_laws.specs.Laws.{IsFinalUpto}
use Rattle.net_laws.proofs.PartPlaces.{word_there, part_joins}
use Rattle.net_laws.proofs.RisingWords.{parts_below}
use Rattle.instant_core.specs.Net.{how_of, part_in, width, IsWordsBelow}
use Rattle.instant_core.specs.Invariant.{AreSettled}
use Rattle.instant_core.proofs.Order.{lub_twice, lub_comm, Lies_both, Lies_trans, Lies_left}

-- so many words are seen
pub seen_wide : (net : Flat) (s : SeenView) → IsSeenOf net s → length s.words ≡ width net
seen_wide net s is = is.words.long ∙ as_many net.cells

-- ONE WORD

abbrev pub takes_word : Flat → ℕ → ℕ → List ℕ → List ℕ
takes_word net word found seen = tell_word seen (told_to word (how_of net word) found)

-- what a view sees after it took a word that lies below `over`
pub sees_below : (net : Flat) (seen over : List ℕ) (i found : ℕ) → length seen ≡ width net → IsWordsBelow net seen over → Lies (how_of net i) found (get_or over i 0) → IsWordsBelow net (takes_word net i found seen) over
sees_below net seen over i found wide h new x inside = dite (ℕ_discrete x i)
    (λ e. let p : get_or (takes_word net i found seen) x 0 ≡ lub (how_of net i) (get_or seen i 0) found = ap (λ (y : ℕ). get_or (takes_word net i found seen) y 0) e ∙ get_or-set_same seen i (lub (how_of net i) (get_or seen i 0) found) 0 (omega arith) in
    subst (λ (y : ℕ). Lies (how_of net x) y (get_or over x 0)) (sym p) (subst (λ (y : ℕ). Lies (how_of net y) (lub (how_of net i) (get_or seen i 0) found) (get_or over y 0)) (sym e) (Lies_both (how_of net i) (get_or seen i 0) found (get_or over i 0) (h i (omega arith)) new)))
    (λ n. subst (λ (y : ℕ). Lies (how_of net x) y (get_or over x 0)) (sym (get_or-set_other seen i x (lub (how_of net i) (get_or seen i 0) found) 0 n)) (h x inside))

pub taken_of : (net : Flat) (i found : ℕ) (loaded : Bool) (s : SeenView) → i < width net → IsSeenOf net s → IsSeenOf net (taken net i found loaded s)
taken_of net i found true s inside is = record { words = told_words net.cells s.words is.words i found (how_of net i) inside refl; settled = settle-long net.cells s.known i s.settled ∙ is.settled }
taken_of net i found false s inside is = record { words = told_words net.cells s.words is.words i found (how_of net i) inside refl; settled = is.settled }

-- each part of the word is joined with that of the content
takes_part : (net : Flat) (seen : List ℕ) (i found q : ℕ) → i < length seen → word_of (signals net.cells) q ≡ i
    → part_in net (takes_word net i found seen) q ≡ lub (part_how net.cells q) (part_in net seen q) (part_of (signals net.cells) q found)
takes_part net seen i found q inside e =
    let s : ℕ = signals net.cells in
    let w : ℕ = word_of s q in
    let there : slice_index (takes_word net i found seen) w ≡ lub (how_of net w) (slice_index seen w) found =
    ap (slice_index (takes_word net i found seen)) e ∙ get_or-set_same seen i (lub (how_of net i) (slice_index seen i) found) 0 inside
    ∙ ap (λ (y : ℕ). lub (how_of net y) (slice_index seen y) found) (sym e) in
    ap (part_of s q) there ∙ part_lub s q (part_how net.cells q) (slice_index seen w) found (part_joins net.cells q)

takes_else : (net : Flat) (seen : List ℕ) (i found q : ℕ) → word_of (signals net.cells) q ≢ i → part_in net (takes_word net i found seen) q ≡ part_in net seen q
takes_else net seen i found q n = ap (part_of (signals net.cells) q) (get_or-set_other seen i (word_of (signals net.cells) q) (lub (how_of net i) (slice_index seen i) found) 0 n)

-- a part stays as it is where what was found is the output's
sees_same : (net : Flat) (seen out : List ℕ) (i found q : ℕ) → i < length seen → part_in net seen q ≡ part_in net out q → (word_of (signals net.cells) q ≡ i → part_of (signals net.cells) q found ≡ part_in net out q)
    → part_in net (takes_word net i found seen) q ≡ part_in net out q
sees_same net seen out i found q inside was new = dite (ℕ_discrete (word_of (signals net.cells) q) i)
    (λ e. takes_part net seen i found q inside e ∙ ap (λ (y : ℕ). lub (part_how net.cells q) y (part_of (signals net.cells) q found)) was ∙ ap (lub (part_how net.cells q) (part_in net out q)) (new e) ∙ lub_twice (part_how net.cells q) (part_in net out q))
    (λ n. takes_else net seen i found q n ∙ was)

-- FLAGS

pub set_within : (flags : List Bool) (q : ℕ) → IsTrue (is_set flags q) → q < length flags
set_within [] q h = absurd (true_false (sym h))
set_within (f ∷ flags) zero h = omega arith
set_within (f ∷ flags) (suc q) h = let r = set_within flags q h in omega arith

either_true : (a b : Bool) → IsTrue (a || b) → IsTrue a ⊎ IsTrue b
either_true true b h = inl refl
either_true false b h = inr h

rests_is : (cells : List NetCell) (phase word q : ℕ) → IsTrue (rests_in_word cells phase word q) → (word_of (signals cells) q ≡ word) × (part_stratum cells q < phase)
rests_is cells phase word q h =
    let a : IsTrue (nat_eq (word_of (signals cells) q) word) = first_of_both (is_in_word cells word q) (nat_lt (part_stratum cells q) phase) h in
    let b : IsTrue (nat_lt (part_stratum cells q) phase) = second_of_both (is_in_word cells word q) (nat_lt (part_stratum cells q) phase) h in
    (grind (arith, nat_tests), grind (arith, nat_tests))

settled_cases : (cells : List NetCell) (phase word : ℕ) (flags : List Bool) (q : ℕ) → IsTrue (is_set (settle cells phase word flags) q)
    → IsTrue (is_set flags q) ⊎ ((q < length flags) × (word_of (signals cells) q ≡ word) × (part_stratum cells q < phase))
settled_cases cells phase word flags q h =
    let long = settle-long cells phase word flags in
    let inside : q < length flags = let w = set_within (settle cells phase word flags) q h in omega arith in
    let same : is_set (settle cells phase word flags) q ≡ (is_set flags q || rests_in_word cells phase word q) = get_or-map-range_with_len (λ k. is_set flags k || rests_in_word cells phase word k) 0 (length flags) q q false inside (omega arith) in
    ⊎_elim inl (λ t. let r = rests_is cells phase word q t in inr (inside, r.0, r.1)) (either_true (is_set flags q) (rests_in_word cells phase word q) (sym same ∙ h))

joined_cases : (f g : List Bool) (q : ℕ) → IsTrue (is_set (join_flags f g) q) → IsTrue (is_set f q) ⊎ IsTrue (is_set g q)
joined_cases f g q h =
    let long = join-long f g in
    let inside : q < length f = let w = set_within (join_flags f g) q h in omega arith in
    let same : is_set (join_flags f g) q ≡ (is_set f q || is_set g q) = get_or-map-range_with_len (λ k. is_set f k || is_set g k) 0 (length f) q q false inside (omega arith) in
    either_true (is_set f q) (is_set g q) (sym same ∙ h)

pub none_settled : (n q : ℕ) → IsTrue (is_set (Rattle.std.specs.Prelude.replicate n false) q) → ⊥
none_settled zero q h = true_false (sym h)
none_settled (suc n) zero h = true_false (sym h)
none_settled (suc n) (suc q) h = none_settled n q h

-- SETTLED PARTS

module _ (net : Flat) (out words : List ℕ) (phase : ℕ) (final : IsFinalUpto net out phase words) where
  -- what is settled stays so after a view took a word as it stands, and so is what it settles by that
  pub takes_settled : (i : ℕ) (loaded : Bool) (s : SeenView) → i < width net → IsSeenOf net s → IsWordsBelow net s.words words → s.known ≤ phase → AreSettled net out s
      → AreSettled net out (taken net i (slice_index words i) loaded s)
  takes_settled i loaded s inside is below known old q h = go loaded h
    where
      lt : i < length s.words
      lt = let w = seen_wide net s is in omega arith

      part_final : q < parts net.cells → part_stratum net.cells q < s.known → part_in net words q ≡ part_in net out q
      part_final there small = final q there (omega arith)

      before : IsTrue (is_set s.settled q) → (q < parts net.cells) × (part_stratum net.cells q < s.known) × (part_in net (takes_word net i (slice_index words i) s.words) q ≡ part_in net out q)
      before t = let o = old q t in
          (o.0, o.1, sees_same net s.words out i (slice_index words i) q lt o.2 (λ e. ap (λ (y : ℕ). part_of (signals net.cells) q (slice_index words y)) (sym e) ∙ part_final o.0 o.1))

      go : (b : Bool) → IsTrue (is_set (taken net i (slice_index words i) b s).settled q) → (q < parts net.cells) × (part_stratum net.cells q < s.known) × (part_in net (takes_word net i (slice_index words i) s.words) q ≡ part_in net out q)
      go false t = before t
      go true t = ⊎_elim before (λ (n : (q < length s.settled) × (word_of (signals net.cells) q ≡ i) × (part_stratum net.cells q < s.known)).
          let there : q < parts net.cells = let a = n.0 in let b = is.settled in omega arith in (
            there,
            n.2,
            takes_part net s.words i (slice_index words i) q lt n.1
                ∙ ap (λ (y : ℕ). lub (part_how net.cells q) (part_in net s.words q) (part_of (signals net.cells) q (slice_index words y))) (sym n.1)
                ∙ parts_below net.cells s.words words below q there ∙ part_final there n.2,
          )) (settled_cases net.cells s.known i s.settled q t)

-- TWO VIEWS

pub joined-at : (net : Flat) (u w : List ℕ) (k : ℕ) → k < length u → slice_index (join_words (hows net.cells) u w) k ≡ lub (how_of net k) (slice_index u k) (slice_index w k)
joined-at net u w k inside = get_or-map-range_with_len (λ k. lub (how_of net k) (slice_index u k) (slice_index w k)) 0 (length u) k k 0 inside (omega arith)

pub joined_of : (net : Flat) (s o : SeenView) → IsSeenOf net s → IsSeenOf net (merged net s o)
joined_of net s o is = record {
  words = record {
    long = length-map-range_with_len (λ k. lub (how_of net k) (slice_index s.words k) (slice_index o.words k)) 0 (length s.words) ∙ is.words.long;
    above = λ k lt.
        let long = length-map-range_with_len (λ k. lub (how_of net k) (slice_index s.words k) (slice_index o.words k)) 0 (length s.words) in
        let inside : k < length s.words = omega arith in
        subst (λ (y : ℕ). Lies (how_of net k) (get_or (empty_words net.cells) k 0) y) (sym (joined-at net s.words o.words k inside))
        (Lies_trans (how_of net k) (get_or (empty_words net.cells) k 0) (slice_index s.words k) (lub (how_of net k) (slice_index s.words k) (slice_index o.words k)) (is.words.above k inside) (Lies_left (how_of net k) (slice_index s.words k) (slice_index o.words k)));
  };
  settled = join-long s.settled o.settled ∙ is.settled;
}

pub joined_below : (net : Flat) (u w over : List ℕ) → length u ≡ width net → IsWordsBelow net u over → IsWordsBelow net w over → IsWordsBelow net (join_words (hows net.cells) u w) over
joined_below net u w over wide a b k lt =
    subst (λ (y : ℕ). Lies (how_of net k) y (slice_index over k)) (sym (joined-at net u w k (omega arith))) (Lies_both (how_of net k) (slice_index u k) (slice_index w k) (slice_index over k) (a k lt) (b k lt))

pub joined_settled : (net : Flat) (out : List ℕ) (s o : SeenView) → IsSeenOf net s → IsWordsBelow net s.words out → IsWordsBelow net o.words out → AreSettled net out s → AreSettled net out o → AreSettled net out (merged net s o)
joined_settled net out s o is low_s low_o set_s set_o q h =
    ⊎_elim
    (λ t. let y = set_s q t in
    (y.0, (let m = y.1 in omega arith), part y.0 ∙ ap (λ (z : ℕ). lub (part_how net.cells q) z (part_in net o.words q)) y.2 ∙ lub_comm (part_how net.cells q) (part_in net out q) (part_in net o.words q) ∙ parts_below net.cells o.words out low_o q y.0))
    (λ t. let y = set_o q t in
    (y.0, (let m = y.1 in omega arith), part y.0 ∙ ap (lub (part_how net.cells q) (part_in net s.words q)) y.2 ∙ parts_below net.cells s.words out low_s q y.0))
    (joined_cases s.settled o.settled q h)
  where
    part : q < parts net.cells → part_in net (join_words (hows net.cells) s.words o.words) q ≡ lub (part_how net.cells q) (part_in net s.words q) (part_in net o.words q)
    part there =
        let w : ℕ = word_of (signals net.cells) q in
        let inside : w < length s.words = let a = word_there net.cells q there in let b = seen_wide net s is in omega arith in
        ap (part_of (signals net.cells) q) (joined-at net s.words o.words w inside)
        ∙ part_lub (signals net.cells) q (part_how net.cells q) (slice_index s.words w) (slice_index o.words w) (part_joins net.cells q)
