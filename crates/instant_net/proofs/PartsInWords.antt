-- How each word is told, and which parts stand in it.
use Rattle.std.proofs.Common.{◌≡◌, ◌≢◌, ◌⊎◌, inl, inr, ℕ, zero, suc, ◌+◌, ◌-◌, ◌*◌, ◌/◌, ◌%◌, ◌<◌, ◌≤◌, true, false, List, [], ◌∷◌, ◌++◌, length, get_or, refl, sym, ap, ◌∙◌, arith, length-append, get_or-append-add, min}
use Rattle.std.specs.Prelude.{nat_eq, replicate, slice_index_or, if◌then◌else◌}
use Rattle.std.proofs.lemmas.Bool.{cases_eq}
use Rattle.std.proofs.lemmas.Bool.Decides.{nat_tests}
use Rattle.std.proofs.lemmas.List.{length-replicate, get_or-replicate, get_or_append_left, get_or_past}
use Rattle.token_system.specs.declared.cell.Kind.{Kind}
use Rattle.token_system.specs.declared.cell.Kind.TheVariants.{Signal, Number}
use Rattle.instant_net.specs.declared.parts.NetCell.{NetCell}
use Rattle.instant_net.specs.declared.words.How.{How}
use Rattle.instant_net.specs.declared.words.How.TheVariants.{Or, Max, Min}
use Rattle.instant_net.specs.WordParts.{signal_words, word_of}
use Rattle.instant_net.specs.Words.{hows, own_hows, signals}
use Rattle.instant_net.specs.PartLists.{parts}
use Rattle.instant_net.specs.Seen.{is_in_word}
use Rattle.instant_net.proofs.PartOwners.{parts_count}
use Rattle.instant_net.proofs.PartTells.{signal_test, other_test, split}
use Rattle.instant_net.proofs.SeenFlags.{is_between}
use Rattle.instant_net.proofs.WordPlaces.{other_hows, hows_count}

-- HOW A WORD IS TOLD

abbrev pub sw : List NetCell → ℕ
sw cells = signal_words (signals cells)

long : (cells : List NetCell) → length (hows cells) ≡ sw cells + length (other_hows cells)
long cells = omega (arith, length-append (replicate (sw cells) Or) (other_hows cells), length-replicate (sw cells) Or)

pub signal_word_how : (cells : List NetCell) (word : ℕ) → word < sw cells → slice_index_or (hows cells) word Or ≡ Or
signal_word_how cells word h =
    let many = length-replicate (sw cells) Or in
    get_or_append_left (replicate (sw cells) Or) (other_hows cells) Or word (omega arith) ∙ get_or-replicate (sw cells) word Or Or h

pub past_word_how : (cells : List NetCell) (word : ℕ) → length (hows cells) ≤ word → slice_index_or (hows cells) word Or ≡ Or
past_word_how cells word h = get_or_past (hows cells) word Or h

-- the two words of each number are told in turn
abbrev in_turn : ℕ → How
in_turn zero = Max
in_turn (suc zero) = Min
in_turn (suc (suc i)) = in_turn i

others_in_turn : (cells : List NetCell) (i : ℕ) → i < length (other_hows cells) → get_or (other_hows cells) i Or ≡ in_turn i
others_in_turn [] i h = absurd (omega arith)
others_in_turn (c ∷ cells) i h = go (λ i h. others_in_turn cells i h) c.cell.kind i h
  where
    go : ((i : ℕ) → i < length (other_hows cells) → get_or (other_hows cells) i Or ≡ in_turn i) → (k : Kind) (i : ℕ) → i < length (own_hows k ++ other_hows cells) → get_or (own_hows k ++ other_hows cells) i Or ≡ in_turn i
    go more Signal i h = more i h
    go more Number zero h = refl
    go more Number (suc zero) h = refl
    go more Number (suc (suc i)) h = more i (omega arith)

even_in_turn : (i : ℕ) → i % 2 ≡ 0 → in_turn i ≡ Max
even_in_turn zero e = refl
even_in_turn (suc zero) e = absurd (omega arith)
even_in_turn (suc (suc i)) e = even_in_turn i (omega arith)

odd_in_turn : (i : ℕ) → i % 2 ≢ 0 → in_turn i ≡ Min
odd_in_turn zero n = absurd (n refl)
odd_in_turn (suc zero) n = refl
odd_in_turn (suc (suc i)) n = odd_in_turn i (λ e. n (omega arith))

module _ (cells : List NetCell) (word : ℕ) (low : sw cells ≤ word) (high : word < length (hows cells)) where
  word_in_turn : slice_index_or (hows cells) word Or ≡ in_turn (word - sw cells)
  word_in_turn =
      let all = long cells in
      let many = length-replicate (sw cells) Or in
      ap (λ n. get_or (hows cells) n Or) (let t : word ≡ length (replicate (sw cells) Or) + (word - sw cells) = omega arith in t)
      ∙ get_or-append-add (replicate (sw cells) Or) (other_hows cells) (word - sw cells) Or
      ∙ others_in_turn cells (word - sw cells) (omega arith)

  pub lower_word_how : (word - sw cells) % 2 ≡ 0 → slice_index_or (hows cells) word Or ≡ Max
  lower_word_how e = word_in_turn ∙ even_in_turn (word - sw cells) e

  pub upper_word_how : (word - sw cells) % 2 ≢ 0 → slice_index_or (hows cells) word Or ≡ Min
  upper_word_how n = word_in_turn ∙ odd_in_turn (word - sw cells) n

-- THE PARTS OF A WORD

yes_eq : (a b : ℕ) → a ≡ b → nat_eq a b ≡ true
yes_eq a b h = grind (arith, nat_tests)

no_eq : (a b : ℕ) → a ≢ b → nat_eq a b ≡ false
no_eq a b h = grind (arith, nat_tests)

yes_between : (from past q : ℕ) → from ≤ q → q < past → is_between from past q ≡ true
yes_between from past q h l = grind (arith, nat_tests)

low_between : (from past q : ℕ) → q < from → is_between from past q ≡ false
low_between from past q h = grind (arith, nat_tests)

high_between : (from past q : ℕ) → past ≤ q → is_between from past q ≡ false
high_between from past q h = grind (arith, nat_tests)

-- one test for another, where the places between are those of this word
same_test : (a word from past q : ℕ) → (a ≡ word → (from ≤ q) × (q < past)) → (from ≤ q → q < past → a ≡ word) → nat_eq a word ≡ is_between from past q
same_test a word from past q f g = go (cases_eq a word)
  where
    beside : a ≢ word → (q < from) ⊎ (from ≤ q) → (q < past) ⊎ (past ≤ q) → is_between from past q ≡ false
    beside n (inl l) r = low_between from past q l
    beside n (inr l) (inl r) = absurd (n (g l r))
    beside n (inr l) (inr r) = high_between from past q r

    go : (a ≡ word) ⊎ (a ≢ word) → nat_eq a word ≡ is_between from past q
    go (inl e) = yes_eq a word e ∙ sym (yes_between from past q (f e).0 (f e).1)
    go (inr n) = no_eq a word n ∙ sym (beside n (split q from) (split q past))

signal_part : (s q : ℕ) → q < s → word_of s q ≡ q / 32
signal_part s q h = ap (λ b. if b then q / 32 else signal_words s + (q - s)) (signal_test s q h)

other_part : (s q : ℕ) → s ≤ q → word_of s q ≡ signal_words s + (q - s)
other_part s q h = ap (λ b. if b then q / 32 else signal_words s + (q - s)) (other_test s q h)

-- a word of signals has 32 of them, and the last one the rest
pub in_signal_word : (cells : List NetCell) (word q : ℕ) → word < sw cells → is_in_word cells word q ≡ is_between (word * 32) (min (signals cells) (word * 32 + 32)) q
in_signal_word cells word q h = go (split q (signals cells))
  where
    go : (q < signals cells) ⊎ (signals cells ≤ q) → is_in_word cells word q ≡ is_between (word * 32) (min (signals cells) (word * 32 + 32)) q
    go (inl l) =
        let here = signal_part (signals cells) q l in
        same_test (word_of (signals cells) q) word (word * 32) (min (signals cells) (word * 32 + 32)) q (λ e. (omega arith, omega arith)) (λ a b. omega arith)
    go (inr l) =
        let here = other_part (signals cells) q l in
        same_test (word_of (signals cells) q) word (word * 32) (min (signals cells) (word * 32 + 32)) q (λ e. absurd (omega arith)) (λ a b. absurd (omega arith))

-- each other word is one part
pub in_other_word : (cells : List NetCell) (word q : ℕ) → sw cells ≤ word → is_in_word cells word q ≡ is_between (signals cells + (word - sw cells)) (signals cells + (word - sw cells) + 1) q
in_other_word cells word q h = go (split q (signals cells))
  where
    go : (q < signals cells) ⊎ (signals cells ≤ q) → is_in_word cells word q ≡ is_between (signals cells + (word - sw cells)) (signals cells + (word - sw cells) + 1) q
    go (inl l) =
        let here = signal_part (signals cells) q l in
        same_test (word_of (signals cells) q) word (signals cells + (word - sw cells)) (signals cells + (word - sw cells) + 1) q (λ e. absurd (omega arith)) (λ a b. absurd (omega arith))
    go (inr l) =
        let here = other_part (signals cells) q l in
        same_test (word_of (signals cells) q) word (signals cells + (word - sw cells)) (signals cells + (word - sw cells) + 1) q (λ e. (omega arith, omega arith)) (λ a b. omega arith)

-- the parts of a word are there
pub signals_there : (cells : List NetCell) → signals cells ≤ parts cells
signals_there cells =
    let all = parts_count cells in
    let words = hows_count cells in
    let l = long cells in
    omega arith

pub word_parts_there : (cells : List NetCell) (word : ℕ) → sw cells ≤ word → word < length (hows cells) → signals cells + (word - sw cells) + 1 ≤ parts cells
word_parts_there cells word low high =
    let all = parts_count cells in
    let words = hows_count cells in
    omega arith
