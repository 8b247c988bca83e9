-- What is told to a part of a word is told to that part alone, and the join of two words has in each part the join of theirs.
use Rattle.std.proofs.Common.{◌≡◌, ◌≢◌, ◌⊎◌, inl, inr, ℕ, ◌+◌, ◌-◌, ◌*◌, ◌/◌, ◌%◌, ◌^◌, ◌<◌, ◌≤◌, List, length, Bool, true, false, refl, sym, ap, ◌∙◌, subst, arith, pow_mono, get_or-set_same, get_or-set_other}
use Rattle.std.specs.Prelude.{bit_or, nat_lt, nat_eq, slice_index, if◌then◌else◌}
use Rattle.std.specs.Int.Bits.{or_zero_r}
use Rattle.std.proofs.lemmas.Bool.Decides.{nat_tests}
use Rattle.std.proofs.lemmas.Nat.{or_mod, or_shr, shl-shr, shl_below, pow_pos, pow-add, div_below}
use native.Mathlib.Nat.{mul_assoc}
use Rattle.instant_net.specs.declared.words.How.{How}
use Rattle.instant_net.specs.WordParts.{signal_words, place_in, pair_of, pair_at, word_of, part_of, bits_of, part_at}
use Rattle.instant_net.specs.Words.{lub, tell_part, FitsPart, JoinsParts}

pub signal_test : (s q : ℕ) → q < s → nat_lt q s ≡ true
signal_test s q h = grind (arith, nat_tests)

pub other_test : (s q : ℕ) → s ≤ q → nat_lt q s ≡ false
other_test s q h = grind (arith, nat_tests)

pub split : (a b : ℕ) → (a < b) ⊎ (b ≤ a)
split a b = go (nat_lt a b) refl
  where
    go : (p : Bool) → nat_lt a b ≡ p → (a < b) ⊎ (b ≤ a)
    go true e = inl (grind (arith, nat_tests))
    go false e = inr (grind (arith, nat_tests))

-- TWO BITS OF A WORD

pow_three : (a r : ℕ) → 2 ^ (a + 2 + r) ≡ 2 ^ a * 4 * 2 ^ r
pow_three a r = pow-add 2 (a + 2) r ∙ ap (λ n. n * 2 ^ r) (pow-add 2 a 2)

regroup : (b a c : ℕ) → b * (a * 4 * c) ≡ (b * a * 4) * c
regroup b a c = sym (mul_assoc b (a * 4) c) ∙ ap (λ n. n * c) (sym (mul_assoc b a 4))

fours : (n : ℕ) → n * 4 % 4 ≡ 0
fours n = omega arith

-- set where the bits are read, they are read
told_here : (w b p : ℕ) → b < 4 → bit_or w (b * 2 ^ p) / 2 ^ p % 4 ≡ bit_or (w / 2 ^ p % 4) b
told_here w b p h =
    let small : b % 4 ≡ b = omega arith in
    ap (λ n. n % 4) (or_shr w (b * 2 ^ p) p ∙ ap (bit_or (w / 2 ^ p)) (shl-shr b p)) ∙ or_mod (w / 2 ^ p) b 2 ∙ ap (bit_or (w / 2 ^ p % 4)) small

-- set elsewhere, nothing of them is
told_beside : (w b p r : ℕ) → b * 2 ^ p / 2 ^ r % 4 ≡ 0 → bit_or w (b * 2 ^ p) / 2 ^ r % 4 ≡ w / 2 ^ r % 4
told_beside w b p r e = ap (λ n. n % 4) (or_shr w (b * 2 ^ p) r) ∙ or_mod (w / 2 ^ r) (b * 2 ^ p / 2 ^ r) 2 ∙ ap (bit_or (w / 2 ^ r % 4)) e ∙ or_zero_r (w / 2 ^ r % 4)

above : (b p r : ℕ) → b < 4 → p + 2 ≤ r → b * 2 ^ p / 2 ^ r % 4 ≡ 0
above b p r h l =
    let low : b * 2 ^ p < 2 ^ (2 + p) = shl_below b 2 p h in
    let more : 2 ^ (2 + p) ≤ 2 ^ r = pow_mono (let t : 2 + p ≤ r = omega arith in t) in
    let none : b * 2 ^ p / 2 ^ r ≡ 0 = let d = div_below (b * 2 ^ p) (2 ^ r) 1 (pow_pos r) (omega arith) in omega arith in
    ap (λ n. n % 4) none

below : (b p r : ℕ) → r + 2 ≤ p → b * 2 ^ p / 2 ^ r % 4 ≡ 0
below b p r l =
    let d : p ≡ (p - r - 2) + 2 + r = omega arith in
    let power : 2 ^ p ≡ 2 ^ (p - r - 2) * 4 * 2 ^ r = ap (λ n. 2 ^ n) d ∙ pow_three (p - r - 2) r in
    let whole : b * 2 ^ p ≡ (b * 2 ^ (p - r - 2) * 4) * 2 ^ r = ap (λ n. b * n) power ∙ regroup b (2 ^ (p - r - 2)) (2 ^ r) in
    ap (λ n. n / 2 ^ r % 4) whole ∙ ap (λ n. n % 4) (shl-shr (b * 2 ^ (p - r - 2) * 4) r) ∙ fours (b * 2 ^ (p - r - 2))

told_other : (w b p r : ℕ) → b < 4 → (p + 2 ≤ r) ⊎ (r + 2 ≤ p) → bit_or w (b * 2 ^ p) / 2 ^ r % 4 ≡ w / 2 ^ r % 4
told_other w b p r h (inl l) = told_beside w b p r (above b p r h l)
told_other w b p r h (inr l) = told_beside w b p r (below b p r l)

-- two bits stay within a word
pub pair_small : (q bits : ℕ) → bits < 4 → pair_at q bits < 2 ^ 64
pair_small q bits h =
    let low : bits * 2 ^ place_in q < 2 ^ (2 + place_in q) = shl_below bits 2 (place_in q) h in
    let more : 2 ^ (2 + place_in q) ≤ 2 ^ 64 = pow_mono (let t : 2 + place_in q ≤ 64 = omega arith in t) in
    omega arith

-- PARTS

abbrev part_by : Bool → ℕ → ℕ → ℕ
part_by b q n = if b then pair_of q n else n

-- what a word has of two others together, each part of it has
pub part_lub : (s q : ℕ) (how : How) (u w : ℕ) → JoinsParts s q how → part_of s q (lub how u w) ≡ lub how (part_of s q u) (part_of s q w)
part_lub s q how u w j = go (nat_lt q s) refl
  where
    ored : pair_of q (bit_or u w) ≡ bit_or (pair_of q u) (pair_of q w)
    ored = ap (λ n. n % 4) (or_shr u w (place_in q)) ∙ or_mod (u / 2 ^ place_in q) (w / 2 ^ place_in q) 2

    go : (b : Bool) → nat_lt q s ≡ b → part_by b q (lub how u w) ≡ lub how (part_by b q u) (part_by b q w)
    go true e =
        let l : q < s = grind (arith, nat_tests) in
        subst (λ (h : How). pair_of q (lub h u w) ≡ lub h (pair_of q u) (pair_of q w)) (sym (j l)) ored
    go false e = refl

module _ (s q : ℕ) (how : How) (bits : ℕ) (words : List ℕ) (fits : FitsPart s q how bits) (there : word_of s q < length words) where
  content : slice_index (tell_part s how words q bits) (word_of s q) ≡ lub how (slice_index words (word_of s q)) (bits_of s q bits)
  content = get_or-set_same words (word_of s q) _ 0 there

  pub part_same : part_at s (tell_part s how words q bits) q ≡ lub how (part_at s words q) bits
  part_same = ap (part_of s q) content ∙ go (slice_index words (word_of s q)) (nat_lt q s) refl
    where
      go : (w : ℕ) (b : Bool) → nat_lt q s ≡ b → (if b then pair_of q (lub how w (if b then pair_at q bits else bits)) else lub how w (if b then pair_at q bits else bits)) ≡ lub how (if b then pair_of q w else w) bits
      go w true e =
          let l : q < s = grind (arith, nat_tests) in
          subst (λ (h : How). pair_of q (lub h w (pair_at q bits)) ≡ lub h (pair_of q w) bits) (sym (fits l).0) (told_here w bits (place_in q) (fits l).1)
      go w false e = refl

  -- parts of one word are signals' in different places of it
  one_word : (r : ℕ) → r ≢ q → word_of s r ≡ word_of s q → (q < s) × (r < s) × ((place_in q + 2 ≤ place_in r) ⊎ (place_in r + 2 ≤ place_in q))
  one_word r n e = go (nat_lt r s) (nat_lt q s) refl refl e
    where
      go : (a b : Bool) → nat_lt r s ≡ a → nat_lt q s ≡ b → (if a then r / 32 else signal_words s + (r - s)) ≡ (if b then q / 32 else signal_words s + (q - s)) → (q < s) × (r < s) × ((place_in q + 2 ≤ place_in r) ⊎ (place_in r + 2 ≤ place_in q))
      go true true f g e =
          let x : r < s = grind (arith, nat_tests) in
          let y : q < s = grind (arith, nat_tests) in
          let differ : r % 32 ≢ q % 32 = λ m. n (omega arith) in
          (y, x, apart (split (q % 32) (r % 32)) differ)
        where
          apart : (q % 32 < r % 32) ⊎ (r % 32 ≤ q % 32) → r % 32 ≢ q % 32 → (place_in q + 2 ≤ place_in r) ⊎ (place_in r + 2 ≤ place_in q)
          apart (inl l) d = inl (omega arith)
          apart (inr l) d = inr (omega arith)
      go true false f g e = absurd (let x : r < s = grind (arith, nat_tests) in let y : s ≤ q = grind (arith, nat_tests) in omega arith)
      go false true f g e = absurd (let x : s ≤ r = grind (arith, nat_tests) in let y : q < s = grind (arith, nat_tests) in omega arith)
      go false false f g e = absurd (let x : s ≤ r = grind (arith, nat_tests) in let y : s ≤ q = grind (arith, nat_tests) in n (omega arith))

  abbrev word : ℕ → ℕ
  word r = slice_index words (word_of s r)

  pub part_other : (r : ℕ) → r ≢ q → part_at s (tell_part s how words q bits) r ≡ part_at s words r
  part_other r n = go (nat_eq (word_of s r) (word_of s q)) refl
    where
      beside : (q < s) × (r < s) × ((place_in q + 2 ≤ place_in r) ⊎ (place_in r + 2 ≤ place_in q)) → word_of s r ≡ word_of s q → part_at s (tell_part s how words q bits) r ≡ part_at s words r
      beside (l, m, p) e =
          let here : slice_index (tell_part s how words q bits) (word_of s r) ≡ lub how (word r) (bits_of s q bits) =
          ap (slice_index (tell_part s how words q bits)) e ∙ content ∙ ap (λ k. lub how (slice_index words k) (bits_of s q bits)) (sym e) in
          let x = signal_test s q l in
          let y = signal_test s r m in
          ap (part_of s r) here
          ∙ ap (λ b. if b then pair_of r (lub how (word r) (bits_of s q bits)) else lub how (word r) (bits_of s q bits)) y
          ∙ ap (λ b. pair_of r (lub how (word r) (if b then pair_at q bits else bits))) x
          ∙ ap (λ h. pair_of r (lub h (word r) (pair_at q bits))) (fits l).0
          ∙ told_other (word r) bits (place_in q) (place_in r) (fits l).1 p
          ∙ sym (ap (λ b. if b then pair_of r (word r) else word r) y)

      go : (b : Bool) → nat_eq (word_of s r) (word_of s q) ≡ b → part_at s (tell_part s how words q bits) r ≡ part_at s words r
      go true e = let same : word_of s r ≡ word_of s q = grind (arith, nat_tests) in beside (one_word r n same) same
      go false e = ap (part_of s r) (get_or-set_other words (word_of s q) (word_of s r) _ 0 (let d : word_of s r ≢ word_of s q = grind (arith, nat_tests) in d))
