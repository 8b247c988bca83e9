-- The order of a word: it is an order, what is told is the least word above both, and telling keeps words above those of which nothing is told.
use Rattle.std.proofs.Common.{◌≡◌, ℕ, zero, suc, ◌<◌, ◌≢◌, List, length, set, refl, sym, ap, ◌∙◌, subst, inl, inr, arith, length-set, get_or-set_same, get_or-set_other}
use Rattle.std.specs.Prelude.{slice_index, slice_index_or, bit_or, ◌⊎◌}
use Rattle.std.proofs.lemmas.Nat.Bits.{bit_at_or, same_from_bits}
use Rattle.instant_net.specs.declared.parts.NetCell.{NetCell}
use Rattle.instant_net.specs.declared.words.How.{How}
use Rattle.instant_net.specs.declared.words.How.TheVariants.{Or, Max, Min}
use Rattle.instant_net.specs.Words.{lub, hows, empty_words, AreWords, Lies}

-- what bits do, they do bit by bit
or_assoc : (a b c : ℕ) → bit_or (bit_or a b) c ≡ bit_or a (bit_or b c)
or_assoc a b c = same_from_bits _ _ (λ i. let p = bit_at_or (bit_or a b) c i in let q = bit_at_or a b i in let r = bit_at_or a (bit_or b c) i in let s = bit_at_or b c i in omega arith)

or_comm : (a b : ℕ) → bit_or a b ≡ bit_or b a
or_comm a b = same_from_bits _ _ (λ i. let p = bit_at_or a b i in let q = bit_at_or b a i in omega arith)

or_itself : (a : ℕ) → bit_or a a ≡ a
or_itself a = same_from_bits _ _ (λ i. let p = bit_at_or a a i in omega arith)

pub lub_assoc : (h : How) (a b c : ℕ) → lub h (lub h a b) c ≡ lub h a (lub h b c)
lub_assoc Or a b c = or_assoc a b c
lub_assoc Max a b c = omega arith
lub_assoc Min a b c = omega arith

pub lub_comm : (h : How) (a b : ℕ) → lub h a b ≡ lub h b a
lub_comm Or a b = or_comm a b
lub_comm Max a b = omega arith
lub_comm Min a b = omega arith

pub lub_itself : (h : How) (a : ℕ) → lub h a a ≡ a
lub_itself Or a = or_itself a
lub_itself Max a = omega arith
lub_itself Min a = omega arith

-- AN ORDER, AND ITS JOINS

pub Lies-refl : (h : How) (a : ℕ) → Lies h a a
Lies-refl h a = lub_itself h a

pub Lies-trans : (h : How) (a b c : ℕ) → Lies h a b → Lies h b c → Lies h a c
Lies-trans h a b c p q = ap (lub h a) (sym q) ∙ sym (lub_assoc h a b c) ∙ ap (λ x. lub h x c) p ∙ q

pub Lies-antisymm : (h : How) (a b : ℕ) → Lies h a b → Lies h b a → a ≡ b
Lies-antisymm h a b p q = sym q ∙ lub_comm h b a ∙ p

pub lub-above_first : (h : How) (a b : ℕ) → Lies h a (lub h a b)
lub-above_first h a b = sym (lub_assoc h a a b) ∙ ap (λ x. lub h x b) (lub_itself h a)

pub lub-above_second : (h : How) (a b : ℕ) → Lies h b (lub h a b)
lub-above_second h a b = ap (lub h b) (lub_comm h a b) ∙ lub-above_first h b a ∙ lub_comm h b a

pub lub-least : (h : How) (a b c : ℕ) → Lies h a c → Lies h b c → Lies h (lub h a b) c
lub-least h a b c p q = lub_assoc h a b c ∙ ap (lub h a) q ∙ p

-- WORDS STAY WORDS

decide : (j k : ℕ) → (j ≡ k) ⊎ (j ≢ k)
decide zero zero = inl refl
decide zero (suc k) = inr (λ e. cc)
decide (suc j) zero = inr (λ e. cc)
decide (suc j) (suc k) = go (decide j k)
  where
    go : (j ≡ k) ⊎ (j ≢ k) → (suc j ≡ suc k) ⊎ (suc j ≢ suc k)
    go (inl e) = inl (ap suc e)
    go (inr n) = inr (λ e. n (cc))

pub set-AreWords : (cells : List NetCell) (words : List ℕ) → AreWords cells words → (k x : ℕ) → k < length words
    → Lies (slice_index_or (hows cells) k Or) (slice_index (empty_words cells) k) x → AreWords cells (set words k x)
set-AreWords cells words w k x h lies = record {
  long = length-set words k x ∙ w.long;
  above = λ j l. go j l (decide j k);
}
  where
    go : (j : ℕ) → j < length (set words k x) → (j ≡ k) ⊎ (j ≢ k) → Lies (slice_index_or (hows cells) j Or) (slice_index (empty_words cells) j) (slice_index (set words k x) j)
    go j l (inl e) =
        let same : slice_index (set words k x) j ≡ x = ap (λ i. slice_index (set words k x) i) e ∙ get_or-set_same words k x 0 h in
        subst (λ (y : ℕ). Lies (slice_index_or (hows cells) j Or) (slice_index (empty_words cells) j) y) (sym same)
        (subst (λ (i : ℕ). Lies (slice_index_or (hows cells) i Or) (slice_index (empty_words cells) i) x) (sym e) lies)
    go j l (inr n) =
        subst (λ (y : ℕ). Lies (slice_index_or (hows cells) j Or) (slice_index (empty_words cells) j) y) (sym (get_or-set_other words k j x 0 n)) (w.above j (subst (λ (m : ℕ). j < m) (length-set words k x) l))

pub told-AreWords : (cells : List NetCell) (words : List ℕ) → AreWords cells words → (k bits : ℕ) (how : How) → k < length words → slice_index_or (hows cells) k Or ≡ how
    → AreWords cells (set words k (lub how (slice_index words k) bits))
told-AreWords cells words w k bits how h e =
    set-AreWords cells words w k (lub how (slice_index words k) bits) h
    (Lies-trans (slice_index_or (hows cells) k Or) (slice_index (empty_words cells) k) (slice_index words k) (lub how (slice_index words k) bits) (w.above k h)
    (subst (λ (x : How). Lies x (slice_index words k) (lub how (slice_index words k) bits)) (sym e) (lub-above_first how (slice_index words k) bits)))
