-- A text has one reading at most.
use Rattle.std.proofs.Common.{◌≡◌, ℕ, false, ℤ, List, [], ◌∷◌, ◌++◌, length, get_or, Option, Some, refl, sym, ap, ◌∙◌, subst, arith}
use Rattle.std.specs.Prelude.{IsTrue, nat_le}
use Rattle.std.specs.List.{list_all}
use Rattle.names_and_numbers.specs.Limits.{longest_name}
use Rattle.names_and_numbers.specs.Names.{is_letter, is_word_byte, is_word, is_name}
use Rattle.names_and_numbers.specs.Numbers.{number_of_text}
use Rattle.names_and_numbers.specs.Prefixes.{prefix_len}
use Rattle.token_system.specs.declared.cell.Token.{Token}
use Rattle.token_system.specs.declared.cell.Token.TheVariants.{Off, AtLeast, AtMost, Clash}
use Rattle.token_system.specs.declared.reading.Written.{Written}
use Rattle.token_system.specs.Texts.{marked_name, IsNamed, IsTail, alone, at_least, at_most, exactly, IsTokenText, off, clash, plain}
use Rattle.token_system.proofs.Alike.{true_false}
use Rattle.token_system.proofs.NameFronts.{tail-outside, name_bytes, named_parts, word_length, first_true}

heads : (a b : ℕ) (xs ys : List ℕ) → a ∷ xs ≡ b ∷ ys → a ≡ b
heads a b xs ys e = ap (λ zs. get_or zs 0 0) e

one_number : (m n : List ℕ) (j k : ℤ) → m ≡ n → number_of_text m ≡ Some j → number_of_text n ≡ Some k → j ≡ k
one_number m n j k e p q = let s : Some j ≡ Some k = sym p ∙ ap number_of_text e ∙ q in cc

-- what follows a name means one pair of tokens
one_tail : (rest : List ℕ) (f g : Token) (s t : Option Token) → IsTail rest f s → IsTail rest g t → (f ≡ g) × (s ≡ t)
one_tail rest f g s t (alone e p q) (alone e' p' q') = (p ∙ sym p', q ∙ sym q')
one_tail rest f g s t (at_least m j e n p q) (at_least m' k e' n' p' q') =
    let same : 62 ∷ 61 ∷ m ≡ 62 ∷ 61 ∷ m' = sym e ∙ e' in
    let one : j ≡ k = one_number m m' j k (cc) n n' in (p ∙ ap AtLeast one ∙ sym p', q ∙ sym q')
one_tail rest f g s t (at_most m j e n p q) (at_most m' k e' n' p' q') =
    let same : 60 ∷ 61 ∷ m ≡ 60 ∷ 61 ∷ m' = sym e ∙ e' in
    let one : j ≡ k = one_number m m' j k (cc) n n' in (p ∙ ap AtMost one ∙ sym p', q ∙ sym q')
one_tail rest f g s t (exactly m j e n p q) (exactly m' k e' n' p' q') =
    let same : 61 ∷ m ≡ 61 ∷ m' = sym e ∙ e' in
    let one : j ≡ k = one_number m m' j k (cc) n n' in (p ∙ ap AtLeast one ∙ sym p', q ∙ ap (λ i. Some (AtMost i)) one ∙ sym q')
one_tail rest f g s t (alone e p q) (at_least m' k e' n' p' q') = absurd (let same : [] ≡ 62 ∷ 61 ∷ m' = sym e ∙ e' in cc)
one_tail rest f g s t (alone e p q) (at_most m' k e' n' p' q') = absurd (let same : [] ≡ 60 ∷ 61 ∷ m' = sym e ∙ e' in cc)
one_tail rest f g s t (alone e p q) (exactly m' k e' n' p' q') = absurd (let same : [] ≡ 61 ∷ m' = sym e ∙ e' in cc)
one_tail rest f g s t (at_least m j e n p q) (alone e' p' q') = absurd (let same : 62 ∷ 61 ∷ m ≡ [] = sym e ∙ e' in cc)
one_tail rest f g s t (at_most m j e n p q) (alone e' p' q') = absurd (let same : 60 ∷ 61 ∷ m ≡ [] = sym e ∙ e' in cc)
one_tail rest f g s t (exactly m j e n p q) (alone e' p' q') = absurd (let same : 61 ∷ m ≡ [] = sym e ∙ e' in cc)
one_tail rest f g s t (at_least m j e n p q) (at_most m' k e' n' p' q') = absurd (let same : 62 ∷ 61 ∷ m ≡ 60 ∷ 61 ∷ m' = sym e ∙ e' in let first = heads 62 60 _ _ same in omega arith)
one_tail rest f g s t (at_least m j e n p q) (exactly m' k e' n' p' q') = absurd (let same : 62 ∷ 61 ∷ m ≡ 61 ∷ m' = sym e ∙ e' in let first = heads 62 61 _ _ same in omega arith)
one_tail rest f g s t (at_most m j e n p q) (at_least m' k e' n' p' q') = absurd (let same : 60 ∷ 61 ∷ m ≡ 62 ∷ 61 ∷ m' = sym e ∙ e' in let first = heads 60 62 _ _ same in omega arith)
one_tail rest f g s t (at_most m j e n p q) (exactly m' k e' n' p' q') = absurd (let same : 60 ∷ 61 ∷ m ≡ 61 ∷ m' = sym e ∙ e' in let first = heads 60 61 _ _ same in omega arith)
one_tail rest f g s t (exactly m j e n p q) (at_least m' k e' n' p' q') = absurd (let same : 61 ∷ m ≡ 62 ∷ 61 ∷ m' = sym e ∙ e' in let first = heads 61 62 _ _ same in omega arith)
one_tail rest f g s t (exactly m j e n p q) (at_most m' k e' n' p' q') = absurd (let same : 61 ∷ m ≡ 60 ∷ 61 ∷ m' = sym e ∙ e' in let first = heads 61 60 _ _ same in omega arith)

same_written : (v w : Written) → v.name_start ≡ w.name_start → v.name_end ≡ w.name_end → v.first ≡ w.first → v.second ≡ w.second → v ≡ w
same_written v w p q r s = λ i. record { name_start = p i; name_end = q i; first = r i; second = s i }

one_named : (bytes : List ℕ) (v w : Written) → IsNamed bytes v → IsNamed bytes w → v ≡ w
one_named bytes v w g h =
    let at : length g.name ≡ prefix_len is_word_byte bytes = sym (ap (prefix_len is_word_byte) g.parts ∙ word_length g.name g.rest (name_bytes g.name g.is_a_name) (tail-outside g.rest v.first v.second g.tail)) in
    let mine = named_parts bytes (length g.name) v at g in
    let other = named_parts bytes (length g.name) w at h in
    let tails = one_tail g.rest v.first w.first v.second w.second g.tail (subst (λ (bs : List ℕ). IsTail bs w.first w.second) (sym other.1 ∙ mine.1) h.tail) in
    same_written v w (g.start ∙ sym h.start) (g.ends ∙ ap length (sym mine.0 ∙ other.0) ∙ sym h.ends) tails.0 tails.1

-- a name does not begin with a byte that is no letter
no_letter : (bytes rest : List ℕ) (m : ℕ) (w : Written) → is_letter m ≡ false → bytes ≡ m ∷ rest → IsNamed bytes w → ⊥
no_letter bytes rest m w out e h = go h.name h.is_a_name (sym e ∙ h.parts)
  where
    go : (name : List ℕ) → IsTrue (is_name name) → m ∷ rest ≡ name ++ h.rest → ⊥
    go [] p q = true_false (sym p)
    go (b ∷ bs) p q =
        let same : m ≡ b = cc in
        true_false (sym (first_true (is_letter b) (list_all is_word_byte bs) (first_true (is_word (b ∷ bs)) (nat_le (length (b ∷ bs)) longest_name) p)) ∙ ap is_letter (sym same) ∙ out)

pub one_reading : (bytes : List ℕ) (v w : Written) → IsTokenText bytes v → IsTokenText bytes w → v ≡ w
one_reading bytes v w (off m e p q) (off n e' p' q') = q ∙ ap (λ xs. marked_name xs Off) (let same : 33 ∷ m ≡ 33 ∷ n = sym e ∙ e' in cc) ∙ sym q'
one_reading bytes v w (clash m e p q) (clash n e' p' q') = q ∙ ap (λ xs. marked_name xs Clash) (let same : 35 ∷ m ≡ 35 ∷ n = sym e ∙ e' in cc) ∙ sym q'
one_reading bytes v w (plain g) (plain h) = one_named bytes v w g h
one_reading bytes v w (off m e p q) (clash n e' p' q') = absurd (let same : 33 ∷ m ≡ 35 ∷ n = sym e ∙ e' in let first = heads 33 35 _ _ same in omega arith)
one_reading bytes v w (clash m e p q) (off n e' p' q') = absurd (let same : 35 ∷ m ≡ 33 ∷ n = sym e ∙ e' in let first = heads 35 33 _ _ same in omega arith)
one_reading bytes v w (off m e p q) (plain h) = absurd (no_letter bytes m 33 w refl e h)
one_reading bytes v w (clash m e p q) (plain h) = absurd (no_letter bytes m 35 w refl e h)
one_reading bytes v w (plain g) (off n e' p' q') = absurd (no_letter bytes n 33 v refl e' g)
one_reading bytes v w (plain g) (clash n e' p' q') = absurd (no_letter bytes n 35 v refl e' g)
