-- The name at the front of a token's text ends where the first byte stands that no name has.
use Rattle.std.proofs.Common.{◌≡◌, ℕ, suc, Bool, true, false, ◌&&◌, List, [], ◌∷◌, ◌++◌, length, take, drop, Option, refl, sym, ap, ◌∙◌, subst}
use Rattle.std.specs.Prelude.{IsTrue, nat_le, nat_eq, ◌||◌, if◌then◌else◌}
use Rattle.std.specs.List.{list_all}
use Rattle.token_system.specs.declared.cell.Token.{Token}
use Rattle.token_system.specs.declared.reading.Written.{Written}
use Rattle.names_and_numbers.specs.Limits.{longest_name}
use Rattle.names_and_numbers.specs.Names.{is_letter, is_digit, is_word_byte, is_word, is_name}
use Rattle.names_and_numbers.specs.Prefixes.{prefix_len}
use Rattle.token_system.specs.Texts.{IsNamed, IsTail, alone, at_least, at_most, exactly, IsTokenText, off, clash, plain}
use Rattle.token_system.proofs.Alike.{true_false}

pub first_true : (a b : Bool) → (a && b) ≡ true → a ≡ true
first_true true b h = refl
first_true false b h = h

second_true : (a b : Bool) → (a && b) ≡ true → b ≡ true
second_true true b h = h
second_true false b h = absurd (true_false (sym h))

-- no byte that a name has stands first
abbrev pub StartsOutside : List ℕ → Type 0
StartsOutside [] = Unit {0}
StartsOutside (b ∷ bs) = is_word_byte b ≡ false

pub tail-outside : (rest : List ℕ) (first : Token) (second : Option Token) → IsTail rest first second → StartsOutside rest
tail-outside rest first second (alone e f s) = subst StartsOutside (sym e) tt
tail-outside rest first second (at_least number k e n f s) = subst StartsOutside (sym e) refl
tail-outside rest first second (at_most number k e n f s) = subst StartsOutside (sym e) refl
tail-outside rest first second (exactly number k e n f s) = subst StartsOutside (sym e) refl

letter_in_name : (b : ℕ) → is_letter b ≡ true → is_word_byte b ≡ true
letter_in_name b h = ap (λ t. t || is_digit b || nat_eq b 95) h

-- a name has only bytes that names have
pub name_bytes : (name : List ℕ) → IsTrue (is_name name) → list_all is_word_byte name ≡ true
name_bytes [] h = absurd (true_false (sym h))
name_bytes (b ∷ bs) h =
    let word = first_true (is_word (b ∷ bs)) (nat_le (length (b ∷ bs)) longest_name) h in
    rw (letter_in_name b (first_true (is_letter b) (list_all is_word_byte bs) word)) (second_true (is_letter b) (list_all is_word_byte bs) word)

-- the bytes of names at the front are the name, where no such byte follows it
pub word_length : (name rest : List ℕ) → list_all is_word_byte name ≡ true → StartsOutside rest → prefix_len is_word_byte (name ++ rest) ≡ length name
word_length [] [] all out = refl
word_length [] (r ∷ rest) all out = ap (λ t. if t then suc (prefix_len is_word_byte rest) else 0) out
word_length (b ∷ name) rest all out =
    ap (λ t. if t then suc (prefix_len is_word_byte (name ++ rest)) else 0) (first_true (is_word_byte b) (list_all is_word_byte name) all)
    ∙ ap suc (word_length name rest (second_true (is_word_byte b) (list_all is_word_byte name) all) out)

pub take-own : (xs ys : List ℕ) → take (length xs) (xs ++ ys) ≡ xs
take-own [] ys = refl
take-own (x ∷ xs) ys = ap (λ (zs : List ℕ). x ∷ zs) (take-own xs ys)

drop-own : (xs ys : List ℕ) → drop (length xs) (xs ++ ys) ≡ ys
drop-own [] ys = refl
drop-own (x ∷ xs) ys = drop-own xs ys

-- where a text is named, the front that names may have is the name, and the rest is the rest
pub named_parts : (bytes : List ℕ) (n : ℕ) (w : Written) → n ≡ prefix_len is_word_byte bytes → (h : IsNamed bytes w) → (take n bytes ≡ h.name) × (drop n bytes ≡ h.rest)
named_parts bytes n w front h =
    let ends = front ∙ ap (prefix_len is_word_byte) h.parts ∙ word_length h.name h.rest (name_bytes h.name h.is_a_name) (tail-outside h.rest w.first w.second h.tail) in (
      ap (take n) h.parts ∙ ap (λ m. take m (h.name ++ h.rest)) ends ∙ take-own h.name h.rest,
      ap (drop n) h.parts ∙ ap (λ m. drop m (h.name ++ h.rest)) ends ∙ drop-own h.name h.rest,
    )

-- so it is not named where that front is no name
pub no_name : (bytes : List ℕ) (n : ℕ) (w : Written) → n ≡ prefix_len is_word_byte bytes → is_name (take n bytes) ≡ false → IsNamed bytes w → ⊥
no_name bytes n w front fails h = true_false (sym h.is_a_name ∙ ap is_name (sym (named_parts bytes n w front h).0) ∙ fails)

-- nor where nothing reads the rest
pub no_tail : (bytes : List ℕ) (n : ℕ) (w : Written) → n ≡ prefix_len is_word_byte bytes → ((first : Token) (second : Option Token) → IsTail (drop n bytes) first second → ⊥) → IsNamed bytes w → ⊥
no_tail bytes n w front fails h = fails w.first w.second (subst (λ (bs : List ℕ). IsTail bs w.first w.second) (sym (named_parts bytes n w front h).1) h.tail)

-- a text that begins with neither mark is a name and what follows it
pub unmarked : (bytes name : List ℕ) (m : ℕ) (w : Written) → bytes ≡ m ∷ name → (m ≡ 33 → ⊥) → (m ≡ 35 → ⊥) → IsTokenText bytes w → IsNamed bytes w
unmarked bytes name m w e no_off no_clash (off rest e' h s) = absurd (no_off (let same : m ∷ name ≡ 33 ∷ rest = sym e ∙ e' in cc))
unmarked bytes name m w e no_off no_clash (clash rest e' h s) = absurd (no_clash (let same : m ∷ name ≡ 35 ∷ rest = sym e ∙ e' in cc))
unmarked bytes name m w e no_off no_clash (plain h) = h
