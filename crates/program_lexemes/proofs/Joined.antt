-- A text that is put together from lexemes has these lexemes.
use Rattle.std.proofs.Common.{◌≡◌, ℕ, ◌+◌, ◌-◌, ◌<◌, ◌≤◌, List, [], ◌∷◌, ◌++◌, length, take, drop, refl, ap, sym, ◌∙◌, arith, Option, Some, None, Bool, true, false, zero, suc, subst, inl, inr, get_or, length-append, append_assoc}
use Rattle.std.specs.Prelude.{slice_index, ◌&&◌, ◌||◌, ◌⊎◌, if◌then◌else◌, nat_eq, nat_le, IsSome, is_some}
use Rattle.std.specs.List.{list_all}
use Rattle.std.proofs.Math.Seq.{drop-append_seam, take-append_seam, take-append-add}
use Rattle.std.proofs.lemmas.Bool.{cases_lt}
use Rattle.std.proofs.lemmas.List.{get_or-append-add, append-nil}
use Rattle.std.proofs.Math.ListN.{get_or-append}
use Rattle.program_lexemes.specs.declared.lexer.LexKind.{LexKind}
use Rattle.program_lexemes.specs.declared.lexer.LexKind.TheVariants as kind
use Rattle.program_lexemes.specs.declared.bytes.TextForm.{TextForm}
use Rattle.program_lexemes.specs.Spellings.{is_keyword, is_symbol}
use Rattle.program_lexemes.specs.Forms.{is_letter, is_digit, is_word_byte, is_minus, is_dollar, is_white, are_digits, are_few_digits, word_kind, kind_if, kind_of}
use Rattle.program_lexemes.specs.Lexemes.{IsLongest, AreWhite, Reads}
use Rattle.program_lexemes.specs.SpacedLexemes.{SpacedLexeme, spaced_text, spans, goes_on, stops, AreCut}
use Rattle.program_lexemes.proofs.PrefixLengths.{and_left, and_right}
use Rattle.program_lexemes.proofs.Spelled.{no_symbol}
use Rattle.program_lexemes.proofs.LongestLexeme.{kinds}

-- all bytes pass only if each does
not_all : (p : ℕ → Bool) (xs : List ℕ) (c : ℕ) (more : List ℕ) → p c ≡ false → list_all p (xs ++ c ∷ more) ≡ false
not_all p [] c more e = ap (λ t. t && list_all p more) e
not_all p (x ∷ xs) c more e = ap (λ t. p x && t) (not_all p xs c more e) ∙ none (p x)
  where
    none : (t : Bool) → (t && false) ≡ false
    none true = refl
    none false = refl

no_digits : (xs : List ℕ) (c : ℕ) (more : List ℕ) → is_digit c ≡ false → are_digits (xs ++ c ∷ more) ≡ false
no_digits [] c more e = not_all is_digit [] c more e
no_digits (x ∷ xs) c more e = not_all is_digit (x ∷ xs) c more e

-- what may not stand in a word is no digit
no_digit : (c : ℕ) → is_word_byte c ≡ false → is_digit c ≡ false
no_digit c e = go (is_letter c) (is_digit c) (nat_eq c 95) e
  where
    go : (l d u : Bool) → (l || d || u) ≡ false → d ≡ false
    go true d u e = cc
    go false true u e = cc
    go false false u e = refl

kind_only : (t : Bool) (k l : LexKind) → kind_if t k ≡ Some l → k ≡ l
kind_only true k l e = cc
kind_only false k l e = let e' : ◌≡◌ {A = Option LexKind} None (Some l) = e in cc

-- a word goes on with the bytes of words
word_goes_on : (w : List ℕ) (c : ℕ) → goes_on (word_kind w) w c ≡ is_word_byte c
word_goes_on w c = go (is_keyword w)
  where
    go : (t : Bool) → goes_on (if t then kind.Keyword else kind.Name) w c ≡ is_word_byte c
    go true = refl
    go false = refl

symbol_behind : (b : ℕ) (bs : List ℕ) (c : ℕ) (more : List ℕ) → is_symbol ((b ∷ bs) ++ c ∷ []) ≡ false → is_symbol ((b ∷ bs) ++ c ∷ more) ≡ false
symbol_behind b bs c [] e = e
symbol_behind b bs c (d ∷ ds) e = no_symbol ((b ∷ bs) ++ c ∷ d ∷ ds) (omega (arith, length-append bs (c ∷ d ∷ ds)))

-- bytes that do not go on are no lexeme with more
cut_none : (form : TextForm) (w : List ℕ) (k : LexKind) (c : ℕ) (more : List ℕ) → kind_of form w ≡ Some k → goes_on k w c ≡ false → kind_of form (w ++ c ∷ more) ≡ None
cut_none form [] k c more e g = let e' : ◌≡◌ {A = Option LexKind} None (Some k) = e in cc
cut_none form (b ∷ bs) k c more e g = go (is_letter b) (is_digit b) (is_minus b) (is_dollar form b) e
  where
    at : (l : LexKind) → l ≡ k → goes_on l (b ∷ bs) c ≡ false
    at l q = ap (λ i. goes_on i (b ∷ bs) c) q ∙ g

    go : (l d m h : Bool) → kinds l d m h b bs ≡ Some k → kinds l d m h b (bs ++ c ∷ more) ≡ None
    go true d m h e = ap (λ t. kind_if t (word_kind (b ∷ (bs ++ c ∷ more)))) (not_all is_word_byte bs c more (sym (word_goes_on (b ∷ bs) c) ∙ at (word_kind (b ∷ bs)) (kind_only (list_all is_word_byte bs) (word_kind (b ∷ bs)) k e)))
    go false true m h e = ap (λ t. kind_if t kind.Number) (not_all is_digit bs c more (at kind.Number (kind_only (list_all is_digit bs) kind.Number k e)))
    go false false true h e = ap (λ t. kind_if t kind.Number) (no_digits bs c more (at kind.Number (kind_only (are_digits bs) kind.Number k e)))
    go false false false true e = ap (λ t. kind_if (t && nat_le (length (bs ++ c ∷ more)) 9) kind.Name) (no_digits bs c more (no_digit c (at kind.Name (kind_only (are_few_digits bs) kind.Name k e))))
    go false false false false e = ap (λ t. kind_if t kind.Symbol) (symbol_behind b bs c more (at kind.Symbol (kind_only (is_symbol (b ∷ bs)) kind.Symbol k e)))

-- they are the longest lexeme in front of what follows
cut_longest : (form : TextForm) (w rest : List ℕ) (k : LexKind) → kind_of form w ≡ Some k → stops (goes_on k w) rest → IsLongest form (w ++ rest) (length w) k
cut_longest form w rest k e s = record {
  within = omega (arith, length-append w rest);
  is = ap (kind_of form) (take-append_seam w rest) ∙ e;
  longest = λ n h some. longest n h some (cases_lt (length w) n);
}
  where
    none_longer : (rest : List ℕ) (j : ℕ) → stops (goes_on k w) rest → suc j ≤ length rest → IsSome (kind_of form (w ++ take (suc j) rest)) → ⊥
    none_longer [] j s h some = absurd (omega arith)
    none_longer (c ∷ cs) j s h some = let e' : false ≡ true = ap is_some (sym (cut_none form w k c (take j cs) e s)) ∙ some in cc

    longest : (n : ℕ) → n ≤ length (w ++ rest) → IsSome (kind_of form (take n (w ++ rest))) → (length w < n) ⊎ (n ≤ length w) → n ≤ length w
    longest n h some (inr q) = q
    longest n h some (inl q) =
        let j : ℕ = n - suc (length w) in
        let at : n ≡ length w + suc j = omega arith in
        let front : take n (w ++ rest) ≡ w ++ take (suc j) rest = ap (λ i. take i (w ++ rest)) at ∙ take-append-add w rest (suc j) in
        absurd (none_longer rest j s (omega (arith, at, h, length-append w rest)) (subst (λ (l : List ℕ). IsSome (kind_of form l)) front some))

all_white : (xs : List ℕ) (k : ℕ) → list_all is_white xs ≡ true → k < length xs → is_white (get_or xs k 0) ≡ true
all_white [] k e h = absurd (omega arith)
all_white (x ∷ xs) zero e h = and_left (is_white x) (list_all is_white xs) e
all_white (x ∷ xs) (suc k) e h = all_white xs k (and_right (is_white x) (list_all is_white xs) e) (omega arith)

-- white space between two parts of a text
space_white : (pre s rest : List ℕ) → list_all is_white s ≡ true → AreWhite (pre ++ (s ++ rest)) (length pre) (length pre + length s)
space_white pre s rest e = record {
  ordered = omega arith;
  within = omega (arith, length-append pre (s ++ rest), length-append s rest);
  each = each;
}
  where
    there : (j : ℕ) → j < length s → is_white (slice_index (pre ++ (s ++ rest)) (length pre + j)) ≡ true
    there j h = ap is_white (get_or-append-add pre (s ++ rest) j 0 ∙ get_or-append s rest 0 j h) ∙ all_white s j e h

    each : (k : ℕ) → length pre ≤ k → k < length pre + length s → is_white (slice_index (pre ++ (s ++ rest)) k) ≡ true
    each k a b = let q : length pre + (k - length pre) ≡ k = omega arith in subst (λ (i : ℕ). is_white (slice_index (pre ++ (s ++ rest)) i) ≡ true) q (there (k - length pre) (omega arith))

behind : (pre s w : List ℕ) → drop (length pre + length s) (pre ++ (s ++ w)) ≡ w
behind pre s w = ap (λ n. drop n (pre ++ (s ++ w))) (sym (length-append pre s)) ∙ ap (drop (length (pre ++ s))) (sym (append_assoc pre s w)) ∙ drop-append_seam (pre ++ s) w

regroup : (pre s w rest : List ℕ) → ((pre ++ s) ++ w) ++ rest ≡ pre ++ (s ++ (w ++ rest))
regroup pre s w rest = append_assoc (pre ++ s) w rest ∙ append_assoc pre s (w ++ rest)

long : (pre s w : List ℕ) → length ((pre ++ s) ++ w) ≡ length pre + length s + length w
long pre s w = length-append (pre ++ s) w ∙ ap (λ n. n + length w) (length-append pre s)

-- with the white space s in front of the pieces
spaced_reads : (form : TextForm) (ps : List SpacedLexeme) (pre s : List ℕ) → list_all is_white s ≡ true → AreCut form ps → Reads form (pre ++ (s ++ spaced_text ps)) (length pre) (spans (length pre + length s) ps) (length (pre ++ (s ++ spaced_text ps)))
spaced_reads form [] pre s e c =
    subst (AreWhite (pre ++ (s ++ [])) (length pre)) (sym (length-append pre (s ++ []) ∙ ap (λ n. length pre + n) (ap length (append-nil s)))) (space_white pre s [] e)
spaced_reads form (p ∷ ps) pre s e (cut, c) = (
  space_white pre s (spaced_text (p ∷ ps)) e,
  record {
    size = length p.bytes;
    ends = refl;
    longest = subst (λ (l : List ℕ). IsLongest form l (length p.bytes) p.kind) (sym (behind pre s (spaced_text (p ∷ ps)))) (cut_longest form p.bytes (p.space ++ spaced_text ps) p.kind cut.is cut.cut);
  },
  subst (λ (n : ℕ). Reads form (pre ++ (s ++ spaced_text (p ∷ ps))) n (spans (n + length p.space) ps) (length (pre ++ (s ++ spaced_text (p ∷ ps))))) (long pre s p.bytes)
      (subst (λ (l : List ℕ). Reads form l (length ((pre ++ s) ++ p.bytes)) (spans (length ((pre ++ s) ++ p.bytes) + length p.space) ps) (length l)) (regroup pre s p.bytes (p.space ++ spaced_text ps))
      (spaced_reads form ps ((pre ++ s) ++ p.bytes) p.space cut.white c)),
)

-- A text of pieces that are cut from one another has these lexemes.
pub joined_reads : (form : TextForm) (ps : List SpacedLexeme) → AreCut form ps → Reads form (spaced_text ps) 0 (spans 0 ps) (length (spaced_text ps))
joined_reads form ps c = spaced_reads form ps [] [] refl c
