-- What the kind of some bytes says of them.
use Rattle.std.proofs.Common.{◌≡◌, ℕ, List, [], ◌∷◌, refl, ap, ◌∙◌, subst, Option, Some, None, Bool, true, false}
use Rattle.std.specs.Prelude.{◌&&◌, if◌then◌else◌}
use Rattle.std.specs.List.{list_all}
use Rattle.program_lexemes.specs.declared.lexer.LexKind.{LexKind}
use Rattle.program_lexemes.specs.declared.lexer.LexKind.TheVariants as kind
use Rattle.program_lexemes.specs.declared.bytes.TextForm.{TextForm}
use Rattle.program_lexemes.specs.Spellings.{is_keyword, is_symbol}
use Rattle.program_lexemes.specs.Forms.{is_letter, is_digit, is_word_byte, is_minus, is_dollar, are_digits, are_few_digits, word_kind, kind_if, kind_of}
use Rattle.names_and_numbers.proofs.Printed.{no_minus}
use Rattle.program_lexemes.specs.Numbers.{is_number_text}
use Rattle.program_lexemes.proofs.LongestLexeme.{kinds}

-- where this kind comes, its test holds
pub held : (t : Bool) (k l : LexKind) → kind_if t k ≡ Some l → (t ≡ true) × (k ≡ l)
held true k l e = (refl, cc)
held false k l e = let e' : ◌≡◌ {A = Option LexKind} None (Some l) = e in cc

no_kind : (l : LexKind) → ◌≡◌ {A = Option LexKind} None (Some l) → ⊥
no_kind l e = cc

-- what each kind says of bytes that begin so
abbrev Says : LexKind → ℕ → List ℕ → Type 0
Says kind.Name b bs = Unit {0}
Says kind.Keyword b bs = is_keyword (b ∷ bs) ≡ true
Says kind.Number b bs = is_number_text (b ∷ bs) ≡ true
Says kind.Symbol b bs = is_symbol (b ∷ bs) ≡ true

word_says : (b : ℕ) (bs : List ℕ) → Says (word_kind (b ∷ bs)) b bs
word_says b bs = go (is_keyword (b ∷ bs)) refl
  where
    go : (t : Bool) → is_keyword (b ∷ bs) ≡ t → Says (if t then kind.Keyword else kind.Name) b bs
    go true e = e
    go false e = tt

digits_number : (b : ℕ) (bs : List ℕ) → is_digit b ≡ true → list_all is_digit bs ≡ true → is_number_text (b ∷ bs) ≡ true
digits_number b bs d all = ap (λ t. are_digits (if t then bs else b ∷ bs)) (no_minus b d) ∙ ap (λ t. t && list_all is_digit bs) d ∙ all

says : (b : ℕ) (bs : List ℕ) (l : LexKind) (letter digit minus dollar : Bool) → is_digit b ≡ digit → is_minus b ≡ minus → kinds letter digit minus dollar b bs ≡ Some l → Says l b bs
says b bs l true d m h ed em e = subst (λ (k : LexKind). Says k b bs) (held (list_all is_word_byte bs) (word_kind (b ∷ bs)) l e).1 (word_says b bs)
says b bs l false true m h ed em e = let (all, k) = held (list_all is_digit bs) kind.Number l e in subst (λ (k : LexKind). Says k b bs) k (digits_number b bs ed all)
says b bs l false false true h ed em e = let (all, k) = held (are_digits bs) kind.Number l e in subst (λ (k : LexKind). Says k b bs) k (ap (λ t. are_digits (if t then bs else b ∷ bs)) em ∙ all)
says b bs l false false false true ed em e = let (all, k) = held (are_few_digits bs) kind.Name l e in subst (λ (k : LexKind). Says k b bs) k tt
says b bs l false false false false ed em e = let (all, k) = held (is_symbol (b ∷ bs)) kind.Symbol l e in subst (λ (k : LexKind). Says k b bs) k all

kind_says : (form : TextForm) (b : ℕ) (bs : List ℕ) (l : LexKind) → kind_of form (b ∷ bs) ≡ Some l → Says l b bs
kind_says form b bs l e = says b bs l (is_letter b) (is_digit b) (is_minus b) (is_dollar form b) refl refl e

pub kind_keyword : (form : TextForm) (bytes : List ℕ) → kind_of form bytes ≡ Some kind.Keyword → is_keyword bytes ≡ true
kind_keyword form [] e = absurd (no_kind kind.Keyword e)
kind_keyword form (b ∷ bs) e = kind_says form b bs kind.Keyword e

pub kind_symbol : (form : TextForm) (bytes : List ℕ) → kind_of form bytes ≡ Some kind.Symbol → is_symbol bytes ≡ true
kind_symbol form [] e = absurd (no_kind kind.Symbol e)
kind_symbol form (b ∷ bs) e = kind_says form b bs kind.Symbol e

pub kind_number : (form : TextForm) (bytes : List ℕ) → kind_of form bytes ≡ Some kind.Number → is_number_text bytes ≡ true
kind_number form [] e = absurd (no_kind kind.Number e)
kind_number form (b ∷ bs) e = kind_says form b bs kind.Number e
