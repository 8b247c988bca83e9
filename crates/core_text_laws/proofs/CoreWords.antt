-- The words of texts: names and numbers, and the tokens of core texts, each with what it says.
use Rattle.std.proofs.Common.{◌≡◌, ℕ, ℤ, pos, negsuc, suc, ◌^◌, ◌<◌, ◌≤◌, Bool, true, false, List, [], ◌∷◌, ◌++◌, length, Some, refl, ap, arith, decimal}
use Rattle.std.specs.Prelude.{◌&&◌, if◌then◌else◌, IsTrue}
use Rattle.std.specs.List.{list_all}
use Rattle.std.specs.Fmt.{signed_decimal}
use Rattle.std.proofs.lemmas.Bool.{le-ltb}
use Rattle.std.proofs.lemmas.Fmt.{length-decimal-le}
use Rattle.std.proofs.lemmas.Int.{ints}
use Rattle.program_lexemes.specs.declared.lexer.LexKind.TheVariants as kind
use Rattle.program_lexemes.specs.declared.bytes.TextForm.{TextForm}
use Rattle.program_lexemes.specs.Forms.{kind_of, is_white, is_word_byte, is_digit, is_minus}
use Rattle.program_lexemes.specs.Numbers.{is_long, value_of_number, digits_of}
use Rattle.program_lexemes.specs.SpacedLexemes.{goes_on, stops}
use Rattle.program_lexemes.proofs.Printed.{decimal_kind, minus_decimal_kind, number_of-decimal, number_of-minus_decimal}
use Rattle.program_grammar.specs.Terms.{Term, Name, Number, Bang, Hash, GreaterEqual, LessEqual}
use Rattle.program_grammar.specs.Spelling.{token}
use Rattle.token_system.specs.Domain.{is_bound}
use Rattle.token_system.specs.declared.cell.Kind.{Kind}
use Rattle.token_system.specs.declared.cell.Kind.TheVariants as kinds
use Rattle.token_system.specs.declared.cell.Token.{Token}
use Rattle.token_system.specs.declared.cell.Token.TheVariants.{On, Off, Clash, AtLeast, AtMost}
use Rattle.token_system.specs.Tokens.{fits_kind}
use Rattle.token_system.specs.Texts.{text_of}
use Rattle.core_text.specs.GoodNames.{IsName, IsCoreName}
use Rattle.core_text_laws.proofs.CorePhrases.{token_phrase}
use Rattle.core_text_laws.proofs.Written.{append_three, IsWritten, Written, more_written, same_written}

-- a byte that ends each word: white space, which stands in no word and is no digit
pub record IsGap (sp : ℕ) : Type 0 where
  pub white : is_white sp ≡ true
  pub no_word : is_word_byte sp ≡ false
  pub no_digit : is_digit sp ≡ false

pub blank_gap : IsGap 32
blank_gap = record { white = refl; no_word = refl; no_digit = refl }

pub line_gap : IsGap 10
line_gap = record { white = refl; no_word = refl; no_digit = refl }

pub gap_white : (sp : ℕ) → IsGap sp → list_all is_white (sp ∷ []) ≡ true
gap_white sp gap = ap (λ (b : Bool). b && true) gap.white

-- NAMES

pub name_written : {form : TextForm} (x space : List ℕ) {text : List ℕ} {terms : List Term} → IsName form x → list_all is_white space ≡ true → stops is_word_byte (space ++ text) → IsWritten form text terms → IsWritten form (x ++ (space ++ text)) (Name x ∷ terms)
name_written x space name white cut w = more_written x kind.Name space (Name x) name.is white (le-ltb 32 (length x) name.short) cut refl w

-- NUMBERS

digits_shorter : (bytes : List ℕ) → length (digits_of bytes) ≤ length bytes
digits_shorter [] = omega arith
digits_shorter (b ∷ bs) = go (is_minus b)
  where
    go : (m : Bool) → length (if m then bs else b ∷ bs) ≤ suc (length bs)
    go true = omega arith
    go false = omega arith

number_kind : (form : TextForm) (k : ℤ) → is_bound k ≡ true → kind_of form (signed_decimal k) ≡ Some kind.Number
number_kind form (pos n) h = let b : IsTrue (is_bound (pos n)) = h in let lt : n < 10 ^ 9 = grind (arith, ints) in decimal_kind form n (omega arith)
number_kind form (negsuc n) h = let b : IsTrue (is_bound (negsuc n)) = h in let lt : suc n < 10 ^ 9 = grind (arith, ints) in minus_decimal_kind form (suc n) (omega arith)

number_value : (k : ℤ) → is_bound k ≡ true → value_of_number (signed_decimal k) ≡ k
number_value (pos n) h = let b : IsTrue (is_bound (pos n)) = h in let lt : n < 10 ^ 9 = grind (arith, ints) in number_of-decimal n (omega arith)
number_value (negsuc n) h = let b : IsTrue (is_bound (negsuc n)) = h in let lt : suc n < 10 ^ 9 = grind (arith, ints) in number_of-minus_decimal (suc n) (omega arith)

number_short : (k : ℤ) → is_bound k ≡ true → is_long kind.Number (signed_decimal k) ≡ false
number_short (pos n) h =
    let b : IsTrue (is_bound (pos n)) = h in
    let lt : n < 10 ^ 9 = grind (arith, ints) in
    let few = length-decimal-le 9 n (omega arith) lt (omega arith) in
    let less = digits_shorter (decimal n) in
    le-ltb 9 (length (digits_of (decimal n))) (omega arith)
number_short (negsuc n) h =
    let b : IsTrue (is_bound (negsuc n)) = h in
    let lt : suc n < 10 ^ 9 = grind (arith, ints) in
    let few = length-decimal-le 9 (suc n) (omega arith) lt (omega arith) in
    le-ltb 9 (length (decimal (suc n))) few

pub number_written : {form : TextForm} (k : ℤ) (space : List ℕ) {text : List ℕ} {terms : List Term} → is_bound k ≡ true → list_all is_white space ≡ true → stops is_digit (space ++ text) → IsWritten form text terms
    → IsWritten form (signed_decimal k ++ (space ++ text)) (Number k ∷ terms)
number_written {form} k space bound white cut w = more_written (signed_decimal k) kind.Number space (Number k) (number_kind form k bound) white (number_short k bound) cut (ap Number (number_value k bound)) w

-- TOKENS

bang_cut : (bytes : List ℕ) → stops (goes_on kind.Symbol (33 ∷ [])) bytes
bang_cut [] = tt
bang_cut (b ∷ bs) = refl

hash_cut : (bytes : List ℕ) → stops (goes_on kind.Symbol (35 ∷ [])) bytes
hash_cut [] = tt
hash_cut (b ∷ bs) = refl

pub greater_cut : (bytes : List ℕ) → stops (goes_on kind.Symbol (62 ∷ 61 ∷ [])) bytes
greater_cut [] = tt
greater_cut (b ∷ bs) = refl

less_cut : (bytes : List ℕ) → stops (goes_on kind.Symbol (60 ∷ 61 ∷ [])) bytes
less_cut [] = tt
less_cut (b ∷ bs) = refl

-- the bound of a token that fits a cell
least_bound : (k : Kind) (n : ℤ) → IsTrue (fits_kind k (AtLeast n)) → is_bound n ≡ true
least_bound kinds.Signal n h = let e : false ≡ true = h in cc
least_bound kinds.Number n h = h

most_bound : (k : Kind) (n : ℤ) → IsTrue (fits_kind k (AtMost n)) → is_bound n ≡ true
most_bound kinds.Signal n h = let e : false ≡ true = h in cc
most_bound kinds.Number n h = h

pub token_written : (x : List ℕ) (k : Kind) (t : Token) (sp : ℕ) {text : List ℕ} {terms : List Term} → IsCoreName x → IsTrue (fits_kind k t) → IsGap sp → Written text terms
    → Written (text_of x t ++ (sp ∷ text)) (token (token_phrase x t) terms)
token_written x k On sp name fits gap w = name_written x (sp ∷ []) name (gap_white sp gap) gap.no_word w
token_written x k Off sp {text} name fits gap w =
    more_written (33 ∷ []) kind.Symbol [] Bang refl refl refl (bang_cut (x ++ (sp ∷ text))) refl (name_written x (sp ∷ []) name (gap_white sp gap) gap.no_word w)
token_written x k Clash sp {text} name fits gap w =
    more_written (35 ∷ []) kind.Symbol [] Hash refl refl refl (hash_cut (x ++ (sp ∷ text))) refl (name_written x (sp ∷ []) name (gap_white sp gap) gap.no_word w)
token_written x k (AtLeast n) sp {text} name fits gap w =
    same_written (append_three x (62 ∷ 61 ∷ []) (signed_decimal n) (sp ∷ text))
    (name_written x [] name refl refl
    (more_written (62 ∷ 61 ∷ []) kind.Symbol [] GreaterEqual refl refl refl (greater_cut (signed_decimal n ++ (sp ∷ text))) refl
    (number_written n (sp ∷ []) (least_bound k n fits) (gap_white sp gap) gap.no_digit w)))
token_written x k (AtMost n) sp {text} name fits gap w =
    same_written (append_three x (60 ∷ 61 ∷ []) (signed_decimal n) (sp ∷ text))
    (name_written x [] name refl refl
    (more_written (60 ∷ 61 ∷ []) kind.Symbol [] LessEqual refl refl refl (less_cut (signed_decimal n ++ (sp ∷ text))) refl
    (number_written n (sp ∷ []) (most_bound k n fits) (gap_white sp gap) gap.no_digit w)))
