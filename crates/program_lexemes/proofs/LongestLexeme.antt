-- The longest lexeme at the start of some bytes, by their first byte.
use Rattle.std.proofs.Common.{subst, ◌≡◌, ℕ, ◌+◌, ◌<◌, ◌≤◌, List, [], ◌∷◌, length, take, refl, ap, sym, ◌∙◌, arith, add-one, Option, Some, None, Bool, true, false, zero, suc}
use Rattle.std.proofs.lemmas.Bool.{eqb-true}
use Rattle.std.specs.Prelude.{◌≢◌, IsSome, if◌then◌else◌}
use Rattle.std.specs.List.{list_all}
use Rattle.program_lexemes.specs.declared.lexer.LexKind.{LexKind}
use Rattle.program_lexemes.specs.declared.lexer.LexKind.TheVariants as kind
use Rattle.program_lexemes.specs.declared.bytes.TextForm.{TextForm}
use Rattle.program_lexemes.specs.Spellings.{is_symbol}
use Rattle.program_lexemes.specs.Forms.{is_letter, is_digit, is_word_byte, is_minus, is_dollar, are_digits, are_few_digits, word_kind, kind_if, kind_of}
use Rattle.program_lexemes.specs.Prefixes.{IsLongestPrefix, NoPrefix}
use Rattle.program_lexemes.specs.Lexemes.{IsLongest, NoLexeme}

-- the kind of some bytes, by what the first one is
abbrev pub kinds : Bool → Bool → Bool → Bool → ℕ → List ℕ → Option LexKind
kinds letter digit minus dollar b bs =
    if letter then kind_if (list_all is_word_byte bs) (word_kind (b ∷ bs))
    else (if digit then kind_if (list_all is_digit bs) kind.Number
    else (if minus then kind_if (are_digits bs) kind.Number
    else (if dollar then kind_if (are_few_digits bs) kind.Name
    else kind_if (is_symbol (b ∷ bs)) kind.Symbol)))

kind_first : (form : TextForm) (b : ℕ) (bs : List ℕ) (l d m h : Bool) → is_letter b ≡ l → is_digit b ≡ d → is_minus b ≡ m → is_dollar form b ≡ h → kind_of form (b ∷ bs) ≡ kinds l d m h b bs
kind_first form b bs l d m h el ed em eh =
    ap (λ t. kinds t (is_digit b) (is_minus b) (is_dollar form b) b bs) el ∙ ap (λ t. kinds l t (is_minus b) (is_dollar form b) b bs) ed ∙ ap (λ t. kinds l d t (is_dollar form b) b bs) em ∙ ap (λ t. kinds l d m t b bs) eh

-- bytes with this first one are lexemes by a test of the others
abbrev ByTest : TextForm → ℕ → (List ℕ → Bool) → (List ℕ → LexKind) → Type 0
ByTest form b test kind = (bs : List ℕ) → kind_of form (b ∷ bs) ≡ kind_if (test bs) (kind bs)

pub by_letter : (form : TextForm) (b : ℕ) → is_letter b ≡ true → ByTest form b (list_all is_word_byte) (λ bs. word_kind (b ∷ bs))
by_letter form b e = λ bs. kind_first form b bs true _ _ _ e refl refl refl

pub by_digit : (form : TextForm) (b : ℕ) → is_letter b ≡ false → is_digit b ≡ true → ByTest form b (list_all is_digit) (λ bs. kind.Number)
by_digit form b el e = λ bs. kind_first form b bs false true _ _ el e refl refl

pub by_minus : (form : TextForm) (b : ℕ) → is_letter b ≡ false → is_digit b ≡ false → is_minus b ≡ true → ByTest form b are_digits (λ bs. kind.Number)
by_minus form b el ed e = λ bs. kind_first form b bs false false true _ el ed e refl

pub by_dollar : (form : TextForm) (b : ℕ) → is_letter b ≡ false → is_digit b ≡ false → is_minus b ≡ false → is_dollar form b ≡ true → ByTest form b are_few_digits (λ bs. kind.Name)
by_dollar form b el ed em e = λ bs. kind_first form b bs false false false true el ed em e

pub by_symbol : (form : TextForm) (b : ℕ) → is_letter b ≡ false → is_digit b ≡ false → is_minus b ≡ false → is_dollar form b ≡ false → ByTest form b (λ bs. is_symbol (b ∷ bs)) (λ bs. kind.Symbol)
by_symbol form b el ed em eh = λ bs. kind_first form b bs false false false false el ed em eh

pub some_true : (t : Bool) (k : LexKind) → IsSome (kind_if t k) → t ≡ true
some_true true k h = refl
some_true false k h = cc

-- the longest front of the others that passes makes the longest lexeme
pub longest_behind : (form : TextForm) (b : ℕ) (bs : List ℕ) (n : ℕ) (test : List ℕ → Bool) (kind : List ℕ → LexKind) → ByTest form b test kind → IsLongestPrefix test bs n → IsLongest form (b ∷ bs) (suc n) (kind (take n bs))
longest_behind form b bs n test kind by front = record {
  within = omega (arith, front.within);
  is = by (take n bs) ∙ ap (λ t. kind_if t (kind (take n bs))) front.passes;
  longest = longest;
}
  where
    longest : (m : ℕ) → m ≤ length (b ∷ bs) → IsSome (kind_of form (take m (b ∷ bs))) → m ≤ suc n
    longest zero h s = omega arith
    longest (suc m) h s =
        let within : m ≤ n = front.longest m (omega arith) (some_true (test (take m bs)) (kind (take m bs)) (subst IsSome (by (take m bs)) s)) in omega arith

pub none_behind : (form : TextForm) (b : ℕ) (bs : List ℕ) (test : List ℕ → Bool) (kind : List ℕ → LexKind) → ByTest form b test kind → NoPrefix test bs → NoLexeme form (b ∷ bs)
none_behind form b bs test kind by front zero h = refl
none_behind form b bs test kind by front (suc m) h = by (take m bs) ∙ ap (λ t. kind_if t (kind (take m bs))) (front m (omega arith))

-- the same of symbols, where the first byte is looked at with the others
pub longest_symbol : (form : TextForm) (b : ℕ) (bs : List ℕ) (n : ℕ) → ByTest form b (λ bs. is_symbol (b ∷ bs)) (λ bs. kind.Symbol) → IsLongestPrefix is_symbol (b ∷ bs) n → IsLongest form (b ∷ bs) n kind.Symbol
longest_symbol form b bs zero by front = let none : false ≡ true = front.passes in cc
longest_symbol form b bs (suc n) by front = longest_behind form b bs n (λ bs. is_symbol (b ∷ bs)) (λ bs. kind.Symbol) by record {
  within = let within = front.within in omega arith;
  passes = front.passes;
  longest = λ m h e. let within : suc m ≤ suc n = front.longest (suc m) (omega arith) e in omega arith;
}

pub no_symbol_front : (form : TextForm) (b : ℕ) (bs : List ℕ) → ByTest form b (λ bs. is_symbol (b ∷ bs)) (λ bs. kind.Symbol) → NoPrefix is_symbol (b ∷ bs) → NoLexeme form (b ∷ bs)
no_symbol_front form b bs by front = none_behind form b bs (λ bs. is_symbol (b ∷ bs)) (λ bs. kind.Symbol) by (λ m h. front (suc m) (omega arith))

pub no_bytes : (form : TextForm) → NoLexeme form []
no_bytes form zero h = refl
no_bytes form (suc m) h = refl

-- a lexeme has a byte
pub has_byte : (form : TextForm) (bytes : List ℕ) (n : ℕ) (k : LexKind) → IsLongest form bytes n k → 0 < n
has_byte form bytes zero k h = let e : ◌≡◌ {A = Option LexKind} None (Some k) = h.is in cc
has_byte form bytes (suc n) k h = omega arith

-- the same of bytes that are known to begin so, and of a length and a kind that are known to be these
pub longest_at : (form : TextForm) (bytes : List ℕ) (b : ℕ) (bs : List ℕ) (n m : ℕ) (test : List ℕ → Bool) (kind : List ℕ → LexKind) (k : LexKind) → bytes ≡ b ∷ bs → n ≡ m → k ≡ kind (take n bs) → ByTest form b test kind → IsLongestPrefix test bs m → IsLongest form bytes (n + 1) k
longest_at form bytes b bs n m test kind k eb en ek by front =
    subst (λ (l : List ℕ). IsLongest form l (n + 1) k) (sym eb)
    (subst (λ (i : ℕ). IsLongest form (b ∷ bs) i k) (ap suc (sym en) ∙ sym (add-one n))
    (subst (λ (j : LexKind). IsLongest form (b ∷ bs) (suc m) j) (ap (λ i. kind (take i bs)) (sym en) ∙ sym ek) (longest_behind form b bs m test kind by front)))

pub none_at : (form : TextForm) (bytes : List ℕ) (b : ℕ) (bs : List ℕ) (test : List ℕ → Bool) (kind : List ℕ → LexKind) → bytes ≡ b ∷ bs → ByTest form b test kind → NoPrefix test bs → NoLexeme form bytes
none_at form bytes b bs test kind eb by front = subst (NoLexeme form) (sym eb) (none_behind form b bs test kind by front)

pub symbol_at : (form : TextForm) (bytes : List ℕ) (b : ℕ) (bs : List ℕ) (n : ℕ) → bytes ≡ b ∷ bs → ByTest form b (λ bs. is_symbol (b ∷ bs)) (λ bs. kind.Symbol) → IsLongestPrefix is_symbol bytes n → IsLongest form bytes n kind.Symbol
symbol_at form bytes b bs n eb by front = subst (λ (l : List ℕ). IsLongest form l n kind.Symbol) (sym eb) (longest_symbol form b bs n by (subst (λ (l : List ℕ). IsLongestPrefix is_symbol l n) eb front))

pub no_symbol_at : (form : TextForm) (bytes : List ℕ) (b : ℕ) (bs : List ℕ) → bytes ≡ b ∷ bs → ByTest form b (λ bs. is_symbol (b ∷ bs)) (λ bs. kind.Symbol) → NoPrefix is_symbol bytes → NoLexeme form bytes
no_symbol_at form bytes b bs eb by front = subst (NoLexeme form) (sym eb) (no_symbol_front form b bs by (subst (NoPrefix is_symbol) eb front))

pub no_minus : (b : ℕ) → b ≢ 45 → is_minus b ≡ false
no_minus b h = go (is_minus b) refl
  where
    go : (t : Bool) → is_minus b ≡ t → t ≡ false
    go true e = absurd (h (eqb-true b 45 e))
    go false e = refl
