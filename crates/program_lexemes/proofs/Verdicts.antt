-- Each text has lexemes to its end, or a bad byte.
use Rattle.std.proofs.Common.{◌≡◌, ℕ, ◌+◌, ◌<◌, ◌≤◌, List, [], ◌++◌, ◌∷◌, length, take, drop, length-drop, refl, ap, sym, ◌∙◌, arith, Option, Some, None, Bool, true, false, zero, suc, subst, inl, inr}
use Rattle.std.specs.Prelude.{slice_index, ◌⊎◌, is_some}
use Rattle.std.proofs.lemmas.Bool.{cases_lt}
use Rattle.program_lexemes.specs.declared.lexer.LexKind.{LexKind}
use Rattle.program_lexemes.specs.declared.lexer.Lexeme.{Lexeme}
use Rattle.program_lexemes.specs.declared.bytes.TextForm.{TextForm}
use Rattle.program_lexemes.specs.Forms.{is_white, kind_of}
use Rattle.program_lexemes.specs.Lexemes.{IsLongest, NoLexeme, Reads, AreLexemes, IsBad}
use Rattle.program_lexemes.proofs.LongestLexeme.{has_byte}
use Rattle.program_lexemes.proofs.Reading.{start_read, white_read, lexeme_read}

-- the greatest number up to m that passes
record IsGreatest (p : ℕ → Bool) (m n : ℕ) : Type 0 where
  within : n ≤ m
  passes : p n ≡ true
  greatest : (k : ℕ) → k ≤ m → p k ≡ true → k ≤ n

-- no number up to m passes
abbrev NonePass : (ℕ → Bool) → ℕ → Type 0
NonePass p m = (k : ℕ) → k ≤ m → p k ≡ false

below_or_at : (k m : ℕ) → k ≤ suc m → (k ≤ m) ⊎ (k ≡ suc m)
below_or_at k m h = go (cases_lt m k)
  where
    go : (m < k) ⊎ (k ≤ m) → (k ≤ m) ⊎ (k ≡ suc m)
    go (inl a) = inr (omega arith)
    go (inr a) = inl a

-- some number up to m passes, and one of those is the greatest, or none does
greatest_or_none : (p : ℕ → Bool) (m : ℕ) → ((n : ℕ) × IsGreatest p m n) ⊎ NonePass p m
greatest_or_none p zero = go (p 0) refl
  where
    go : (b : Bool) → p 0 ≡ b → ((n : ℕ) × IsGreatest p 0 n) ⊎ NonePass p 0
    go true e = inl (0, record { within = omega arith; passes = e; greatest = λ k h f. h })
    go false e = inr (λ k h. let z : k ≡ 0 = omega arith in ap p z ∙ e)
greatest_or_none p (suc m) = go (p (suc m)) refl (greatest_or_none p m)
  where
    go : (b : Bool) → p (suc m) ≡ b → ((n : ℕ) × IsGreatest p m n) ⊎ NonePass p m → ((n : ℕ) × IsGreatest p (suc m) n) ⊎ NonePass p (suc m)
    go true e below = inl (suc m, record { within = omega arith; passes = e; greatest = λ k h f. h })
    go false e (inl (n, g)) = inl (n, record { within = omega (arith, g.within); passes = g.passes; greatest = λ k h f. at k f (below_or_at k m h) })
      where
        at : (k : ℕ) → p k ≡ true → (k ≤ m) ⊎ (k ≡ suc m) → k ≤ n
        at k f (inl h) = g.greatest k h f
        at k f (inr h) = let no : true ≡ false = sym f ∙ ap p h ∙ e in cc
    go false e (inr none) = inr (λ k h. at k (below_or_at k m h))
      where
        at : (k : ℕ) → (k ≤ m) ⊎ (k ≡ suc m) → p k ≡ false
        at k (inl h) = none k h
        at k (inr h) = ap p h ∙ e

is_none : (o : Option LexKind) → is_some o ≡ false → o ≡ None
is_none None e = refl
is_none (Some k) e = cc

is_one : (o : Option LexKind) → is_some o ≡ true → (k : LexKind) × (o ≡ Some k)
is_one None e = cc
is_one (Some k) e = (k, refl)

-- A longest lexeme stands at the front of some bytes, or none does.
longest_or_none : (form : TextForm) (bytes : List ℕ) → ((size : ℕ) × (k : LexKind) × IsLongest form bytes size k) ⊎ NoLexeme form bytes
longest_or_none form bytes = go (greatest_or_none (λ n. is_some (kind_of form (take n bytes))) (length bytes))
  where
    go : ((n : ℕ) × IsGreatest (λ n. is_some (kind_of form (take n bytes))) (length bytes) n) ⊎ NonePass (λ n. is_some (kind_of form (take n bytes))) (length bytes)
        → ((size : ℕ) × (k : LexKind) × IsLongest form bytes size k) ⊎ NoLexeme form bytes
    go (inl (n, g)) =
        let (k, is) = is_one (kind_of form (take n bytes)) g.passes in
        inl (n, k, record { within = g.within; is = is; longest = λ m h s. g.greatest m h s })
    go (inr none) = inr (λ n h. is_none (kind_of form (take n bytes)) (none n h))

-- the text has lexemes to its end, or a bad byte
abbrev pub Verdict : TextForm → List ℕ → Type 0
Verdict form text = ((ls : List Lexeme) × AreLexemes form text ls) ⊎ ((offset : ℕ) × IsBad form text offset)

-- What is read up to a place, with at most so many bytes left, goes on to the end or to a bad byte.
goes_on : (form : TextForm) (text : List ℕ) (left at : ℕ) (ls : List Lexeme) → at ≤ length text → length text ≤ at + left → Reads form text 0 ls at → Verdict form text
goes_on form text zero at ls within rest read =
    let end : at ≡ length text = omega arith in inl (ls, subst (Reads form text 0 ls) end read)
goes_on form text (suc left) at ls within rest read =
    go (λ at' ls' within' rest' read'. goes_on form text left at' ls' within' rest' read') (cases_lt at (length text)) (is_white (slice_index text at)) refl (longest_or_none form (drop at text))
  where
    go : ((next : ℕ) (ls : List Lexeme) → next ≤ length text → length text ≤ next + left → Reads form text 0 ls next → Verdict form text)
        → (at < length text) ⊎ (length text ≤ at) → (white : Bool) → is_white (slice_index text at) ≡ white
        → ((size : ℕ) × (k : LexKind) × IsLongest form (drop at text) size k) ⊎ NoLexeme form (drop at text) → Verdict form text
    go later (inr h) white e found = let end : at ≡ length text = omega arith in inl (ls, subst (Reads form text 0 ls) end read)
    go later (inl h) true e found = later (at + 1) ls (omega arith) (omega arith) (white_read form text ls 0 at read h e)
    go later (inl h) false e (inl (size, k, is)) =
        let some : 0 < size = has_byte form (drop at text) size k is in
        later (at + size) (ls ++ record { kind = k; start = at; end = at + size } ∷ []) (omega (arith, is.within, length-drop at text)) (omega arith) (lexeme_read form text ls 0 at size k read is within)
    go later (inl h) false e (inr none) = inr (at, record { within = h; dark = e; none = none; before = (ls, read) })

-- Each text has lexemes to its end, or a bad byte.
pub verdict : (form : TextForm) (text : List ℕ) → Verdict form text
verdict form text = goes_on form text (length text) 0 [] (omega arith) (omega arith) (start_read form text)
