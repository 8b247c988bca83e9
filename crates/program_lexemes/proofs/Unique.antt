-- A text has one list of lexemes, or one bad byte.
use Rattle.std.proofs.Common.{◌≡◌, ℕ, ◌+◌, ◌<◌, ◌≤◌, List, [], ◌∷◌, length, take, drop, refl, ap, sym, ◌∙◌, arith, Option, Some, None, true, false, zero, suc, subst, inl, inr, get_or}
use Rattle.std.specs.Prelude.{slice_index, ◌⊎◌, IsSome, is_some, nat_eq, ◌||◌}
use Rattle.std.proofs.lemmas.Bool.{or_cases, eqb-true, cases_lt}
use Rattle.std.proofs.lemmas.List.{get_or-drop}
use Rattle.program_lexemes.specs.declared.lexer.LexKind.{LexKind}
use Rattle.program_lexemes.specs.declared.lexer.Lexeme.{Lexeme}
use Rattle.program_lexemes.specs.declared.bytes.TextForm.{TextForm}
use Rattle.program_lexemes.specs.declared.bytes.TextForm.TheVariants.{Program, Core}
use Rattle.program_lexemes.specs.Forms.{is_white, kind_of}
use Rattle.program_lexemes.specs.Lexemes.{IsLongest, NoLexeme, AreWhite, IsLexeme, Reads, AreLexemes, IsBad}
use Rattle.program_lexemes.proofs.Reading.{inside, lexeme_in, reads_few}

blank_32 : (form : TextForm) (bs : List ℕ) → kind_of form (32 ∷ bs) ≡ None
blank_32 Program bs = refl
blank_32 Core bs = refl

blank_9 : (form : TextForm) (bs : List ℕ) → kind_of form (9 ∷ bs) ≡ None
blank_9 Program bs = refl
blank_9 Core bs = refl

blank_13 : (form : TextForm) (bs : List ℕ) → kind_of form (13 ∷ bs) ≡ None
blank_13 Program bs = refl
blank_13 Core bs = refl

blank_10 : (form : TextForm) (bs : List ℕ) → kind_of form (10 ∷ bs) ≡ None
blank_10 Program bs = refl
blank_10 Core bs = refl

-- no lexeme begins with white space
white_none : (form : TextForm) (b : ℕ) (bs : List ℕ) → is_white b ≡ true → kind_of form (b ∷ bs) ≡ None
white_none form b bs h = last (or_cases (nat_eq b 32 || nat_eq b 9 || nat_eq b 13) (nat_eq b 10) h)
  where
    at : (n : ℕ) → nat_eq b n ≡ true → kind_of form (n ∷ bs) ≡ None → kind_of form (b ∷ bs) ≡ None
    at n e k = ap (λ m. kind_of form (m ∷ bs)) (eqb-true b n e) ∙ k

    first : (nat_eq b 32 ≡ true) ⊎ (nat_eq b 9 ≡ true) → kind_of form (b ∷ bs) ≡ None
    first (inl e) = at 32 e (blank_32 form bs)
    first (inr e) = at 9 e (blank_9 form bs)

    second : ((nat_eq b 32 || nat_eq b 9) ≡ true) ⊎ (nat_eq b 13 ≡ true) → kind_of form (b ∷ bs) ≡ None
    second (inl e) = first (or_cases (nat_eq b 32) (nat_eq b 9) e)
    second (inr e) = at 13 e (blank_13 form bs)

    last : ((nat_eq b 32 || nat_eq b 9 || nat_eq b 13) ≡ true) ⊎ (nat_eq b 10 ≡ true) → kind_of form (b ∷ bs) ≡ None
    last (inl e) = second (or_cases (nat_eq b 32 || nat_eq b 9) (nat_eq b 13) e)
    last (inr e) = at 10 e (blank_10 form bs)

dark_front : (form : TextForm) (bytes : List ℕ) (n : ℕ) (k : LexKind) → IsLongest form bytes n k → is_white (get_or bytes 0 0) ≡ true → ⊥
dark_front form [] zero k h w = let e : ◌≡◌ {A = Option LexKind} None (Some k) = h.is in cc
dark_front form [] (suc n) k h w = absurd (omega (arith, h.within))
dark_front form (b ∷ bs) zero k h w = let e : ◌≡◌ {A = Option LexKind} None (Some k) = h.is in cc
dark_front form (b ∷ bs) (suc n) k h w = let e : ◌≡◌ {A = Option LexKind} None (Some k) = sym (white_none form b (take n bs) w) ∙ h.is in cc

-- where a lexeme begins there is no white space
dark : (form : TextForm) (text : List ℕ) (l : Lexeme) → IsLexeme form text l → is_white (slice_index text l.start) ≡ true → ⊥
dark form text l h w = dark_front form (drop l.start text) h.size l.kind h.longest (ap is_white (get_or-drop l.start text 0 0 ∙ ap (λ m. get_or text m 0) (add_none l.start)) ∙ w)
  where
    add_none : (m : ℕ) → m + 0 ≡ m
    add_none m = omega arith

-- a lexeme begins in the text
begun : (form : TextForm) (text : List ℕ) (l : Lexeme) → IsLexeme form text l → l.start < length text
begun form text l h = inside form text l.start h.size l.kind h.longest

-- two lexemes behind white space begin at one place
one_start : (form : TextForm) (text : List ℕ) (i : ℕ) (l m : Lexeme) → AreWhite text i l.start → AreWhite text i m.start → IsLexeme form text l → IsLexeme form text m → l.start ≡ m.start
one_start form text i l m wl wm a b = go (cases_lt l.start m.start) (cases_lt m.start l.start)
  where
    go : (l.start < m.start) ⊎ (m.start ≤ l.start) → (m.start < l.start) ⊎ (l.start ≤ m.start) → l.start ≡ m.start
    go (inl h) q = absurd (dark form text l a (wm.each l.start wl.ordered h))
    go (inr h) (inl q) = absurd (dark form text m b (wl.each m.start wm.ordered q))
    go (inr h) (inr q) = omega arith

one_kind : (form : TextForm) (bytes : List ℕ) (n m : ℕ) (k l : LexKind) → IsLongest form bytes n k → IsLongest form bytes m l → (n ≡ m) × (k ≡ l)
one_kind form bytes n m k l a b =
    let some_a : IsSome (kind_of form (take n bytes)) = ap is_some a.is in
    let some_b : IsSome (kind_of form (take m bytes)) = ap is_some b.is in
    let p : m ≤ n = a.longest m b.within some_b in
    let q : n ≤ m = b.longest n a.within some_a in
    let e : n ≡ m = omega arith in
    let f : Some k ≡ Some l = sym a.is ∙ ap (λ i. kind_of form (take i bytes)) e ∙ b.is in
    (e, cc)

abbrev lexeme : LexKind → ℕ → ℕ → Lexeme
lexeme k s e = record { kind = k; start = s; end = e }

-- two lexemes behind white space are one
one_lexeme : (form : TextForm) (text : List ℕ) (i : ℕ) (l m : Lexeme) → AreWhite text i l.start → AreWhite text i m.start → IsLexeme form text l → IsLexeme form text m → l ≡ m
one_lexeme form text i l m wl wm a b =
    let s : l.start ≡ m.start = one_start form text i l m wl wm a b in
    let P : ℕ → Type 0 = λ j. IsLongest form (drop j text) a.size l.kind in
    let (en, ek) = one_kind form (drop m.start text) a.size b.size l.kind m.kind (subst P s a.longest) b.longest in
    let ends : l.end ≡ m.end = omega (arith, s, en, a.ends, b.ends) in
    ap (λ k. lexeme k l.start l.end) ek ∙ ap (λ j. lexeme m.kind j l.end) s ∙ ap (λ j. lexeme m.kind m.start j) ends

-- A text with lexemes to its end has no others.
pub unique : (form : TextForm) (text : List ℕ) (ls ms : List Lexeme) (i : ℕ) → Reads form text i ls (length text) → Reads form text i ms (length text) → ls ≡ ms
unique form text [] [] i a b = refl
unique form text [] (m ∷ ms) i a (w, is, r) = absurd (dark form text m is (a.each m.start w.ordered (begun form text m is)))
unique form text (l ∷ ls) [] i (w, is, r) b = absurd (dark form text l is (b.each l.start w.ordered (begun form text l is)))
unique form text (l ∷ ls) (m ∷ ms) i (w, is, r) (w', is', r') =
    let whole : l ≡ m = one_lexeme form text i l m w w' is is' in
    let Q : Lexeme → Type 0 = λ j. Reads form text j.end ls (length text) in
    let tail : ls ≡ ms = unique form text ls ms m.end (subst Q whole r) r' in
    ap (λ x. x ∷ ls) whole ∙ ap (λ xs. m ∷ xs) tail

-- What is read up to a place has no bad byte before that place.
no_bad_byte : (form : TextForm) (text : List ℕ) (ls ms : List Lexeme) (i stop p : ℕ) → Reads form text i ls stop → Reads form text i ms p → p < stop → is_white (slice_index text p) ≡ false → NoLexeme form (drop p text) → ⊥
no_bad_byte form text [] [] i stop p a b h d none = let e : is_white (slice_index text p) ≡ true = a.each p b.ordered h in cc
no_bad_byte form text [] (m ∷ ms) i stop p a (w, is, r) h d none =
    let inner = lexeme_in form text m is in
    let rest = reads_few form text ms m.end p r in dark form text m is (a.each m.start w.ordered (omega (arith, inner.ordered, rest, h)))
no_bad_byte form text (l ∷ ls) [] i stop p (w, is, r) b h d none = at (cases_lt l.start p) (cases_lt p l.start)
  where
    no : p ≡ l.start → ⊥
    no q =
        let longest : IsLongest form (drop p text) is.size l.kind = let P : ℕ → Type 0 = λ j. IsLongest form (drop j text) is.size l.kind in subst P (sym q) is.longest in
        let e : ◌≡◌ {A = Option LexKind} None (Some l.kind) = sym (none is.size longest.within) ∙ longest.is in cc

    at : (l.start < p) ⊎ (p ≤ l.start) → (p < l.start) ⊎ (l.start ≤ p) → ⊥
    at (inl q) x = dark form text l is (b.each l.start w.ordered q)
    at (inr q) (inl x) = let y : is_white (slice_index text p) ≡ true = w.each p b.ordered x in cc
    at (inr q) (inr x) = no (omega arith)
no_bad_byte form text (l ∷ ls) (m ∷ ms) i stop p (w, is, r) (w', is', r') h d none =
    let whole : l ≡ m = one_lexeme form text i l m w w' is is' in
    let Q : Lexeme → Type 0 = λ j. Reads form text j.end ls stop in
    no_bad_byte form text ls ms m.end stop p (subst Q whole r) r' h d none

-- So a text with lexemes to its end has none.
pub lexed_not_bad : (form : TextForm) (text : List ℕ) (ls : List Lexeme) (p : ℕ) → AreLexemes form text ls → IsBad form text p → ⊥
lexed_not_bad form text ls p a b = no_bad_byte form text ls b.before.0 0 (length text) p a b.before.1 b.within b.dark b.none

-- A text has one bad byte at most.
pub one_bad_byte : (form : TextForm) (text : List ℕ) (p q : ℕ) → IsBad form text p → IsBad form text q → p ≡ q
one_bad_byte form text p q a b = go (cases_lt p q) (cases_lt q p)
  where
    go : (p < q) ⊎ (q ≤ p) → (q < p) ⊎ (p ≤ q) → p ≡ q
    go (inl h) x = absurd (no_bad_byte form text b.before.0 a.before.0 0 q p b.before.1 a.before.1 h a.dark a.none)
    go (inr h) (inl k) = absurd (no_bad_byte form text a.before.0 b.before.0 0 p q a.before.1 b.before.1 k b.dark b.none)
    go (inr h) (inr k) = omega arith
