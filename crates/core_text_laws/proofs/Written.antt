-- Texts of a form that are written piece by piece, with the terms that they say.
use Rattle.std.proofs.Common.{◌≡◌, ℕ, suc, ◌+◌, ◌-◌, Bool, true, false, List, [], ◌∷◌, ◌++◌, length, take, drop, Some, None, refl, sym, ap, ◌∙◌, subst, arith, append_assoc, length-append}
use Rattle.std.specs.Prelude.{map, position, not, ◌&&◌, cond}
use Rattle.std.specs.List.{list_all, position_or_len}
use Rattle.std.proofs.lemmas.Bool.{le-ltb}
use Rattle.std.proofs.Math.Seq.{drop-append_seam, take-append_seam}
use Rattle.program_lexemes.specs.declared.lexer.LexKind.{LexKind}
use Rattle.program_lexemes.specs.declared.lexer.Lexeme.{Lexeme}
use Rattle.program_lexemes.specs.declared.bytes.TextForm.{TextForm}
use Rattle.program_lexemes.specs.declared.bytes.TextForm.TheVariants as forms
use Rattle.program_lexemes.specs.Forms.{kind_of, is_white}
use Rattle.program_lexemes.specs.Lexemes.{AreLexemes, bytes_of_lexeme}
use Rattle.program_lexemes.specs.Numbers.{is_long}
use Rattle.program_lexemes.specs.SpacedLexemes.{SpacedLexeme, spaced_text, spans, goes_on, stops, AreCut}
use Rattle.program_lexemes.proofs.Joined.{joined_reads}
use Rattle.program_grammar.specs.Terms.{Term}
use Rattle.tdcc_reader.specs.LexemeTerms.{term_of_lexeme, terms_of, too_long}

pub append_three : (a b c rest : List ℕ) → ((a ++ b) ++ c) ++ rest ≡ a ++ (b ++ (c ++ rest))
append_three a b c rest = append_assoc (a ++ b) c rest ∙ append_assoc a b (c ++ rest)

-- no piece is too long
abbrev AreShort : List SpacedLexeme → Type 0
AreShort [] = Unit {0}
AreShort (q ∷ ps) = (is_long q.kind q.bytes ≡ false) × AreShort ps

-- what the pieces say
abbrev said : List SpacedLexeme → List Term
said [] = []
said (q ∷ ps) = term_of_lexeme q.kind q.bytes ∷ said ps

-- the text is made of pieces that say these terms
pub record IsWritten (form : TextForm) (text : List ℕ) (terms : List Term) : Type 0 where
  pub pieces : List SpacedLexeme
  pub text_is : spaced_text pieces ≡ text
  pub cut : AreCut form pieces
  pub short : AreShort pieces
  pub terms_are : said pieces ≡ terms

-- as a core text
abbrev pub Written : List ℕ → List Term → Type 0
Written text terms = IsWritten forms.Core text terms

pub none_written : {form : TextForm} → IsWritten form [] []
none_written = record { pieces = []; text_is = refl; cut = tt; short = tt; terms_are = refl }

-- a piece more, in front
pub more_written : {form : TextForm} (bytes : List ℕ) (k : LexKind) (space : List ℕ) (term : Term) {text : List ℕ} {terms : List Term} → kind_of form bytes ≡ Some k → list_all is_white space ≡ true → is_long k bytes ≡ false
    → stops (goes_on k bytes) (space ++ text) → term_of_lexeme k bytes ≡ term → IsWritten form text terms → IsWritten form (bytes ++ (space ++ text)) (term ∷ terms)
more_written bytes k space term {text} {terms} is white short cut say w = record {
  pieces = record { bytes = bytes; kind = k; space = space } ∷ w.pieces;
  text_is = ap (λ (t : List ℕ). bytes ++ (space ++ t)) w.text_is;
  cut = (record { is = is; white = white; cut = subst (λ (t : List ℕ). stops (goes_on k bytes) (space ++ t)) (sym w.text_is) cut }, w.cut);
  short = (short, w.short);
  terms_are = ap (λ (t : Term). t ∷ said w.pieces) say ∙ ap (λ (ts : List Term). term ∷ ts) w.terms_are;
}

-- the same text
pub same_written : {form : TextForm} {text other : List ℕ} {terms : List Term} → other ≡ text → IsWritten form text terms → IsWritten form other terms
same_written e w = record { pieces = w.pieces; text_is = w.text_is ∙ sym e; cut = w.cut; short = w.short; terms_are = w.terms_are }

-- LEXEMES

first_bytes : (pre bytes rest : List ℕ) (n : ℕ) → n ≡ length pre → take (n + length bytes - n) (drop n (pre ++ (bytes ++ rest))) ≡ bytes
first_bytes pre bytes rest n e =
    let f : n + length bytes - n ≡ length bytes = omega arith in
    ap (λ (k : ℕ). take k (drop n (pre ++ (bytes ++ rest)))) f
    ∙ ap (λ (k : ℕ). take (length bytes) (drop k (pre ++ (bytes ++ rest)))) e
    ∙ ap (take (length bytes)) (drop-append_seam pre (bytes ++ rest))
    ∙ take-append_seam bytes rest

long : (pre a b : List ℕ) → length ((pre ++ a) ++ b) ≡ length pre + length a + length b
long pre a b = length-append (pre ++ a) b ∙ ap (λ (n : ℕ). n + length b) (length-append pre a)

-- what is read off the bytes of each lexeme is read off those of its piece
abbrev read_all : {X : Type 0} → (LexKind → List ℕ → X) → List SpacedLexeme → List X
read_all f [] = []
read_all f (q ∷ ps) = f q.kind q.bytes ∷ read_all f ps

spans_read : {X : Type 0} (f : LexKind → List ℕ → X) (ps : List SpacedLexeme) (pre : List ℕ) (n : ℕ) → n ≡ length pre → map (λ l. f l.kind (bytes_of_lexeme (pre ++ spaced_text ps) l)) (spans n ps) ≡ read_all f ps
spans_read f [] pre n e = refl
spans_read {X} f (q ∷ ps) pre n e =
    let whole : List ℕ = pre ++ spaced_text (q ∷ ps) in
    let front : List ℕ = (pre ++ q.bytes) ++ q.space in
    ap (λ (x : X). x ∷ map (λ l. f l.kind (bytes_of_lexeme whole l)) (spans (n + length q.bytes + length q.space) ps)) (ap (f q.kind) (first_bytes pre q.bytes (q.space ++ spaced_text ps) n e))
    ∙ ap (λ (t : List ℕ). f q.kind q.bytes ∷ map (λ l. f l.kind (bytes_of_lexeme t l)) (spans (n + length q.bytes + length q.space) ps)) (sym (append_three pre q.bytes q.space (spaced_text ps)))
    ∙ ap (λ (xs : List X). f q.kind q.bytes ∷ xs) (spans_read f ps front (n + length q.bytes + length q.space) (let l = long pre q.bytes q.space in omega arith))

said-read : (ps : List SpacedLexeme) → read_all term_of_lexeme ps ≡ said ps
said-read [] = refl
said-read (q ∷ ps) = ap (λ (ts : List Term). term_of_lexeme q.kind q.bytes ∷ ts) (said-read ps)

-- no element passes a test where none of the answers is true
none_passes : {X : Type 0} (test : X → Bool) (xs : List X) → list_all (λ (b : Bool). not b) (map test xs) ≡ true → position_or_len test xs ≡ length xs
none_passes test [] h = refl
none_passes test (x ∷ xs) h = go (test x) h (none_passes test xs)
  where
    go : (b : Bool) → (not b && list_all (λ (c : Bool). not c) (map test xs)) ≡ true → (list_all (λ (c : Bool). not c) (map test xs) ≡ true → position_or_len test xs ≡ length xs) → cond (not b) (1 + position_or_len test xs) 0 ≡ suc (length xs)
    go true e rest = let f : false ≡ true = e in cc
    go false e rest = let r = rest e in omega arith

no_position : {X : Type 0} (test : X → Bool) (xs : List X) → list_all (λ (b : Bool). not b) (map test xs) ≡ true → position test xs ≡ None
no_position test xs h =
    let e = none_passes test xs h in
    ap (λ (b : Bool). cond b (Some (position_or_len test xs)) None) (le-ltb (position_or_len test xs) (length xs) (omega arith))

short_read : (ps : List SpacedLexeme) → AreShort ps → list_all (λ (b : Bool). not b) (read_all is_long ps) ≡ true
short_read [] h = refl
short_read (q ∷ ps) h = ap (λ (b : Bool). not b && list_all (λ (c : Bool). not c) (read_all is_long ps)) h.0 ∙ short_read ps h.1

-- The lexemes of a written text, which are not too long, and their terms.
pub record Lexed (form : TextForm) (text : List ℕ) (terms : List Term) : Type 0 where
  pub lexemes : List Lexeme
  pub lexed : AreLexemes form text lexemes
  pub short : position (too_long text) lexemes ≡ None
  pub terms_are : terms_of text lexemes ≡ terms

pub written_lexed : (form : TextForm) (text : List ℕ) (terms : List Term) → IsWritten form text terms → Lexed form text terms
written_lexed form text terms w =
    let P : List ℕ → Type 0 = λ t. Lexed form t terms in
    subst P w.text_is (record {
      lexemes = spans 0 w.pieces;
      lexed = joined_reads form w.pieces w.cut;
      short = no_position (too_long (spaced_text w.pieces)) (spans 0 w.pieces) (ap (list_all (λ (b : Bool). not b)) (spans_read is_long w.pieces [] 0 refl) ∙ short_read w.pieces w.short);
      terms_are = spans_read term_of_lexeme w.pieces [] 0 refl ∙ said-read w.pieces ∙ w.terms_are;
    })
