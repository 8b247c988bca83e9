-- What has been read goes on, and where its lexemes lie.
use Rattle.std.proofs.Common.{◌≡◌, ℕ, ◌+◌, ◌-◌, ◌<◌, ◌≤◌, List, [], ◌∷◌, ◌++◌, length, take, drop, refl, ap, sym, ◌∙◌, arith, true, zero, suc, inl, inr, length-drop}
use Rattle.std.specs.Prelude.{slice_index, All, ◌⊎◌}
use Rattle.std.proofs.Math.Seq.{take-length}
use Rattle.std.proofs.Math.Nat.{eq-or-lt_of_le}
use Rattle.program_lexemes.specs.declared.lexer.LexKind.{LexKind}
use Rattle.program_lexemes.specs.declared.lexer.Lexeme.{Lexeme}
use Rattle.program_lexemes.specs.declared.bytes.TextForm.{TextForm}
use Rattle.program_lexemes.specs.Forms.{is_white, kind_of}
use Rattle.program_lexemes.specs.Lexemes.{IsLongest, AreWhite, IsLexeme, Reads, IsIn}
use Rattle.program_lexemes.proofs.LongestLexeme.{has_byte}

none_white : (text : List ℕ) (i : ℕ) → i ≤ length text → AreWhite text i i
none_white text i h = record { ordered = omega arith; within = h; each = λ k a b. absurd (omega arith) }

more_white : (text : List ℕ) (i j : ℕ) → AreWhite text i j → j < length text → is_white (slice_index text j) ≡ true → AreWhite text i (j + 1)
more_white text i j w h e = record { ordered = omega (arith, w.ordered); within = omega arith; each = each }
  where
    each : (k : ℕ) → i ≤ k → k < j + 1 → is_white (slice_index text k) ≡ true
    each k a b = go (eq-or-lt_of_le {n = k} {m = j} (omega arith))
      where
        go : (k ≡ j) ⊎ (k < j) → is_white (slice_index text k) ≡ true
        go (inl q) = ap (λ m. is_white (slice_index text m)) q ∙ e
        go (inr q) = w.each k a q

pub start_read : (form : TextForm) (text : List ℕ) → Reads form text 0 [] 0
start_read form text = none_white text 0 (omega arith)

-- white space goes on
pub white_read : (form : TextForm) (text : List ℕ) (ls : List Lexeme) (i j : ℕ) → Reads form text i ls j → j < length text → is_white (slice_index text j) ≡ true → Reads form text i ls (j + 1)
white_read form text [] i j w h e = more_white text i j w h e
white_read form text (l ∷ ls) i j (w, is, r) h e = (w, is, white_read form text ls l.end j r h e)

-- a lexeme more
pub lexeme_read : (form : TextForm) (text : List ℕ) (ls : List Lexeme) (i j n : ℕ) (k : LexKind) → Reads form text i ls j → IsLongest form (drop j text) n k → j ≤ length text → Reads form text i (ls ++ record { kind = k; start = j; end = j + n } ∷ []) (j + n)
lexeme_read form text [] i j n k w is h = (w, record { size = n; ends = refl; longest = is }, none_white text (j + n) (omega (arith, is.within, length-drop j text, h)))
lexeme_read form text (l ∷ ls) i j n k (w, is', r) is h = (w, is', lexeme_read form text ls l.end j n k r is h)

pub whole_rest : (i : ℕ) (text : List ℕ) → take (length text - i) (drop i text) ≡ drop i text
whole_rest i text = ap (λ n. take n (drop i text)) (sym (length-drop i text)) ∙ take-length (drop i text)

pub inside : (form : TextForm) (text : List ℕ) (i n : ℕ) (k : LexKind) → IsLongest form (drop i text) n k → i < length text
inside form text i n k h = let p : 0 < n = has_byte form (drop i text) n k h in omega (arith, h.within, length-drop i text, p)

-- A lexeme of a text lies in it, and its bytes are of its kind.
pub lexeme_in : (form : TextForm) (text : List ℕ) (l : Lexeme) → IsLexeme form text l → IsIn form text l
lexeme_in form text l is =
    let longest = is.longest in
    let some : 0 < is.size = has_byte form (drop l.start text) is.size l.kind longest in
    let size : l.end - l.start ≡ is.size = omega (arith, is.ends) in record {
      ordered = omega (arith, is.ends, some);
      within = omega (arith, is.ends, longest.within, length-drop l.start text, some);
      is = ap (λ n. kind_of form (take n (drop l.start text))) size ∙ longest.is;
    }

-- So do all lexemes of a text.
pub reads_in : (form : TextForm) (text : List ℕ) (ls : List Lexeme) (i j : ℕ) → Reads form text i ls j → All (IsIn form text) ls
reads_in form text [] i j r k d h = absurd (omega arith)
reads_in form text (l ∷ ls) i j (w, is, r) zero d h = lexeme_in form text l is
reads_in form text (l ∷ ls) i j (w, is, r) (suc k) d h = reads_in form text ls l.end j r k d (omega arith)

-- A text has at most as many lexemes as bytes.
pub reads_few : (form : TextForm) (text : List ℕ) (ls : List Lexeme) (i j : ℕ) → Reads form text i ls j → i + length ls ≤ j
reads_few form text [] i j w = omega (arith, w.ordered)
reads_few form text (l ∷ ls) i j (w, is, r) =
    let inside = lexeme_in form text l is in
    let rest : l.end + length ls ≤ j = reads_few form text ls l.end j r in omega (arith, w.ordered, inside.ordered, rest)
