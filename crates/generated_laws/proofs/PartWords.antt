-- The text of a generated program says the terms of its phrase.
use Rattle.std.proofs.Common.{◌≡◌, ℕ, zero, suc, ◌+◌, ◌<◌, ◌≤◌, pos, Bool, true, false, List, [], ◌∷◌, ◌++◌, length, Option, Some, None, refl, sym, ap, ◌∙◌, append_assoc, codes, decimal, map, arith}
use Rattle.std.specs.Prelude.{nat_le, ◌&&◌}
use Rattle.std.specs.List.{list_all, range_with_len}
use Rattle.std.specs.Fmt.{digits}
use Rattle.std.proofs.lemmas.List.{append-nil}
use Rattle.program_lexemes.specs.declared.lexer.LexKind.{LexKind}
use Rattle.program_lexemes.specs.declared.lexer.LexKind.TheVariants as kind
use Rattle.program_lexemes.specs.declared.bytes.TextForm.TheVariants.{Program}
use Rattle.program_lexemes.specs.Forms.{kind_of, is_white, is_word_byte, is_digit}
use Rattle.program_lexemes.specs.SpacedLexemes.{stops}
use Rattle.program_lexemes.proofs.PrefixLengths.{and_left, and_right}
use Rattle.program_grammar.specs.Terms.{Term, Name, Number, Signal, Int, In, If, Then, Else, Next, Always, When, Do, Watching, Semicolon, Comma, Range, Bars, GreaterEqual}
use Rattle.program_grammar.specs.Spelling.{names, items, unit, agent, program}
use Rattle.token_system.specs.Domain.{is_bound}
use Rattle.agent_core.specs.Strata.{Each}
use Rattle.core_text.specs.GoodNames.{IsName}
use Rattle.trace_text.specs.Generated.{signal_name, number_name, number_text, signals_text, numbers_text}
use Rattle.trace_text.specs.Writing.{separated}
use Rattle.core_text_laws.proofs.Written.{append_three, IsWritten, none_written, more_written, same_written}
use Rattle.core_text_laws.proofs.CoreWords.{name_written, number_written, greater_cut}
use Rattle.core_text_laws.proofs.CoreAgents.{four, range_cut}
use Rattle.generated_laws.specs.GeneratedUnits.{GeneratedUnit, Follows, Defaults, Delays, Starts, Ends, Bounds}
use Rattle.generated_laws.proofs.Rows.{row_passes}
use Rattle.generated_laws.proofs.Parts.{IsPart, part_text}
use Rattle.generated_laws.proofs.PartPhrases.{part_phrase, agent_phrase, signals_phrase, numbers_phrase, numbers, program_phrase}

-- a text is written as a program text
abbrev pub Says : List ℕ → List Term → Type 0
Says text terms = IsWritten Program text terms

-- NAMES

-- a test for names
abbrev is_name_kind : Option LexKind → Bool
is_name_kind (Some kind.Name) = true
is_name_kind _ = false

abbrev is_name : List ℕ → Bool
is_name x = is_name_kind (kind_of Program x) && nat_le (length x) 32

name_kind : (o : Option LexKind) → is_name_kind o ≡ true → o ≡ Some kind.Name
name_kind (Some kind.Name) e = refl
name_kind (Some kind.Keyword) e = cc
name_kind (Some kind.Number) e = cc
name_kind (Some kind.Symbol) e = cc
name_kind None e = cc

short_name : (n : ℕ) → nat_le n 32 ≡ true → n ≤ 32
short_name n e = grind arith

passed_name : (x : List ℕ) → is_name x ≡ true → IsName Program x
passed_name x e = record {
  is = name_kind (kind_of Program x) (and_left (is_name_kind (kind_of Program x)) (nat_le (length x) 32) e);
  short = short_name (length x) (and_right (is_name_kind (kind_of Program x)) (nat_le (length x) 32) e);
}

pub signal_is : (j : ℕ) → j < 32 → IsName Program (signal_name j)
unfolding digits
signal_is j few = passed_name (signal_name j) (row_passes (λ k. is_name (signal_name k)) 0 32 refl j (omega arith) (omega arith))

pub number_is : (i : ℕ) → i < 8 → IsName Program (number_name i)
unfolding digits
number_is i few = passed_name (number_name i) (row_passes (λ k. is_name (number_name k)) 0 8 refl i (omega arith) (omega arith))

-- PARTS

-- the bytes behind a unit: white space, or the end, where no word and no number goes on
pub record IsEnd (space text : List ℕ) : Type 0 where
  pub white : list_all is_white space ≡ true
  pub no_word : stops is_word_byte (space ++ text)
  pub no_digit : stops is_digit (space ++ text)

six : (a b c d e f rest : List ℕ) → (((((a ++ b) ++ c) ++ d) ++ e) ++ f) ++ rest ≡ a ++ (b ++ (c ++ (d ++ (e ++ (f ++ rest)))))
six a b c d e f rest = append_assoc ((((a ++ b) ++ c) ++ d) ++ e) f rest ∙ append_assoc (((a ++ b) ++ c) ++ d) e (f ++ rest) ∙ four a b c d (e ++ (f ++ rest))

small_bound : (k : ℕ) → k < 100 → is_bound (pos k) ≡ true
small_bound k few = grind arith

part_says : (u : GeneratedUnit) → IsPart u → (space text : List ℕ) (terms : List Term) → IsEnd space text → Says text terms → Says (part_text u ++ (space ++ text)) (unit (part_phrase u) terms)
part_says (Follows i j) (few, less) space text terms end w =
    same_written (four (codes "always if ") (signal_name i) (codes " then ") (signal_name j) (space ++ text))
    (more_written (codes "always") kind.Keyword (32 ∷ []) Always refl refl refl refl refl
    (more_written (codes "if") kind.Keyword (32 ∷ []) If refl refl refl refl refl
    (name_written (signal_name i) (32 ∷ []) (signal_is i (omega arith)) refl refl
    (more_written (codes "then") kind.Keyword (32 ∷ []) Then refl refl refl refl refl
    (name_written (signal_name j) space (signal_is j few) end.white end.no_word w)))))
part_says (Defaults i j) (few, less) space text terms end w =
    same_written (four (codes "always if ") (signal_name i) (codes " else ") (signal_name j) (space ++ text))
    (more_written (codes "always") kind.Keyword (32 ∷ []) Always refl refl refl refl refl
    (more_written (codes "if") kind.Keyword (32 ∷ []) If refl refl refl refl refl
    (name_written (signal_name i) (32 ∷ []) (signal_is i (omega arith)) refl refl
    (more_written (codes "else") kind.Keyword (32 ∷ []) Else refl refl refl refl refl
    (name_written (signal_name j) space (signal_is j few) end.white end.no_word w)))))
part_says (Delays i j) (few, less) space text terms end w =
    same_written (four (codes "always if ") (signal_name i) (codes " then next ") (signal_name j) (space ++ text))
    (more_written (codes "always") kind.Keyword (32 ∷ []) Always refl refl refl refl refl
    (more_written (codes "if") kind.Keyword (32 ∷ []) If refl refl refl refl refl
    (name_written (signal_name i) (32 ∷ []) (signal_is i (omega arith)) refl refl
    (more_written (codes "then") kind.Keyword (32 ∷ []) Then refl refl refl refl refl
    (more_written (codes "next") kind.Keyword (32 ∷ []) Next refl refl refl refl refl
    (name_written (signal_name j) space (signal_is j few) end.white end.no_word w))))))
part_says (Starts i j) (few, less) space text terms end w =
    same_written (four (codes "when ") (signal_name i) (codes " do always ") (signal_name j) (space ++ text))
    (more_written (codes "when") kind.Keyword (32 ∷ []) When refl refl refl refl refl
    (name_written (signal_name i) (32 ∷ []) (signal_is i (omega arith)) refl refl
    (more_written (codes "do") kind.Keyword (32 ∷ []) Do refl refl refl refl refl
    (more_written (codes "always") kind.Keyword (32 ∷ []) Always refl refl refl refl refl
    (name_written (signal_name j) space (signal_is j few) end.white end.no_word w)))))
part_says (Ends i j h) (few, less, stop) space text terms end w =
    same_written (six (codes "do always if ") (signal_name i) (codes " else ") (signal_name j) (codes " watching ") (signal_name h) (space ++ text))
    (more_written (codes "do") kind.Keyword (32 ∷ []) Do refl refl refl refl refl
    (more_written (codes "always") kind.Keyword (32 ∷ []) Always refl refl refl refl refl
    (more_written (codes "if") kind.Keyword (32 ∷ []) If refl refl refl refl refl
    (name_written (signal_name i) (32 ∷ []) (signal_is i (omega arith)) refl refl
    (more_written (codes "else") kind.Keyword (32 ∷ []) Else refl refl refl refl refl
    (name_written (signal_name j) (32 ∷ []) (signal_is j few) refl refl
    (more_written (codes "watching") kind.Keyword (32 ∷ []) Watching refl refl refl refl refl
    (name_written (signal_name h) space (signal_is h (omega arith)) end.white end.no_word w))))))))
part_says (Bounds i n k) (fi, fn, fk) space text terms end w =
    same_written (six (codes "always if ") (signal_name i) (codes " then ") (number_name n) (codes ">=") (decimal k) (space ++ text))
    (more_written (codes "always") kind.Keyword (32 ∷ []) Always refl refl refl refl refl
    (more_written (codes "if") kind.Keyword (32 ∷ []) If refl refl refl refl refl
    (name_written (signal_name i) (32 ∷ []) (signal_is i fi) refl refl
    (more_written (codes "then") kind.Keyword (32 ∷ []) Then refl refl refl refl refl
    (name_written (number_name n) [] (number_is n fn) refl refl
    (more_written (codes ">=") kind.Symbol [] GreaterEqual refl refl refl (greater_cut (decimal k ++ (space ++ text))) refl
    (number_written (pos k) space (small_bound k fk) end.white end.no_digit w)))))))

-- one part and then some more, with such bytes behind the last
pub parts_say : (u : GeneratedUnit) (us : List GeneratedUnit) (space : List ℕ) → IsPart u → Each IsPart us → IsEnd space [] → Says (part_text u ++ (separated (codes " || ") (map part_text us) ++ space)) (agent (agent_phrase (u ∷ us)) [])
parts_say u [] space is all end = same_written (ap (λ (t : List ℕ). part_text u ++ t) (sym (append-nil space))) (part_says u is space [] [] end none_written)
parts_say u (v ∷ vs) space is all end =
    same_written (ap (λ (t : List ℕ). part_text u ++ (32 ∷ 124 ∷ 124 ∷ 32 ∷ t)) (append_assoc (part_text v) (separated (codes " || ") (map part_text vs)) space))
    (part_says u is (32 ∷ []) (codes "|| " ++ (part_text v ++ (separated (codes " || ") (map part_text vs) ++ space))) (Bars ∷ agent (agent_phrase (v ∷ vs)) []) (record { white = refl; no_word = refl; no_digit = refl })
    (more_written (codes "||") kind.Symbol (32 ∷ []) Bars refl refl refl refl refl (parts_say v vs space all.0 all.1 end)))

-- DECLARATIONS

signals_say : (x : ℕ) (xs : List ℕ) (text : List ℕ) (terms : List Term) → x < 32 → Each (λ j. j < 32) xs → Says text terms
    → Says (signal_name x ++ (separated (codes ", ") (map signal_name xs) ++ (codes "; " ++ text))) (names (signals_phrase x xs) (Semicolon ∷ terms))
signals_say x [] text terms few all w = name_written (signal_name x) [] (signal_is x few) refl refl (more_written (codes ";") kind.Symbol (32 ∷ []) Semicolon refl refl refl refl refl w)
signals_say x (y ∷ ys) text terms few all w =
    same_written (ap (λ (t : List ℕ). signal_name x ++ (44 ∷ 32 ∷ t)) (append_assoc (signal_name y) (separated (codes ", ") (map signal_name ys)) (codes "; " ++ text)))
    (name_written (signal_name x) [] (signal_is x few) refl refl
    (more_written (codes ",") kind.Symbol (32 ∷ []) Comma refl refl refl refl refl
    (signals_say y ys text terms all.0 all.1 w)))

domain_text : (text : List ℕ) → codes " in 0..99" ++ text ≡ codes " in " ++ (decimal 0 ++ (codes ".." ++ (decimal 99 ++ text)))
unfolding digits
domain_text text = refl

-- a number with its domain, before a byte that is no digit
number_says : (x : ℕ) (text : List ℕ) (terms : List Term) → x < 8 → stops is_digit text → Says text terms → Says (number_text x ++ text) (Name (number_name x) ∷ In ∷ Number (pos 0) ∷ Range ∷ Number (pos 99) ∷ terms)
number_says x text terms few cut w =
    same_written (append_assoc (number_name x) (codes " in 0..99") text ∙ ap (λ (t : List ℕ). number_name x ++ t) (domain_text text))
    (name_written (number_name x) (32 ∷ []) (number_is x few) refl refl
    (more_written (codes "in") kind.Keyword (32 ∷ []) In refl refl refl refl refl
    (number_written (pos 0) [] refl refl refl
    (more_written (codes "..") kind.Symbol [] Range refl refl refl (range_cut (decimal 99 ++ text)) refl
    (number_written (pos 99) [] refl refl cut w)))))

numbers_say : (x : ℕ) (xs : List ℕ) (text : List ℕ) (terms : List Term) → x < 8 → Each (λ j. j < 8) xs → Says text terms
    → Says (number_text x ++ (separated (codes ", ") (map number_text xs) ++ (codes "; " ++ text))) (items (numbers_phrase x xs) (Semicolon ∷ terms))
numbers_say x [] text terms few all w = number_says x (codes "; " ++ text) (Semicolon ∷ terms) few refl (more_written (codes ";") kind.Symbol (32 ∷ []) Semicolon refl refl refl refl refl w)
numbers_say x (y ∷ ys) text terms few all w =
    let rest : List ℕ = number_text y ++ (separated (codes ", ") (map number_text ys) ++ (codes "; " ++ text)) in
    same_written (ap (λ (t : List ℕ). number_text x ++ (44 ∷ 32 ∷ t)) (append_assoc (number_text y) (separated (codes ", ") (map number_text ys)) (codes "; " ++ text)))
    (number_says x (44 ∷ 32 ∷ rest) (Comma ∷ items (numbers_phrase y ys) (Semicolon ∷ terms)) few refl
    (more_written (codes ",") kind.Symbol (32 ∷ []) Comma refl refl refl refl refl
    (numbers_say y ys text terms all.0 all.1 w)))

-- PROGRAMS

row_below : (a n m : ℕ) → a + n ≤ m → Each (λ j. j < m) (range_with_len a n)
row_below a zero m h = tt
row_below a (suc n) m h = (omega arith, row_below (a + 1) n m (omega arith))

first_row : (a b rest : List ℕ) (close : List ℕ) (first : List ℕ) → (first ++ (a ++ b) ++ close) ++ rest ≡ first ++ (a ++ (b ++ (close ++ rest)))
first_row a b rest close first = append_three first (a ++ b) close rest ∙ ap (λ (t : List ℕ). first ++ t) (append_assoc a b (close ++ rest))

-- The declarations, and a text of some parts, say the phrase of the program.
pub program_says : (us : List GeneratedUnit) (text : List ℕ) → Says text (agent (agent_phrase us) []) → Says ((signals_text 32 ++ numbers_text 8) ++ text) (program (program_phrase us) [])
unfolding signals_text numbers_text
program_says us text w =
    same_written (append_assoc (signals_text 32) (numbers_text 8) text ∙ first_row (signal_name 0) (separated (codes ", ") (map signal_name (range_with_len 1 31))) (numbers_text 8 ++ text) (codes "; ") (codes "signal "))
    (more_written (codes "signal") kind.Keyword (32 ∷ []) Signal refl refl refl refl refl
    (signals_say 0 (range_with_len 1 31) (numbers_text 8 ++ text) (Int ∷ items numbers (Semicolon ∷ agent (agent_phrase us) [])) (omega arith) (row_below 1 31 32 (omega arith))
    (same_written (first_row (number_text 0) (separated (codes ", ") (map number_text (range_with_len 1 7))) text (codes "; ") (codes "int "))
    (more_written (codes "int") kind.Keyword (32 ∷ []) Int refl refl refl refl refl
    (numbers_say 0 (range_with_len 1 7) text (agent (agent_phrase us) []) (omega arith) (row_below 1 7 8 (omega arith)) w)))))
