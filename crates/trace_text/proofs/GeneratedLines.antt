-- Generated texts are lines: no line feed stands in them, and they are short.
use Rattle.std.proofs.Common.{◌≡◌, ◌≢◌, ℕ, zero, suc, ◌+◌, ◌-◌, ◌*◌, ◌/◌, ◌%◌, ◌^◌, ◌<◌, ◌≤◌, true, not, List, [], ◌∷◌, ◌++◌, length, refl, ap, ◌∙◌, subst, arith}
use Rattle.std.specs.Prelude.{All, codes, decimal, map, nat_eq}
use Rattle.std.specs.List.{list_all, range_with_len}
use Rattle.std.proofs.Math.Nat.{mod-lt}
use Rattle.std.proofs.lemmas.Bool.Decides.{nat_tests}
use Rattle.std.proofs.lemmas.Fmt.{decimal_by_steps, length-decimal-le}
use Rattle.std.proofs.lemmas.List.{length-append}
use Rattle.std.proofs.lemmas.List.Elements.{All-nil, All-cons, All-append, All-push, All-weaker}
use Rattle.std.proofs.lemmas.List.FromFn.{length-map-range_with_len}
use Rattle.std.proofs.lemmas.List.Sums.{AllPass-from_list_all}
use Rattle.agent_core.specs.Strata.{Each}
use Rattle.trace_text.specs.declared.units.Form.{Form}
use Rattle.trace_text.specs.declared.units.Form.TheVariants as forms
use Rattle.trace_text.specs.Draws.{draw_after, drawn}
use Rattle.trace_text.specs.Generated.{joined_by, signal_name, number_name, number_text, drawn_form, form_text, rule_text, bound_text, rules, bounds, signals_text, numbers_text, units, program_text, line_text, lines_after, trace_lines}
use Rattle.trace_text.specs.Laws.{IsLine}
use Rattle.trace_text.specs.Writing.{separated}
use Rattle.trace_text.proofs.ValueTokens.{Each-append}

-- LINES

longer : (m n : ℕ) (x : List ℕ) → m ≤ n → IsLine m x → IsLine n x
longer m n x le a = record { no_feed = a.no_feed; short = let h = a.short in omega arith }

line-append : (m n : ℕ) (x y : List ℕ) → IsLine m x → IsLine n y → IsLine (m + n) (x ++ y)
line-append m n x y a b = record {
  no_feed = All-append (λ (byte : ℕ). byte ≢ 10) x y a.no_feed b.no_feed;
  short = let h = a.short in let k = b.short in omega (arith, length-append x y);
}

not_feed : (byte : ℕ) → not (nat_eq byte 10) ≡ true → byte ≢ 10
not_feed byte h = grind (arith, nat_tests)

-- a text that is written out
written_out : (most : ℕ) (bytes : List ℕ) → list_all (λ byte. not (nat_eq byte 10)) bytes ≡ true → length bytes ≤ most → IsLine most bytes
written_out most bytes h short = record {
  no_feed = All-weaker (λ (byte : ℕ). not (nat_eq byte 10) ≡ true) (λ (byte : ℕ). byte ≢ 10) not_feed bytes (AllPass-from_list_all (λ byte. not (nat_eq byte 10)) bytes h);
  short = short;
}

digit_stays : (d : ℕ) → 48 + d ≢ 10
digit_stays d e = omega arith

decimal_line : (k n : ℕ) → 0 < k → n < 10 ^ k → n < 2 ^ 64 → IsLine k (decimal n)
decimal_line k n some small fits = record {
  no_feed =
      decimal_by_steps (λ m ds. All (λ (byte : ℕ). byte ≢ 10) ds)
      (λ m h. All-cons (λ (byte : ℕ). byte ≢ 10) (48 + m) [] (digit_stays m) (All-nil (λ (byte : ℕ). byte ≢ 10)))
      (λ m ds h front. All-push (λ (byte : ℕ). byte ≢ 10) ds (48 + m % 10) front (digit_stays (m % 10)))
      n fits;
  short = length-decimal-le k n some small fits;
}

two_digits : (n : ℕ) → n < 100 → IsLine 2 (decimal n)
two_digits n h = decimal_line 2 n (omega arith) (omega arith) (omega arith)

signal_line : (j : ℕ) → j < 100 → IsLine 3 (signal_name j)
signal_line j h = line-append 1 2 (codes "s") (decimal j) (written_out 1 (codes "s") refl (omega arith)) (two_digits j h)

-- a number of one digit
number_line : (i : ℕ) → i < 10 → IsLine 2 (number_name i)
number_line i h = line-append 1 1 (codes "n") (decimal i) (written_out 1 (codes "n") refl (omega arith)) (decimal_line 1 i (omega arith) (omega arith) (omega arith))

-- TEXTS IN A ROW

separated_line : (s m : ℕ) (separator : List ℕ) → IsLine s separator → (texts : List (List ℕ)) → Each (IsLine m) texts → IsLine ((s + m) * length texts) (separated separator texts)
separated_line s m separator h [] t = written_out ((s + m) * 0) [] refl (omega arith)
separated_line s m separator h (text ∷ texts) t =
    longer ((s + m) + (s + m) * length texts) ((s + m) * suc (length texts)) ((separator ++ text) ++ separated separator texts) (omega arith)
    (line-append (s + m) ((s + m) * length texts) (separator ++ text) (separated separator texts) (line-append s m separator text h t.0) (separated_line s m separator h texts t.1))

joined_line : (s m : ℕ) (separator : List ℕ) → IsLine s separator → (texts : List (List ℕ)) → Each (IsLine m) texts → IsLine ((s + m) * length texts - s) (joined_by separator texts)
joined_line s m separator h [] t = written_out ((s + m) * 0 - s) [] refl (omega arith)
joined_line s m separator h (text ∷ texts) t =
    longer (m + (s + m) * length texts) ((s + m) * suc (length texts) - s) (text ++ separated separator texts) (omega arith)
    (line-append m ((s + m) * length texts) text (separated separator texts) t.0 (separated_line s m separator h texts t.1))

-- the texts of a row of numbers
row_each : (P : List ℕ → Type 0) (f : ℕ → List ℕ) (a n : ℕ) → ((k : ℕ) → a ≤ k → k < a + n → P (f k)) → Each P (map f (range_with_len a n))
row_each P f a zero h = tt
row_each P f a (suc n) h = (h a (omega arith) (omega arith), row_each P f (a + 1) n (λ k low high. h k (omega arith) (omega arith)))

row_line : (s m : ℕ) (separator : List ℕ) (f : ℕ → List ℕ) (a n : ℕ) → IsLine s separator → ((k : ℕ) → a ≤ k → k < a + n → IsLine m (f k)) → IsLine ((s + m) * n - s) (joined_by separator (map f (range_with_len a n)))
row_line s m separator f a n h each =
    subst (λ (k : ℕ). IsLine ((s + m) * k - s) (joined_by separator (map f (range_with_len a n)))) (length-map-range_with_len f a n)
    (joined_line s m separator h (map f (range_with_len a n)) (row_each (IsLine m) f a n each))

-- UNITS

drawn-lt : (x k m : ℕ) → 0 < m → drawn x k m < m
drawn-lt x k m h = mod-lt (draw_after x (k + 1) / 65536) h

pair_line : (a b : ℕ) (before between : List ℕ) (g j : ℕ) → g < 100 → j < 100 → IsLine a before → IsLine b between → IsLine (a + 3 + b + 3) (before ++ signal_name g ++ between ++ signal_name j)
pair_line a b before between g j hg hj ha hb =
    line-append (a + 3 + b) 3 (before ++ signal_name g ++ between) (signal_name j)
    (line-append (a + 3) b (before ++ signal_name g) between (line-append a 3 before (signal_name g) ha (signal_line g hg)) hb) (signal_line j hj)

form_line : (form : Form) (g j h : ℕ) → g < 100 → j < 100 → h < 100 → IsLine 38 (form_text form g j h)
form_line forms.Then g j h hg hj hh = longer 22 38 (form_text forms.Then g j h) (omega arith) (pair_line 10 6 (codes "always if ") (codes " then ") g j hg hj (written_out 10 (codes "always if ") refl (omega arith)) (written_out 6 (codes " then ") refl (omega arith)))
form_line forms.Else g j h hg hj hh = longer 22 38 (form_text forms.Else g j h) (omega arith) (pair_line 10 6 (codes "always if ") (codes " else ") g j hg hj (written_out 10 (codes "always if ") refl (omega arith)) (written_out 6 (codes " else ") refl (omega arith)))
form_line forms.Next g j h hg hj hh = longer 27 38 (form_text forms.Next g j h) (omega arith) (pair_line 10 11 (codes "always if ") (codes " then next ") g j hg hj (written_out 10 (codes "always if ") refl (omega arith)) (written_out 11 (codes " then next ") refl (omega arith)))
form_line forms.When g j h hg hj hh = longer 22 38 (form_text forms.When g j h) (omega arith) (pair_line 5 11 (codes "when ") (codes " do always ") g j hg hj (written_out 5 (codes "when ") refl (omega arith)) (written_out 11 (codes " do always ") refl (omega arith)))
form_line forms.Watch g j h hg hj hh =
    let pair : List ℕ = codes "do always if " ++ signal_name g ++ codes " else " ++ signal_name j in
    line-append 35 3 (pair ++ codes " watching ") (signal_name h)
    (line-append 25 10 pair (codes " watching ") (pair_line 13 6 (codes "do always if ") (codes " else ") g j hg hj (written_out 13 (codes "do always if ") refl (omega arith)) (written_out 6 (codes " else ") refl (omega arith))) (written_out 10 (codes " watching ") refl (omega arith)))
    (signal_line h hh)

rule_line : (x j : ℕ) → 1 ≤ j → j < 32 → IsLine 38 (rule_text x j)
unfolding rule_text
rule_line x j low high =
    let guard : drawn x 0 j < j = drawn-lt x 0 j (omega arith) in
    let stop : drawn x 2 j < j = drawn-lt x 2 j (omega arith) in
    form_line (drawn_form (drawn x 1 5)) (drawn x 0 j) j (drawn x 2 j) (omega arith) (omega arith) (omega arith)

bound_line : (x i : ℕ) → i < 8 → IsLine 25 (bound_text x i)
unfolding bound_text
bound_line x i h =
    let guard : drawn x 0 32 < 32 = drawn-lt x 0 32 (omega arith) in
    let to_signal : List ℕ = codes "always if " ++ signal_name (drawn x 0 32) in
    let to_number : List ℕ = to_signal ++ codes " then " ++ number_name i in
    line-append 23 2 (to_number ++ codes ">=") (decimal (drawn x 1 100))
    (line-append 21 2 to_number (codes ">=")
    (line-append 19 2 (to_signal ++ codes " then ") (number_name i)
    (line-append 13 6 to_signal (codes " then ") (line-append 10 3 (codes "always if ") (signal_name (drawn x 0 32)) (written_out 10 (codes "always if ") refl (omega arith)) (signal_line (drawn x 0 32) (omega arith))) (written_out 6 (codes " then ") refl (omega arith)))
    (number_line i (omega arith)))
    (written_out 2 (codes ">=") refl (omega arith)))
    (two_digits (drawn x 1 100) (drawn-lt x 1 100 (omega arith)))

-- PROGRAMS

signals_line : IsLine 167 (signals_text 32)
unfolding signals_text
signals_line =
    let row : List ℕ = joined_by (codes ", ") (map signal_name (range_with_len 0 32)) in
    line-append 165 2 (codes "signal " ++ row) (codes "; ")
    (line-append 7 158 (codes "signal ") row (written_out 7 (codes "signal ") refl (omega arith)) (row_line 2 3 (codes ", ") signal_name 0 32 (written_out 2 (codes ", ") refl (omega arith)) (λ k low high. signal_line k (omega arith))))
    (written_out 2 (codes "; ") refl (omega arith))

numbers_line : IsLine 108 (numbers_text 8)
unfolding numbers_text
numbers_line =
    let row : List ℕ = joined_by (codes ", ") (map number_text (range_with_len 0 8)) in
    line-append 106 2 (codes "int " ++ row) (codes "; ")
    (line-append 4 102 (codes "int ") row (written_out 4 (codes "int ") refl (omega arith))
    (row_line 2 11 (codes ", ") number_text 0 8 (written_out 2 (codes ", ") refl (omega arith))
    (λ k low high. line-append 2 9 (number_name k) (codes " in 0..99") (number_line k (omega arith)) (written_out 9 (codes " in 0..99") refl (omega arith)))))
    (written_out 2 (codes "; ") refl (omega arith))

unit_lines : (n : ℕ) → Each (IsLine 38) (units n)
unfolding units rules bounds
unit_lines n =
    Each-append (IsLine 38) (rules n 31) (bounds (draw_after n 93) 8)
    (row_each (IsLine 38) (λ j. rule_text (draw_after n (3 * (j - 1))) j) 1 31 (λ j low high. rule_line (draw_after n (3 * (j - 1))) j low (omega arith)))
    (row_each (IsLine 38) (λ i. bound_text (draw_after (draw_after n 93) (2 * i)) i) 0 8 (λ i low high. longer 25 38 (bound_text (draw_after (draw_after n 93) (2 * i)) i) (omega arith) (bound_line (draw_after (draw_after n 93) (2 * i)) i (omega arith))))

length-units : (n : ℕ) → length (units n) ≡ 39
unfolding units rules bounds
length-units n =
    length-append (rules n 31) (bounds (draw_after n 93) 8)
    ∙ ap (λ (k : ℕ). k + length (bounds (draw_after n 93) 8)) (length-map-range_with_len (λ j. rule_text (draw_after n (3 * (j - 1))) j) 1 31)
    ∙ ap (λ (k : ℕ). 31 + k) (length-map-range_with_len (λ i. bound_text (draw_after (draw_after n 93) (2 * i)) i) 0 8)

pub program_line : (n : ℕ) → IsLine 2000 (program_text n)
unfolding program_text
program_line n =
    let all : List ℕ = joined_by (codes " || ") (units n) in
    let body : IsLine (42 * length (units n) - 4) all = joined_line 4 38 (codes " || ") (written_out 4 (codes " || ") refl (omega arith)) (units n) (unit_lines n) in
    longer (275 + (42 * length (units n) - 4)) 2000 ((signals_text 32 ++ numbers_text 8) ++ all) (omega (arith, length-units n))
    (line-append 275 (42 * length (units n) - 4) (signals_text 32 ++ numbers_text 8) all (line-append 167 108 (signals_text 32) (numbers_text 8) signals_line numbers_line) body)

-- TRACES

line_line : (x : ℕ) → IsLine 11 (line_text x)
unfolding line_text
line_line x =
    let few : drawn x 0 4 < 4 = drawn-lt x 0 4 (omega arith) in
    let row : ℕ → List ℕ = λ k. signal_name (drawn x k 32) in
    longer (4 * drawn x 0 4 - 1) 11 (joined_by (codes " ") (map row (range_with_len 1 (drawn x 0 4)))) (omega arith)
    (row_line 1 3 (codes " ") row 1 (drawn x 0 4) (written_out 1 (codes " ") refl (omega arith)) (λ k low high. let small : drawn x k 32 < 32 = drawn-lt x k 32 (omega arith) in signal_line (drawn x k 32) (omega arith)))

length-lines : (x n : ℕ) → length (lines_after x n) ≡ n
length-lines x zero = refl
length-lines x (suc n) = ap suc (length-lines (draw_after x (1 + drawn x 0 4)) n)

pub length-trace : (n : ℕ) → length (trace_lines n) ≡ n
unfolding trace_lines
length-trace n = length-lines (draw_after n 109) n

lines_lines : (x n : ℕ) → All (IsLine 11) (lines_after x n)
lines_lines x zero = All-nil (IsLine 11)
lines_lines x (suc n) = All-cons (IsLine 11) (line_text x) (lines_after (draw_after x (1 + drawn x 0 4)) n) (line_line x) (lines_lines (draw_after x (1 + drawn x 0 4)) n)

pub trace_line : (n : ℕ) → All (IsLine 11) (trace_lines n)
unfolding trace_lines
trace_line n = lines_lines (draw_after n 109) n
