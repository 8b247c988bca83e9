-- Generated programs and traces: rules between signals, bounds of numbers, and lines of signals, all by the draws that follow one number. This project's own.
use Rattle.std.specs.Prelude.{ℕ, zero, suc, ◌+◌, ◌-◌, ◌*◌, List, [], ◌∷◌, ◌++◌, codes, decimal, map, flat_map}
use Rattle.std.specs.List.{join_by, range_with_len}
use Rattle.trace_text.specs.declared.units.Form.{Form}
use Rattle.trace_text.specs.declared.units.Form.TheVariants as forms
use Rattle.trace_text.specs.Draws.{draw_after, drawn}

-- the texts, with the separator between each two
abbrev pub joined_by : List ℕ → List (List ℕ) → List ℕ
joined_by separator texts = join_by (λ text. text) separator texts

abbrev pub signal_name : ℕ → List ℕ
signal_name j = codes "s" ++ decimal j

abbrev pub number_name : ℕ → List ℕ
number_name i = codes "n" ++ decimal i

-- a number, declared
abbrev pub number_text : ℕ → List ℕ
number_text i = number_name i ++ codes " in 0..99"

-- UNITS

-- the form that a draw below 5 stands for
abbrev pub drawn_form : ℕ → Form
drawn_form zero = forms.Then
drawn_form (suc zero) = forms.Else
drawn_form (suc (suc zero)) = forms.Next
drawn_form (suc (suc (suc zero))) = forms.When
drawn_form _ = forms.Watch

-- the unit of this form that tells the signal j by the signal g; one that is watched ends with the signal h
abbrev pub form_text : Form → ℕ → ℕ → ℕ → List ℕ
form_text forms.Then g j h = codes "always if " ++ signal_name g ++ codes " then " ++ signal_name j
form_text forms.Else g j h = codes "always if " ++ signal_name g ++ codes " else " ++ signal_name j
form_text forms.Next g j h = codes "always if " ++ signal_name g ++ codes " then next " ++ signal_name j
form_text forms.When g j h = codes "when " ++ signal_name g ++ codes " do always " ++ signal_name j
form_text forms.Watch g j h = codes "do always if " ++ signal_name g ++ codes " else " ++ signal_name j ++ codes " watching " ++ signal_name h

-- the rule for the signal j, by three draws draw_after x: the signal that it asks for, its form, and the signal that ends it where it is watched
unfoldable pub rule_text : ℕ → ℕ → List ℕ
rule_text x j = form_text (drawn_form (drawn x 1 5)) (drawn x 0 j) j (drawn x 2 j)

-- the bound of the number i, by two draws draw_after x: the signal that it asks for, and the bound
unfoldable pub bound_text : ℕ → ℕ → List ℕ
bound_text x i = codes "always if " ++ signal_name (drawn x 0 32) ++ codes " then " ++ number_name i ++ codes ">=" ++ decimal (drawn x 1 100)

-- so many rules, for the signals from 1 on: each takes the three draws draw_after those of the rules before
unfoldable pub rules : ℕ → ℕ → List (List ℕ)
rules x count = map (λ j. rule_text (draw_after x (3 * (j - 1))) j) (range_with_len 1 count)

-- so many bounds, for the numbers from 0 on: each takes two draws
unfoldable pub bounds : ℕ → ℕ → List (List ℕ)
bounds x count = map (λ i. bound_text (draw_after x (2 * i)) i) (range_with_len 0 count)

-- PROGRAMS

-- so many signals, declared
unfoldable pub signals_text : ℕ → List ℕ
signals_text count = codes "signal " ++ joined_by (codes ", ") (map signal_name (range_with_len 0 count)) ++ codes "; "

-- so many numbers, declared
unfoldable pub numbers_text : ℕ → List ℕ
numbers_text count = codes "int " ++ joined_by (codes ", ") (map number_text (range_with_len 0 count)) ++ codes "; "

-- the units of the program of n: 31 rules by the first 93 draws, and then 8 bounds
unfoldable pub units : ℕ → List (List ℕ)
units n = rules n 31 ++ bounds (draw_after n 93) 8

-- the program of n is one line, without a line feed
unfoldable pub program_text : ℕ → List ℕ
program_text n = signals_text 32 ++ numbers_text 8 ++ joined_by (codes " || ") (units n)

-- TRACES

-- a line by the draws draw_after x: how many signals, and then each of them
unfoldable pub line_text : ℕ → List ℕ
line_text x = joined_by (codes " ") (map (λ k. signal_name (drawn x k 32)) (range_with_len 1 (drawn x 0 4)))

-- so many lines, each by the draws draw_after those of the line before
abbrev pub lines_after : ℕ → ℕ → List (List ℕ)
lines_after x zero = []
lines_after x (suc count) = line_text x ∷ lines_after (draw_after x (1 + drawn x 0 4)) count

-- the n lines of the trace of n go on with the draws draw_after the 109 of the program
unfoldable pub trace_lines : ℕ → List (List ℕ)
trace_lines n = lines_after (draw_after n 109) n

-- each line ends with a line feed
unfoldable pub trace_text : ℕ → List ℕ
trace_text n = flat_map (λ line. line ++ codes "\n") (trace_lines n)

-- the input of n: the program, a mark, and the trace
abbrev pub input_bytes : ℕ → List ℕ
input_bytes n = program_text n ++ codes "\n%%\n" ++ trace_text n
