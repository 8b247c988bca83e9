-- Units and lines that are written one draw_after another, each by the draws that follow those of the one before.
use Rattle.std.proofs.Common.{◌≡◌, ℕ, zero, suc, ◌+◌, ◌-◌, ◌*◌, ◌/◌, ◌%◌, ◌<◌, List, [], ◌∷◌, ◌++◌, length, refl, sym, ap, ◌∙◌, append_assoc, arith}
use Rattle.std.specs.Prelude.{codes, map, flat_map}
use Rattle.std.specs.List.{range_with_len}
use Rattle.std.proofs.Math.Nat.{add-zero, add-suc}
use Rattle.std.proofs.lemmas.List.{append-nil}
use Rattle.std.proofs.lemmas.List.FromFn.{map-range_with_len_more, length-map-range_with_len}
use Rattle.trace_text.specs.Draws.{next, draw_after, drawn}
use Rattle.trace_text.specs.Generated.{joined_by, signal_name, drawn_form, form_text, rule_text, bound_text, rules, bounds, signals_text, numbers_text, units, program_text, line_text, lines_after}
use Rattle.trace_text.specs.Writing.{before, separated}
use Rattle.trace_text.proofs.Joins.{joined-append, joined_written, separated_written}

-- DRAWS

-- some draws, and then some more
pub after-after : (x k m : ℕ) → draw_after (draw_after x k) m ≡ draw_after x (k + m)
unfolding draw_after
after-after x k zero = ap (draw_after x) (sym (add-zero k))
after-after x k (suc m) = ap next (after-after x k m) ∙ ap (draw_after x) (sym (add-suc k m))

-- the same of a place that is known by another name
pub after_more : (x s t k m n : ℕ) → s ≡ draw_after x k → t ≡ draw_after s m → k + m ≡ n → t ≡ draw_after x n
after_more x s t k m n e f g = f ∙ ap (λ (y : ℕ). draw_after y m) e ∙ after-after x k m ∙ ap (draw_after x) g

-- the next draw draw_after some draws
pub drawn_more : (x s k m : ℕ) → s ≡ draw_after x k → drawn s 0 m ≡ drawn x k m
drawn_more x s k m e = ap (λ (y : ℕ). y / 65536 % m) (after_more x s (draw_after s 1) k 1 (k + 1) e refl refl)

-- UNITS

-- the three draws of a rule
pub rule_drawn : (x s t g f h j : ℕ) → g ≡ drawn x 0 j → s ≡ draw_after x 1 → f ≡ drawn s 0 5 → t ≡ draw_after s 1 → h ≡ drawn t 0 j → form_text (drawn_form f) g j h ≡ rule_text x j
unfolding rule_text
rule_drawn x s t g f h j eg es ef et eh =
    let second : f ≡ drawn x 1 5 = ef ∙ drawn_more x s 1 5 es in
    let third : h ≡ drawn x 2 j = eh ∙ drawn_more x t 2 j (after_more x s t 1 1 2 es et refl) in
    ap (λ (k : ℕ). form_text (drawn_form k) g j h) second ∙ ap (λ (k : ℕ). form_text (drawn_form (drawn x 1 5)) k j h) eg ∙ ap (form_text (drawn_form (drawn x 1 5)) (drawn x 0 j) j) third

length-rules : (x n : ℕ) → length (rules x n) ≡ n
unfolding rules
length-rules x n = length-map-range_with_len (λ (j : ℕ). rule_text (draw_after x (3 * (j - 1))) j) 1 n

-- one rule more
rules_more : (x n j : ℕ) → n + 1 ≡ j → rules x j ≡ rules x n ++ rule_text (draw_after x (3 * n)) j ∷ []
unfolding rules
rules_more x n j e =
    let f : ℕ → List ℕ = λ i. rule_text (draw_after x (3 * (i - 1))) i in
    let earlier : j - 1 ≡ n = omega arith in
    ap (rules x) (sym e) ∙ map-range_with_len_more f 1 n j (omega arith) ∙ ap (λ (k : ℕ). map f (range_with_len 1 n) ++ rule_text (draw_after x (3 * k)) j ∷ []) earlier

-- one bound more
bounds_more : (x n : ℕ) → bounds x (n + 1) ≡ bounds x n ++ bound_text (draw_after x (2 * n)) n ∷ []
unfolding bounds
bounds_more x n = map-range_with_len_more (λ (i : ℕ). bound_text (draw_after x (2 * i)) i) 0 n n (omega arith)

-- one rule more is written, that for the signal j
pub rule_written : (separator : List ℕ) (x s n j m : ℕ) (front now middle last : List ℕ)
    → n + 1 ≡ j → j ≡ m → s ≡ draw_after x (3 * n) → now ≡ front ++ joined_by separator (rules x n) → middle ≡ now ++ before n separator → last ≡ middle ++ rule_text s j → last ≡ front ++ joined_by separator (rules x m)
rule_written separator x s n j m front now middle last e f es h t l =
    joined_written separator (rules x n) (rule_text s j) n front now middle last (length-rules x n) h t l
    ∙ ap (λ (y : ℕ). front ++ joined_by separator (rules x n ++ rule_text y j ∷ [])) es
    ∙ ap (λ (r : List (List ℕ)). front ++ joined_by separator r) (sym (rules_more x n j e))
    ∙ ap (λ (k : ℕ). front ++ joined_by separator (rules x k)) f

-- one bound more is written, that of the number n
pub bound_written : (separator : List ℕ) (x s n : ℕ) (front now middle last : List ℕ)
    → s ≡ draw_after x (2 * n) → now ≡ front ++ separated separator (bounds x n) → middle ≡ now ++ separator → last ≡ middle ++ bound_text s n → last ≡ front ++ separated separator (bounds x (n + 1))
bound_written separator x s n front now middle last es h m l =
    separated_written separator (bounds x n) (bound_text s n) front now middle last h m l
    ∙ ap (λ (y : ℕ). front ++ separated separator (bounds x n ++ bound_text y n ∷ [])) es
    ∙ ap (λ (r : List (List ℕ)). front ++ separated separator r) (sym (bounds_more x n))

-- PROGRAMS

some_rules : (x : ℕ) → 0 < length (rules x 31)
some_rules x = omega (arith, length-rules x 31)

-- the parts of a program are written one draw_after another
pub program_written : (x s : ℕ) (front a b c d : List ℕ)
    → a ≡ front ++ signals_text 32 → b ≡ a ++ numbers_text 8 → c ≡ b ++ joined_by (codes " || ") (rules x 31) → s ≡ draw_after x 93 → d ≡ c ++ separated (codes " || ") (bounds s 8) → d ≡ front ++ program_text x
unfolding program_text units
program_written x s front a b c d ea eb ec es ed =
    let first : List ℕ = joined_by (codes " || ") (rules x 31) in
    let second : List ℕ = separated (codes " || ") (bounds (draw_after x 93) 8) in
    let heading : List ℕ = signals_text 32 ++ numbers_text 8 in
    ed
    ∙ ap (λ (y : ℕ). c ++ separated (codes " || ") (bounds y 8)) es
    ∙ ap (λ (r : List ℕ). r ++ second) (ec ∙ ap (λ (r : List ℕ). r ++ first) (eb ∙ ap (λ (r : List ℕ). r ++ numbers_text 8) ea ∙ append_assoc front (signals_text 32) (numbers_text 8)))
    ∙ append_assoc (front ++ heading) first second
    ∙ append_assoc front heading (first ++ second)
    ∙ ap (λ (r : List ℕ). front ++ (heading ++ r)) (sym (joined-append (codes " || ") (rules x 31) (bounds (draw_after x 93) 8) (some_rules x)))

-- LINES

-- a line is written to its end, with a line feed
pub line_closed : (x m : ℕ) (front now last : List ℕ)
    → m ≡ drawn x 0 4 → now ≡ front ++ joined_by (codes " ") (map (λ k. signal_name (drawn x k 32)) (range_with_len 1 m)) → last ≡ now ++ codes "\n" → last ≡ front ++ (line_text x ++ codes "\n")
unfolding line_text
line_closed x m front now last e h l =
    l ∙ ap (λ (r : List ℕ). r ++ codes "\n") (h ∙ ap (λ (n : ℕ). front ++ joined_by (codes " ") (map (λ k. signal_name (drawn x k 32)) (range_with_len 1 n))) e) ∙ append_assoc front (line_text x) (codes "\n")

abbrev pub fed : List (List ℕ) → List ℕ
fed lines = flat_map (λ line. line ++ codes "\n") lines

-- the next lines draw_after the place are left, and they end the whole
abbrev pub LinesLeft : ℕ → ℕ → List ℕ → List ℕ → Type 0
LinesLeft x n whole now = now ++ fed (lines_after x n) ≡ whole

-- one line more
pub line_written : (x y n m : ℕ) (whole now last : List ℕ) → n ≡ suc m → last ≡ now ++ (line_text x ++ codes "\n") → y ≡ draw_after x (1 + drawn x 0 4) → LinesLeft x n whole now → LinesLeft y m whole last
line_written x y n m whole now last e l ey h =
    ap (λ (r : List ℕ). r ++ fed (lines_after y m)) l
    ∙ append_assoc now (line_text x ++ codes "\n") (fed (lines_after y m))
    ∙ ap (λ (z : ℕ). now ++ ((line_text x ++ codes "\n") ++ fed (lines_after z m))) ey
    ∙ ap (λ (k : ℕ). now ++ fed (lines_after x k)) (sym e)
    ∙ h

-- no line is left
pub lines_written : (x n : ℕ) (whole now : List ℕ) → n ≡ 0 → LinesLeft x n whole now → now ≡ whole
lines_written x n whole now e h = sym (append-nil now) ∙ ap (λ (k : ℕ). now ++ fed (lines_after x k)) (sym e) ∙ h
