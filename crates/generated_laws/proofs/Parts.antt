-- The generated_units of a generated program: their texts, and the signals that they look at, which come before the one that is told.
use Rattle.std.proofs.Common.{◌≡◌, ℕ, zero, suc, ◌+◌, ◌-◌, ◌*◌, ◌/◌, ◌<◌, List, ◌∷◌, ◌++◌, refl, sym, ap, ◌∙◌, arith}
use Rattle.std.specs.Prelude.{codes, decimal, map}
use Rattle.std.specs.List.{range_with_len}
use Rattle.std.proofs.Math.Nat.{mod-lt}
use Rattle.std.proofs.lemmas.List.{map-append}
use Rattle.agent_core.specs.Strata.{Each}
use Rattle.trace_text.specs.Draws.{draw_after, drawn}
use Rattle.trace_text.specs.Generated.{signal_name, number_name, drawn_form, form_text, rule_text, bound_text, rules, bounds, units}
use Rattle.generated_laws.specs.GeneratedUnits.{GeneratedUnit, Follows, Defaults, Delays, Starts, Ends, Bounds, rule_of, rule_part, bound_part, generated_units}
use Rattle.generated_laws.proofs.Rows.{each_row, each_append}

-- DRAWS

-- a rule looks at signals before the one that it tells
abbrev pub IsPart : GeneratedUnit → Type 0
IsPart (Follows i j) = (j < 32) × (i < j)
IsPart (Defaults i j) = (j < 32) × (i < j)
IsPart (Delays i j) = (j < 32) × (i < j)
IsPart (Starts i j) = (j < 32) × (i < j)
IsPart (Ends i j h) = (j < 32) × (i < j) × (h < j)
IsPart (Bounds i n k) = (i < 32) × (n < 8) × (k < 100)

pub drawn-lt : (x k m : ℕ) → 0 < m → drawn x k m < m
drawn-lt x k m h = mod-lt (draw_after x (k + 1) / 65536) h

rule_is : (form i j h : ℕ) → j < 32 → i < j → h < j → IsPart (rule_of form i j h)
rule_is zero i j h few less stop = (few, less)
rule_is (suc zero) i j h few less stop = (few, less)
rule_is (suc (suc zero)) i j h few less stop = (few, less)
rule_is (suc (suc (suc zero))) i j h few less stop = (few, less)
rule_is (suc (suc (suc (suc form)))) i j h few less stop = (few, less, stop)

drawn_rule : (x j : ℕ) → 0 < j → j < 32 → IsPart (rule_part x j)
drawn_rule x j some few = rule_is (drawn x 1 5) (drawn x 0 j) j (drawn x 2 j) few (drawn-lt x 0 j some) (drawn-lt x 2 j some)

drawn_bound : (x i : ℕ) → i < 8 → IsPart (bound_part x i)
drawn_bound x i few = (drawn-lt x 0 32 (omega arith), few, drawn-lt x 1 100 (omega arith))

-- The generated_units of each number are such.
pub parts_are : (n : ℕ) → Each IsPart (generated_units n)
unfolding generated_units
parts_are n =
    let rule : ℕ → GeneratedUnit = λ j. rule_part (draw_after n (3 * (j - 1))) j in
    let bound : ℕ → GeneratedUnit = λ i. bound_part (draw_after (draw_after n 93) (2 * i)) i in
    each_append IsPart (map rule (range_with_len 1 31)) (map bound (range_with_len 0 8))
    (each_row IsPart rule 1 31 (λ j low high. drawn_rule (draw_after n (3 * (j - 1))) j (omega arith) (omega arith)))
    (each_row IsPart bound 0 8 (λ i low high. drawn_bound (draw_after (draw_after n 93) (2 * i)) i (omega arith)))

-- TEXTS

abbrev pub part_text : GeneratedUnit → List ℕ
part_text (Follows i j) = codes "always if " ++ signal_name i ++ codes " then " ++ signal_name j
part_text (Defaults i j) = codes "always if " ++ signal_name i ++ codes " else " ++ signal_name j
part_text (Delays i j) = codes "always if " ++ signal_name i ++ codes " then next " ++ signal_name j
part_text (Starts i j) = codes "when " ++ signal_name i ++ codes " do always " ++ signal_name j
part_text (Ends i j h) = codes "do always if " ++ signal_name i ++ codes " else " ++ signal_name j ++ codes " watching " ++ signal_name h
part_text (Bounds i n k) = codes "always if " ++ signal_name i ++ codes " then " ++ number_name n ++ codes ">=" ++ decimal k

same_row : {X Y : Type 0} (f : X → Y) (g : ℕ → X) (h : ℕ → Y) → ((k : ℕ) → h k ≡ f (g k)) → (a n : ℕ) → map h (range_with_len a n) ≡ map f (map g (range_with_len a n))
same_row f g h e a zero = refl
same_row {X} {Y} f g h e a (suc n) =
    ap (λ (y : Y). y ∷ map h (range_with_len (a + 1) n)) (e a) ∙ ap (λ (ys : List Y). f (g a) ∷ ys) (same_row f g h e (a + 1) n)

rule_same : (form i j h : ℕ) → form_text (drawn_form form) i j h ≡ part_text (rule_of form i j h)
rule_same zero i j h = refl
rule_same (suc zero) i j h = refl
rule_same (suc (suc zero)) i j h = refl
rule_same (suc (suc (suc zero))) i j h = refl
rule_same (suc (suc (suc (suc form)))) i j h = refl

drawn_rule_same : (x j : ℕ) → rule_text x j ≡ part_text (rule_part x j)
unfolding rule_text
drawn_rule_same x j = rule_same (drawn x 1 5) (drawn x 0 j) j (drawn x 2 j)

drawn_bound_same : (x i : ℕ) → bound_text x i ≡ part_text (bound_part x i)
unfolding bound_text
drawn_bound_same x i = refl

-- The units of the program are the texts of its generated_units.
pub parts_text : (n : ℕ) → units n ≡ map part_text (generated_units n)
unfolding units rules bounds generated_units
parts_text n =
    let rule : ℕ → GeneratedUnit = λ j. rule_part (draw_after n (3 * (j - 1))) j in
    let bound : ℕ → GeneratedUnit = λ i. bound_part (draw_after (draw_after n 93) (2 * i)) i in
    ap (λ (texts : List (List ℕ)). texts ++ bounds (draw_after n 93) 8) (same_row part_text rule (λ j. rule_text (draw_after n (3 * (j - 1))) j) (λ j. drawn_rule_same (draw_after n (3 * (j - 1))) j) 1 31)
    ∙ ap (λ (texts : List (List ℕ)). map part_text (map rule (range_with_len 1 31)) ++ texts) (same_row part_text bound (λ i. bound_text (draw_after (draw_after n 93) (2 * i)) i) (λ i. drawn_bound_same (draw_after (draw_after n 93) (2 * i)) i) 0 8)
    ∙ sym (map-append part_text (map rule (range_with_len 1 31)) (map bound (range_with_len 0 8)))
