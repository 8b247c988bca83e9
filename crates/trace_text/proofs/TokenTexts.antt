-- The bytes of a token's text: one at least, 44 at most, and none of them a blank. So texts with single spaces between them are the fields of their line.
use Rattle.std.proofs.Common.{◌≡◌, ℕ, ◌≤◌, Bool, true, false, not, ℤ, List, [], ◌∷◌, ◌++◌, length, Some, None, refl, sym, ap, ◌∙◌, subst, arith}
use Rattle.std.specs.Prelude.{Option, IsTrue, nat_le, if◌then◌else◌}
use Rattle.std.specs.List.{list_all, slice_split, onto_first, join_with_byte}
use Rattle.std.proofs.lemmas.Bool.{eqb-true}
use Rattle.std.proofs.lemmas.Bool.Decides.{nat_tests}
use Rattle.std.proofs.lemmas.List.{length-append}
use Rattle.std.proofs.lemmas.List.Folds.{list_all-append}
use Rattle.std.proofs.lemmas.List.Splits.{slice_split-cons_no}
use Rattle.token_system.specs.declared.cell.Token.{Token}
use Rattle.token_system.specs.declared.reading.Written.{Written}
use Rattle.names_and_numbers.specs.Limits.{longest_name, most_digits}
use Rattle.names_and_numbers.specs.Names.{is_digit, is_word_byte, is_word, is_name}
use Rattle.names_and_numbers.specs.Numbers.{is_minus, are_digits, are_few_digits, digits_of, value_of_number, number_of_text}
use Rattle.token_system.specs.Texts.{IsTail, alone, at_least, at_most, exactly, IsTokenText, off, clash, plain}
use Rattle.token_system.proofs.Alike.{true_false}
use Rattle.token_system.proofs.NameFronts.{name_bytes}
use Rattle.agent_core.specs.Strata.{Each}
use Rattle.agent_core.proofs.Bools.{both, first_of_both, second_of_both}
use Rattle.trace_text.specs.Fields.{is_blank, is_some}

abbrev pub not_blank : ℕ → Bool
not_blank b = not (is_blank b)

abbrev pub HasNoBlank : List ℕ → Type 0
HasNoBlank bytes = list_all not_blank bytes ≡ true

name_byte_stays : (b : ℕ) → is_word_byte b ≡ true → not_blank b ≡ true
name_byte_stays b h = grind (arith, nat_tests)

digit_stays : (b : ℕ) → is_digit b ≡ true → not_blank b ≡ true
digit_stays b h = grind (arith, nat_tests)

all_weaker : (p q : ℕ → Bool) → ((b : ℕ) → p b ≡ true → q b ≡ true) → (bytes : List ℕ) → list_all p bytes ≡ true → list_all q bytes ≡ true
all_weaker p q f [] h = refl
all_weaker p q f (b ∷ bytes) h = both (q b) (list_all q bytes) (f b (first_of_both (p b) (list_all p bytes) h)) (all_weaker p q f bytes (second_of_both (p b) (list_all p bytes) h))

is_within : (n m : ℕ) → nat_le n m ≡ true → n ≤ m
is_within n m h = grind (arith, nat_tests)

digits_facts : (ds : List ℕ) → are_few_digits ds ≡ true → HasNoBlank ds × (length ds ≤ most_digits)
digits_facts [] e = absurd (true_false (sym e))
digits_facts (d ∷ ds) e = (
  all_weaker is_digit not_blank digit_stays (d ∷ ds) (first_of_both (are_digits (d ∷ ds)) (nat_le (length (d ∷ ds)) most_digits) e),
  is_within (length (d ∷ ds)) most_digits (second_of_both (are_digits (d ∷ ds)) (nat_le (length (d ∷ ds)) most_digits) e),
)

few_facts : (bytes : List ℕ) → are_few_digits (digits_of bytes) ≡ true → HasNoBlank bytes × (length bytes ≤ 10)
few_facts [] e = absurd (true_false (sym e))
few_facts (b ∷ bytes) e = go (is_minus b) refl e
  where
    go : (t : Bool) → is_minus b ≡ t → are_few_digits (if t then bytes else b ∷ bytes) ≡ true → HasNoBlank (b ∷ bytes) × (length (b ∷ bytes) ≤ 10)
    go true t e =
        let d = digits_facts bytes e in
        let minus : b ≡ 45 = eqb-true b 45 t in
        (both (not_blank b) (list_all not_blank bytes) (ap not_blank minus) d.0, let h = d.1 in omega arith)
    go false t e = let d = digits_facts (b ∷ bytes) e in (d.0, let h = d.1 in omega arith)

number_facts : (bytes : List ℕ) (k : ℤ) → number_of_text bytes ≡ Some k → HasNoBlank bytes × (length bytes ≤ 10)
number_facts bytes k e = go (are_few_digits (digits_of bytes)) refl e
  where
    go : (t : Bool) → are_few_digits (digits_of bytes) ≡ t → (if t then Some (value_of_number bytes) else None) ≡ Some k → HasNoBlank bytes × (length bytes ≤ 10)
    go true is e = few_facts bytes is
    go false is e = absurd (cc)

-- what is known of the bytes of a name, or of a token's text
pub record TextFacts (bytes : List ℕ) (most : ℕ) : Type 0 where
  pub no_blank : HasNoBlank bytes
  pub some : is_some bytes ≡ true
  pub short : length bytes ≤ most

name_facts : (name : List ℕ) → IsTrue (is_name name) → TextFacts name longest_name
name_facts [] h = absurd (true_false (sym h))
name_facts (b ∷ bytes) h = record {
  no_blank = all_weaker is_word_byte not_blank name_byte_stays (b ∷ bytes) (name_bytes (b ∷ bytes) h);
  some = refl;
  short = is_within (length (b ∷ bytes)) longest_name (second_of_both (is_word (b ∷ bytes)) (nat_le (length (b ∷ bytes)) longest_name) h);
}

tail_facts : (rest : List ℕ) (f : Token) (s : Option Token) → IsTail rest f s → HasNoBlank rest × (length rest ≤ 12)
tail_facts rest f s (alone e g h) = subst (λ (r : List ℕ). HasNoBlank r × (length r ≤ 12)) (sym e) (refl, omega arith)
tail_facts rest f s (at_least number k e n g h) = let d = number_facts number k n in subst (λ (r : List ℕ). HasNoBlank r × (length r ≤ 12)) (sym e) (d.0, let l = d.1 in omega arith)
tail_facts rest f s (at_most number k e n g h) = let d = number_facts number k n in subst (λ (r : List ℕ). HasNoBlank r × (length r ≤ 12)) (sym e) (d.0, let l = d.1 in omega arith)
tail_facts rest f s (exactly number k e n g h) = let d = number_facts number k n in subst (λ (r : List ℕ). HasNoBlank r × (length r ≤ 12)) (sym e) (d.0, let l = d.1 in omega arith)

some-append : (xs ys : List ℕ) → is_some xs ≡ true → is_some (xs ++ ys) ≡ true
some-append [] ys h = absurd (true_false (sym h))
some-append (x ∷ xs) ys h = refl

pub text_facts : (bytes : List ℕ) (w : Written) → IsTokenText bytes w → TextFacts bytes 44
text_facts bytes w (off name e h is) = let d = name_facts name h in subst (λ (b : List ℕ). TextFacts b 44) (sym e) (record { no_blank = d.no_blank; some = refl; short = let l = d.short in omega arith })
text_facts bytes w (clash name e h is) = let d = name_facts name h in subst (λ (b : List ℕ). TextFacts b 44) (sym e) (record { no_blank = d.no_blank; some = refl; short = let l = d.short in omega arith })
text_facts bytes w (plain n) =
    let d = name_facts n.name n.is_a_name in
    let t = tail_facts n.rest w.first w.second n.tail in
    subst (λ (b : List ℕ). TextFacts b 44) (sym n.parts) (record {
      no_blank = list_all-append not_blank n.name n.rest ∙ both (list_all not_blank n.name) (list_all not_blank n.rest) d.no_blank t.0;
      some = some-append n.name n.rest d.some;
      short = let a = d.short in let b = t.1 in omega (arith, length-append n.name n.rest);
    })

-- a text without blanks is one part
no_first : (b : ℕ) (text : List ℕ) → HasNoBlank (b ∷ text) → is_blank b ≡ false
no_first b text h = go (is_blank b) (first_of_both (not_blank b) (list_all not_blank text) h)
  where
    go : (t : Bool) → not t ≡ true → t ≡ false
    go true e = sym e
    go false e = refl

split_text : (text more : List ℕ) → HasNoBlank text → slice_split is_blank (text ++ 32 ∷ more) ≡ text ∷ slice_split is_blank more
split_text [] more h = refl
split_text (b ∷ text) more h =
    slice_split-cons_no is_blank b (text ++ 32 ∷ more) (no_first b text h) ∙ ap (onto_first b) (split_text text more (second_of_both (not_blank b) (list_all not_blank text) h))

split_last : (text : List ℕ) → HasNoBlank text → slice_split is_blank text ≡ text ∷ []
split_last [] h = refl
split_last (b ∷ text) h = slice_split-cons_no is_blank b text (no_first b text h) ∙ ap (onto_first b) (split_last text (second_of_both (not_blank b) (list_all not_blank text) h))

-- a line of texts with a space between each two is split into them
pub split_join : (text : List ℕ) (texts : List (List ℕ)) → HasNoBlank text → Each HasNoBlank texts → slice_split is_blank (join_with_byte 32 (text ∷ texts)) ≡ text ∷ texts
split_join text [] h t = split_last text h
split_join text (next ∷ texts) h t = split_text text (join_with_byte 32 (next ∷ texts)) h ∙ ap (λ (r : List (List ℕ)). text ∷ r) (split_join next texts t.0 t.1)
