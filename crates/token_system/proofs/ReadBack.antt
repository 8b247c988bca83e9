-- The text of a token reads as that token.
use Rattle.std.proofs.Common.{◌≡◌, ℕ, suc, ◌<◌, ◌≤◌, ◌^◌, Bool, true, false, ◌&&◌, not, ℤ, pos, negsuc, List, [], ◌∷◌, ◌++◌, length, Some, None, refl, sym, ap, ◌∙◌, subst, arith}
use Rattle.std.specs.Prelude.{IsTrue, codes, nat_le, if◌then◌else◌}
use Rattle.std.specs.List.{list_all}
use mathlib.Core.List.{append_assoc}
use Rattle.std.specs.Fmt.{decimal, signed_decimal}
use Rattle.std.proofs.lemmas.Fmt.{length-decimal-le}
use Rattle.std.proofs.lemmas.Bool.Decides.{nat_tests}
use Rattle.std.proofs.lemmas.Int.{ints}
use Rattle.token_system.specs.Domain.{is_bound}
use Rattle.token_system.specs.declared.cell.Cell.{Cell}
use Rattle.token_system.specs.Tokens.{Fits}
use Rattle.token_system.specs.declared.cell.Kind.{Kind}
use Rattle.token_system.proofs.ByKind.{Fitting, fitting}
use Rattle.token_system.proofs.ByKind as by
use Rattle.token_system.specs.declared.cell.Token.{Token}
use Rattle.token_system.specs.declared.cell.Token.TheVariants.{AtLeast, AtMost}
use Rattle.names_and_numbers.specs.Limits.{most_digits}
use Rattle.names_and_numbers.specs.Names.{is_digit, is_name}
use Rattle.names_and_numbers.specs.Numbers.{are_digits, are_few_digits, digits_of, value_of_number, number_of_text}
use Rattle.names_and_numbers.proofs.Bools.{and_left, both_true}
use Rattle.names_and_numbers.proofs.Printed.{decimal_digits, no_minus, number_of-decimal, number_of-minus_decimal}
use Rattle.token_system.specs.Texts.{text_of, written_of, alone, at_least, at_most, IsTail, IsTokenText, off, clash, plain}
use Rattle.token_system.proofs.Alike.{true_false}

pub few_decimal : (n : ℕ) → n < 10 ^ 9 → are_few_digits (decimal n) ≡ true
few_decimal n lt = both_true (are_digits (decimal n)) (nat_le (length (decimal n)) most_digits) (decimal_digits n (omega arith)) (at_most (length (decimal n)) (length-decimal-le 9 n (omega arith) lt (omega arith)))
  where
    at_most : (m : ℕ) → m ≤ 9 → nat_le m 9 ≡ true
    at_most m h = grind (arith, nat_tests)

-- digits have no minus in front
digits_alone : (ds : List ℕ) → are_digits ds ≡ true → digits_of ds ≡ ds
digits_alone [] h = refl
digits_alone (d ∷ ds) h = ap (λ t. if t then ds else d ∷ ds) (no_minus d (and_left (is_digit d) (list_all is_digit ds) h))

read_number : (bytes : List ℕ) (k : ℤ) → are_few_digits (digits_of bytes) ≡ true → value_of_number bytes ≡ k → number_of_text bytes ≡ Some k
read_number bytes k few e = ap (λ t. if t then Some (value_of_number bytes) else None) few ∙ ap Some e

pub number-signed_decimal : (k : ℤ) → IsTrue (is_bound k) → number_of_text (signed_decimal k) ≡ Some k
number-signed_decimal (pos n) h =
    let lt : n < 10 ^ 9 = grind (arith, ints) in
    read_number (decimal n) (pos n) (ap are_few_digits (digits_alone (decimal n) (decimal_digits n (omega arith))) ∙ few_decimal n lt) (number_of-decimal n (omega arith))
number-signed_decimal (negsuc n) h =
    let lt : suc n < 10 ^ 9 = grind (arith, ints) in
    read_number (45 ∷ decimal (suc n)) (negsuc n) (few_decimal (suc n) lt) (number_of-minus_decimal (suc n) (omega arith))

append_nil : (xs : List ℕ) → xs ++ [] ≡ xs
append_nil [] = refl
append_nil (x ∷ xs) = ap (λ (ys : List ℕ). x ∷ ys) (append_nil xs)

-- what follows the name in the text of a token with a number
numbered : (name relation : List ℕ) (k : ℤ) (t : Token) → IsTrue (is_name name) → IsTail (relation ++ signed_decimal k) t None
    → IsTokenText (name ++ relation ++ signed_decimal k) (record { name_start = 0; name_end = length name; first = t; second = None })
numbered name relation k t h tail = plain (record { name = name; rest = relation ++ signed_decimal k; parts = append_assoc name relation (signed_decimal k); is_a_name = h; tail = tail; start = refl; ends = refl })

-- the text of a token that fits a kind reads as that token
reads_back : (name : List ℕ) (k : Kind) (t : Token) → IsTrue (is_name name) → Fitting k t → IsTokenText (text_of name t) (written_of name t)
reads_back name _ _ h by.on = plain (record { name = name; rest = []; parts = sym (append_nil name); is_a_name = h; tail = alone refl refl refl; start = refl; ends = refl })
reads_back name _ _ h by.off = off name refl h refl
reads_back name _ _ h (by.Fitting.clash _) = clash name refl h refl
reads_back name _ _ h (by.at_least k f) = numbered name (codes ">=") k (AtLeast k) h (at_least (signed_decimal k) k refl (number-signed_decimal k f) refl refl)
reads_back name _ _ h (by.at_most k f) = numbered name (codes "<=") k (AtMost k) h (at_most (signed_decimal k) k refl (number-signed_decimal k f) refl refl)

pub fitting_reads_back : (c : Cell) (name : List ℕ) (t : Token) → Fits c t → IsTrue (is_name name) → IsTokenText (text_of name t) (written_of name t)
fitting_reads_back c name t f h = reads_back name c.kind t h (fitting c.kind t f)
