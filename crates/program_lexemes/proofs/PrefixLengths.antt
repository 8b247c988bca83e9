-- The prefixes of a list of bytes that pass a test, byte by byte, as digits, and as at most nine digits.
use Rattle.std.proofs.Common.{◌≡◌, ℕ, ◌<◌, ◌≤◌, List, [], ◌∷◌, length, take, refl, ap, arith, Bool, true, false, zero, suc, min}
use Rattle.std.specs.Prelude.{if◌then◌else◌, ◌&&◌, nat_le}
use Rattle.std.specs.List.{list_all}
use Rattle.std.proofs.lemmas.List.{length-take-le}
pub use Rattle.names_and_numbers.proofs.Bools.{and_left, and_right}
use Rattle.names_and_numbers.proofs.Bools.{both_true}
use Rattle.names_and_numbers.specs.Limits.{most_digits}
use Rattle.program_lexemes.specs.Forms.{is_digit, are_digits, are_few_digits}
use Rattle.program_lexemes.specs.Prefixes.{prefix_len, IsLongestPrefix, NoPrefix}

prefix_passes : (p : ℕ → Bool) (bs : List ℕ) (m : ℕ) → m ≤ prefix_len p bs → list_all p (take m bs) ≡ true
prefix_passes p bs zero h = refl
prefix_passes p [] (suc m) h = absurd (omega arith)
prefix_passes p (b ∷ bs) (suc m) h = go (p b) refl h (prefix_passes p bs m)
  where
    go : (t : Bool) → p b ≡ t → suc m ≤ (if t then suc (prefix_len p bs) else 0) → (m ≤ prefix_len p bs → list_all p (take m bs) ≡ true) → (p b && list_all p (take m bs)) ≡ true
    go true e h ih = both_true (p b) (list_all p (take m bs)) e (ih (omega arith))
    go false e h ih = absurd (omega arith)

pub prefix_within : (p : ℕ → Bool) (bs : List ℕ) → prefix_len p bs ≤ length bs
prefix_within p [] = omega arith
prefix_within p (b ∷ bs) = go (p b) (prefix_within p bs)
  where
    go : (t : Bool) → prefix_len p bs ≤ length bs → (if t then suc (prefix_len p bs) else 0) ≤ length (b ∷ bs)
    go true h = omega arith
    go false h = omega arith

prefix_longest : (p : ℕ → Bool) (bs : List ℕ) (m : ℕ) → m ≤ length bs → list_all p (take m bs) ≡ true → m ≤ prefix_len p bs
prefix_longest p bs zero h e = omega arith
prefix_longest p [] (suc m) h e = absurd (omega arith)
prefix_longest p (b ∷ bs) (suc m) h e = go (p b) refl (prefix_longest p bs m (omega arith) (and_right (p b) (list_all p (take m bs)) e))
  where
    go : (t : Bool) → p b ≡ t → m ≤ prefix_len p bs → suc m ≤ (if t then suc (prefix_len p bs) else 0)
    go true q ih = omega arith
    go false q ih = let w : p b ≡ true = and_left (p b) (list_all p (take m bs)) e in cc

pub prefix_front : (p : ℕ → Bool) (bs : List ℕ) → IsLongestPrefix (list_all p) bs (prefix_len p bs)
prefix_front p bs = record {
  within = prefix_within p bs;
  passes = prefix_passes p bs (prefix_len p bs) (omega arith);
  longest = prefix_longest p bs;
}

-- digits, one at least
are_all : (bs : List ℕ) → are_digits bs ≡ true → list_all is_digit bs ≡ true
are_all [] e = cc
are_all (d ∷ ds) e = e

digits_pass : (bs : List ℕ) (m : ℕ) → 0 < m → m ≤ prefix_len is_digit bs → are_digits (take m bs) ≡ true
digits_pass bs zero h k = absurd (omega arith)
digits_pass [] (suc m) h k = absurd (omega arith)
digits_pass (d ∷ ds) (suc m) h k = prefix_passes is_digit (d ∷ ds) (suc m) k

digits_longest : (bs : List ℕ) (m : ℕ) → m ≤ length bs → are_digits (take m bs) ≡ true → m ≤ prefix_len is_digit bs
digits_longest bs m h e = prefix_longest is_digit bs m h (are_all (take m bs) e)

pub digits_front : (bs : List ℕ) → 0 < prefix_len is_digit bs → IsLongestPrefix are_digits bs (prefix_len is_digit bs)
digits_front bs h = record {
  within = prefix_within is_digit bs;
  passes = digits_pass bs (prefix_len is_digit bs) h (omega arith);
  longest = digits_longest bs;
}

no_digits : (bs : List ℕ) (m : ℕ) → prefix_len is_digit bs ≡ 0 → m ≤ length bs → are_digits (take m bs) ≡ true → ⊥
no_digits bs zero e h q = cc
no_digits bs (suc m) e h q = let longest : suc m ≤ prefix_len is_digit bs = digits_longest bs (suc m) h q in absurd (omega (arith, e, longest))

not_true : (t : Bool) → (t ≡ true → ⊥) → t ≡ false
not_true true h = absurd (h refl)
not_true false h = refl

pub no_digits_front : (bs : List ℕ) → prefix_len is_digit bs ≡ 0 → NoPrefix are_digits bs
no_digits_front bs e = λ m h. not_true (are_digits (take m bs)) (no_digits bs m e h)

-- at most nine of them
few : (m : ℕ) → m ≤ most_digits → nat_le m most_digits ≡ true
few m h = grind arith

few_le : (m : ℕ) → nat_le m most_digits ≡ true → m ≤ most_digits
few_le m h = grind arith

pub few_digits_front : (bs : List ℕ) → 0 < min (prefix_len is_digit bs) most_digits → IsLongestPrefix are_few_digits bs (min (prefix_len is_digit bs) most_digits)
few_digits_front bs h = record {
  within = within;
  passes = both_true (are_digits (take (min (prefix_len is_digit bs) most_digits) bs)) (nat_le (length (take (min (prefix_len is_digit bs) most_digits) bs)) most_digits) (digits_pass bs (min (prefix_len is_digit bs) most_digits) h (omega arith)) (few (length (take (min (prefix_len is_digit bs) most_digits) bs)) (omega (arith, length-take-le (min (prefix_len is_digit bs) most_digits) bs within)));
  longest = longest;
}
  where
    within : min (prefix_len is_digit bs) most_digits ≤ length bs
    within = omega (arith, prefix_within is_digit bs)

    longest : (m : ℕ) → m ≤ length bs → are_few_digits (take m bs) ≡ true → m ≤ min (prefix_len is_digit bs) most_digits
    longest m h e =
        let all : m ≤ prefix_len is_digit bs = digits_longest bs m h (and_left (are_digits (take m bs)) (nat_le (length (take m bs)) most_digits) e) in
        let short : length (take m bs) ≤ most_digits = few_le (length (take m bs)) (and_right (are_digits (take m bs)) (nat_le (length (take m bs)) most_digits) e) in
        omega (arith, all, short, length-take-le m bs h)

pub no_few_digits_front : (bs : List ℕ) → min (prefix_len is_digit bs) most_digits ≡ 0 → NoPrefix are_few_digits bs
no_few_digits_front bs e = λ m h. ap (λ t. t && nat_le (length (take m bs)) most_digits) (no_digits_front bs (omega arith) m h)
