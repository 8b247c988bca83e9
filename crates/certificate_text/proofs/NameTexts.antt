-- The name of a local cell reads back as it was written, and its numbers are read one after the other.
use Rattle.std.proofs.Common.{◌≡◌, ℕ, ◌+◌, ◌<◌, ◌≤◌, ◌^◌, Bool, true, false, cond, List, [], ◌∷◌, ◌++◌, length, drop, refl, sym, ap, ◌∙◌, subst, append_assoc, add-one, drop-cons, arith}
use Rattle.std.specs.Prelude.{All, decimal, flat_map, codes, Option, Some, None, get_or, ◌==◌}
use Rattle.std.specs.List.{slice_split, list_all}
use Rattle.std.specs.Str.Parse.{digits_value}
use Rattle.std.proofs.lemmas.Bool.{eqb-true}
use Rattle.std.proofs.lemmas.Fmt.{decimal_is_IsNumeral}
use Rattle.std.proofs.lemmas.List.{append-nil, drop_all, length_push}
use Rattle.std.proofs.lemmas.List.Splits.{slice_split_none, slice_split_at}
use Rattle.names_and_numbers.specs.Names.{is_digit}
use Rattle.names_and_numbers.specs.Numbers.{natural_of_text, are_digits}
use Rattle.names_and_numbers.proofs.Bools.{and_left, and_right}
use Rattle.names_and_numbers.proofs.Printed.{decimal_digits}
use Rattle.token_system.proofs.ReadBack.{few_decimal}
use Rattle.agent_core.specs.Strata.{Each}
use Rattle.agent_laws.proofs.Eachs.{all_each, each_all, Each-append}
use Rattle.certificate_text.specs.LocalNames.{is_dot, local_text, number_before, naturals_of, numbered_name}
use Rattle.certificate_text.specs.Laws.{NamesReadBack}

-- NUMBERS THAT ARE WRITTEN

-- a number reads back as it was written
pub natural-decimal : (n : ℕ) → n < 10 ^ 9 → natural_of_text (decimal n) ≡ Some n
natural-decimal n lt =
    ap (λ b. cond b (Some (digits_value 10 (decimal n))) None) (few_decimal n lt) ∙ ap Some (decimal_is_IsNumeral n (omega arith)).1

-- a digit is no byte that is none
pub digit_is_not : (b k : ℕ) → is_digit k ≡ false → is_digit b ≡ true → b == k ≡ false
digit_is_not b k none digit = go (b == k) refl
  where
    go : (t : Bool) → b == k ≡ t → t ≡ false
    go false e = refl
    go true e = let w : false ≡ true = sym none ∙ ap is_digit (sym (eqb-true b k e)) ∙ digit in absurd (cc)

-- the digits of a number pass no test that no digit passes
module _ (test : ℕ → Bool) (none : (b : ℕ) → is_digit b ≡ true → test b ≡ false) where
  digits_avoid : (ds : List ℕ) → list_all is_digit ds ≡ true → Each (λ b. test b ≡ false) ds
  digits_avoid [] h = tt
  digits_avoid (d ∷ ds) h = (none d (and_left (is_digit d) (list_all is_digit ds) h), digits_avoid ds (and_right (is_digit d) (list_all is_digit ds) h))

  numeral_avoids : (ds : List ℕ) → are_digits ds ≡ true → Each (λ b. test b ≡ false) ds
  numeral_avoids [] h = tt
  numeral_avoids (d ∷ ds) h = digits_avoid (d ∷ ds) h

  pub decimal_avoids : (n : ℕ) → n < 10 ^ 9 → Each (λ b. test b ≡ false) (decimal n)
  decimal_avoids n lt = numeral_avoids (decimal n) (decimal_digits n (omega arith))

-- and so do the bytes of a name of a local cell, which are digits, `@` and `.`
module _ (test : ℕ → Bool) (none : (b : ℕ) → is_digit b ≡ true → test b ≡ false) (at : test 64 ≡ false) (dot : test 46 ≡ false) where
  births_avoid : (births : List ℕ) → Each (λ b. b < 10 ^ 9) births → Each (λ b. test b ≡ false) (flat_map (λ birth. codes "." ++ decimal birth) births)
  births_avoid [] small = tt
  births_avoid (b ∷ births) small =
      (dot, Each-append (λ b. test b ≡ false) (decimal b) (flat_map (λ birth. codes "." ++ decimal birth) births) (decimal_avoids test none b small.0) (births_avoid births small.1))

  pub name_avoids : (node : ℕ) (births : List ℕ) → node < 10 ^ 9 → Each (λ b. b < 10 ^ 9) births → Each (λ b. test b ≡ false) (local_text node births)
  name_avoids node births lt small =
      (at, Each-append (λ b. test b ≡ false) (decimal node) (flat_map (λ birth. codes "." ++ decimal birth) births) (decimal_avoids test none node lt) (births_avoid births small))

decimal_no_dot : (n : ℕ) → n < 10 ^ 9 → All (λ b. is_dot b ≡ false) (decimal n)
decimal_no_dot n lt = each_all (λ b. is_dot b ≡ false) (decimal n) (decimal_avoids is_dot (λ b digit. digit_is_not b 46 refl digit) n lt)

-- numbers with a dot before each but the first
numbers-back : (n : ℕ) (ns : List ℕ) → n < 10 ^ 9 → Each (λ m. m < 10 ^ 9) ns → naturals_of (slice_split is_dot (decimal n ++ flat_map (λ m. codes "." ++ decimal m) ns)) ≡ Some (n ∷ ns)
numbers-back n [] lt small =
    ap (λ (text : List ℕ). naturals_of (slice_split is_dot text)) (append-nil (decimal n))
    ∙ ap naturals_of (slice_split_none is_dot (decimal n) (decimal_no_dot n lt))
    ∙ ap (λ o. number_before o (Some [])) (natural-decimal n lt)
numbers-back n (m ∷ ns) lt small =
    ap naturals_of (slice_split_at is_dot (decimal n) 46 (decimal m ++ flat_map (λ m. codes "." ++ decimal m) ns) (decimal_no_dot n lt) refl)
    ∙ ap (λ o. number_before o (naturals_of (slice_split is_dot (decimal m ++ flat_map (λ m. codes "." ++ decimal m) ns)))) (natural-decimal n lt)
    ∙ ap (λ o. number_before (Some n) o) (numbers-back m ns small.0 small.1)

pub names_law : NamesReadBack
names_law node births lt small = ap numbered_name (numbers-back node births lt (all_each (λ m. m < 10 ^ 9) births small))

-- NUMBERS THAT ARE READ

-- numbers before those of later texts
abbrev pub numbers_before : List ℕ → Option (List ℕ) → Option (List ℕ)
numbers_before ns None = None
numbers_before ns (Some later) = Some (ns ++ later)

-- the texts are those of these numbers, and then those that are left
abbrev pub ReadUpTo : List (List ℕ) → List ℕ → List (List ℕ) → Type 0
ReadUpTo all read rest = naturals_of all ≡ numbers_before read (naturals_of rest)

pub read-none : (all : List (List ℕ)) → ReadUpTo all [] all
read-none all = go (naturals_of all)
  where
    go : (o : Option (List ℕ)) → o ≡ numbers_before [] o
    go None = refl
    go (Some ns) = refl

module _ (all : List (List ℕ)) (read : List ℕ) (text : List ℕ) (rest : List (List ℕ)) (r : ReadUpTo all read (text ∷ rest)) where
  -- one more
  pub read-more : (n : ℕ) → natural_of_text text ≡ Some n → ReadUpTo all (read ++ n ∷ []) rest
  read-more n e = r ∙ ap (λ o. numbers_before read (number_before o (naturals_of rest))) e ∙ go (naturals_of rest)
    where
      go : (o : Option (List ℕ)) → numbers_before read (number_before (Some n) o) ≡ numbers_before (read ++ n ∷ []) o
      go None = refl
      go (Some ns) = ap Some (sym (append_assoc read (n ∷ []) ns))

  -- a text that is no number
  pub read-stopped : natural_of_text text ≡ None → naturals_of all ≡ None
  read-stopped e = r ∙ ap (λ o. numbers_before read (number_before o (naturals_of rest))) e

pub read-all : (all : List (List ℕ)) (read : List ℕ) → ReadUpTo all read [] → naturals_of all ≡ Some read
read-all all read r = r ∙ ap Some (append-nil read)

-- the text that comes next
pub read-next : (all : List (List ℕ)) (read : List ℕ) (k : ℕ) (text : List ℕ) → (k < length all) × (text ≡ get_or all k text) → ReadUpTo all read (drop k all) → ReadUpTo all read (text ∷ drop (k + 1) all)
read-next all read k text (lt, is) r =
    let parts : drop k all ≡ get_or all k text ∷ drop (k + 1) all = rw add-one (drop-cons all k text lt) in
    let here : ReadUpTo all read (get_or all k text ∷ drop (k + 1) all) = subst (ReadUpTo all read) parts r in
    subst (λ (x : List ℕ). ReadUpTo all read (x ∷ drop (k + 1) all)) (sym is) here

-- one text more was read
pub read-pushed : (all : List (List ℕ)) (read : List ℕ) {X : Type 0} (xs : List X) (x : X) → ReadUpTo all read (drop (length xs + 1) all) → ReadUpTo all read (drop (length (xs ++ x ∷ [])) all)
read-pushed all read xs x r = subst (λ (k : ℕ). ReadUpTo all read (drop k all)) (sym (length_push xs x)) r

-- no text is left
pub read-past : (all : List (List ℕ)) (read : List ℕ) (k : ℕ) → length all ≤ k → ReadUpTo all read (drop k all) → naturals_of all ≡ Some read
read-past all read k over r = read-all all read (subst (ReadUpTo all read) (drop_all k all over) r)
