-- The value that the parts of one cell have, and what it becomes where a token is told to them.
use Rattle.std.proofs.Common.{◌≡◌, ◌≢◌, ◌⊎◌, inl, inr, ℕ, zero, suc, ◌+◌, ◌<◌, ◌≤◌, Bool, true, false, cond, ◌&&◌, length, max, min, refl, sym, ap, ◌∙◌, subst, arith}
use Rattle.std.specs.Prelude.{bit_or, nat_lt, ℤ, pos, ◌+ℤ◌, ◌-ℤ◌, ◌≤ℤ◌, ◌<ℤ◌, int_le, int_lt, IsTrue}
use Rattle.std.proofs.lemmas.Int.{ints}
use Rattle.std.proofs.lemmas.Bool.Decides.{nat_tests}
use Rattle.token_system.specs.declared.cell.Kind.{Kind}
use Rattle.token_system.specs.declared.cell.Kind.TheVariants.{Signal, Number}
use Rattle.token_system.specs.declared.cell.Token.{Token}
use Rattle.token_system.specs.declared.cell.Token.TheVariants as token
use Rattle.token_system.specs.declared.cell.Value.{Value}
use Rattle.token_system.specs.declared.cell.Value.TheVariants as value
use Rattle.token_system.specs.Domain.{is_bound, is_cell}
use Rattle.token_system.specs.Tokens.{fits_kind}
use Rattle.token_system.specs.Values.{value_with, WithinDomain, IsProper}
use Rattle.token_system.proofs.Alike.{true_false}
use Rattle.instant_net.specs.declared.words.How.{How}
use Rattle.instant_net.specs.declared.words.How.TheVariants.{Or, Max, Min}
use Rattle.instant_net.specs.Words.{lub, bits_value, number_value, kind_value, kind_hows, shifted, offset}
use Rattle.instant_net.proofs.PartTells.{split}

-- SIGNALS

below_four : (r : ℕ) → r < 4 → (f g : ℕ → Value) → f 0 ≡ g 0 → f 1 ≡ g 1 → f 2 ≡ g 2 → f 3 ≡ g 3 → f r ≡ g r
below_four zero h f g a b c d = a
below_four (suc zero) h f g a b c d = b
below_four (suc (suc zero)) h f g a b c d = c
below_four (suc (suc (suc zero))) h f g a b c d = d
below_four (suc (suc (suc (suc r)))) h f g a b c d = absurd (omega arith)

-- one token's bits, set in a signal's part
signal_told : (w b : ℕ) (t : Token) → w < 4
    → bits_value (bit_or 0 b) ≡ value_with (bits_value 0) t → bits_value (bit_or 1 b) ≡ value_with (bits_value 1) t
    → bits_value (bit_or 2 b) ≡ value_with (bits_value 2) t → bits_value (bit_or 3 b) ≡ value_with (bits_value 3) t
    → bits_value (bit_or w b) ≡ value_with (bits_value w) t
signal_told w b t h p q r s = below_four w h (λ x. bits_value (bit_or x b)) (λ x. value_with (bits_value x) t) p q r s

-- NUMBERS

-- the value where the bounds cross or not
abbrev by_test : ℕ → ℕ → Bool → Value
by_test lo hi b = cond b value.Clash (value.Number (pos lo -ℤ pos offset) (pos hi -ℤ pos offset))

number_by : (lo hi : ℕ) (b : Bool) → nat_lt hi lo ≡ b → number_value lo hi ≡ by_test lo hi b
number_by lo hi b e = ap (by_test lo hi) e

-- the word of a bound
pub shifted_is : (k : ℤ) → IsTrue (is_bound k) → pos (shifted k) ≡ k +ℤ pos offset
shifted_is k h = grind (arith, ints)

pub unshifted : (k : ℤ) (n : ℕ) → IsTrue (is_bound k) → n ≡ shifted k → pos n -ℤ pos offset ≡ k
unshifted k n h e = let s = shifted_is k h in let t : pos n ≡ pos (shifted k) = ap pos e in omega (arith, ints)

at_or_below : (k : ℤ) (n : ℕ) → IsTrue (is_bound k) → int_le k (pos n -ℤ pos offset) ≡ true → shifted k ≤ n
at_or_below k n h e = let s = shifted_is k h in let t : k ≤ℤ (pos n -ℤ pos offset) = grind (arith, ints) in omega (arith, ints)

not_below : (k : ℤ) (n : ℕ) → IsTrue (is_bound k) → int_le k (pos n -ℤ pos offset) ≡ false → n < shifted k
not_below k n h e = let s = shifted_is k h in let t : (pos n -ℤ pos offset) <ℤ k = grind (arith, ints) in omega (arith, ints)

at_or_above : (k : ℤ) (n : ℕ) → IsTrue (is_bound k) → int_le (pos n -ℤ pos offset) k ≡ true → n ≤ shifted k
at_or_above k n h e = let s = shifted_is k h in let t : (pos n -ℤ pos offset) ≤ℤ k = grind (arith, ints) in omega (arith, ints)

not_above : (k : ℤ) (n : ℕ) → IsTrue (is_bound k) → int_le (pos n -ℤ pos offset) k ≡ false → shifted k < n
not_above k n h e = let s = shifted_is k h in let t : k <ℤ (pos n -ℤ pos offset) = grind (arith, ints) in omega (arith, ints)

is_above : (k : ℤ) (n : ℕ) → IsTrue (is_bound k) → int_lt (pos n -ℤ pos offset) k ≡ true → n < shifted k
is_above k n h e = let s = shifted_is k h in let t : (pos n -ℤ pos offset) <ℤ k = grind (arith, ints) in omega (arith, ints)

is_not_above : (k : ℤ) (n : ℕ) → IsTrue (is_bound k) → int_lt (pos n -ℤ pos offset) k ≡ false → shifted k ≤ n
is_not_above k n h e = let s = shifted_is k h in let t : k ≤ℤ (pos n -ℤ pos offset) = grind (arith, ints) in omega (arith, ints)

is_below : (k : ℤ) (n : ℕ) → IsTrue (is_bound k) → int_lt k (pos n -ℤ pos offset) ≡ true → shifted k < n
is_below k n h e = let s = shifted_is k h in let t : k <ℤ (pos n -ℤ pos offset) = grind (arith, ints) in omega (arith, ints)

is_not_below : (k : ℤ) (n : ℕ) → IsTrue (is_bound k) → int_lt k (pos n -ℤ pos offset) ≡ false → n ≤ shifted k
is_not_below k n h e = let s = shifted_is k h in let t : (pos n -ℤ pos offset) ≤ℤ k = grind (arith, ints) in omega (arith, ints)

crossed : (lo hi : ℕ) → hi < lo → nat_lt hi lo ≡ true
crossed lo hi h = grind (arith, nat_tests)

not_crossed : (lo hi : ℕ) → lo ≤ hi → nat_lt hi lo ≡ false
not_crossed lo hi h = grind (arith, nat_tests)

pub number_clashes : (lo hi : ℕ) → hi < lo → number_value lo hi ≡ value.Clash
number_clashes lo hi h = number_by lo hi true (crossed lo hi h)

pub number_stands : (lo hi : ℕ) → lo ≤ hi → number_value lo hi ≡ value.Number (pos lo -ℤ pos offset) (pos hi -ℤ pos offset)
number_stands lo hi h = number_by lo hi false (not_crossed lo hi h)

stays_clash : (lo hi x y : ℕ) (t : Token) → hi < lo → y < x → number_value x y ≡ value_with (number_value lo hi) t
stays_clash lo hi x y t h i = number_clashes x y i ∙ sym (ap (λ v. value_with v t) (number_clashes lo hi h))

number_at_least : (lo hi : ℕ) (k : ℤ) → IsTrue (is_bound k) → number_value (max lo (shifted k)) hi ≡ value_with (number_value lo hi) (token.AtLeast k)
number_at_least lo hi k h = go (split hi lo)
  where
    cases : lo ≤ hi → (q u : Bool) → int_le k (pos lo -ℤ pos offset) ≡ q → int_lt (pos hi -ℤ pos offset) k ≡ u
        → number_value (max lo (shifted k)) hi ≡ cond q (value.Number (pos lo -ℤ pos offset) (pos hi -ℤ pos offset)) (cond u value.Clash (value.Number k (pos hi -ℤ pos offset)))
    cases le true u eq eu =
        let s = at_or_below k lo h eq in
        let m : max lo (shifted k) ≡ lo = omega arith in
        ap (λ x. number_value x hi) m ∙ number_stands lo hi le
    cases le false true eq eu =
        let s = is_above k hi h eu in
        number_clashes (max lo (shifted k)) hi (omega arith)
    cases le false false eq eu =
        let s = not_below k lo h eq in
        let t = is_not_above k hi h eu in
        let m : max lo (shifted k) ≡ shifted k = omega arith in
        number_stands (max lo (shifted k)) hi (omega arith) ∙ ap (λ z. value.Number z (pos hi -ℤ pos offset)) (unshifted k (max lo (shifted k)) h m)

    go : (hi < lo) ⊎ (lo ≤ hi) → number_value (max lo (shifted k)) hi ≡ value_with (number_value lo hi) (token.AtLeast k)
    go (inl lt) = stays_clash lo hi (max lo (shifted k)) hi (token.AtLeast k) lt (omega arith)
    go (inr le) = cases le _ _ refl refl ∙ sym (ap (λ v. value_with v (token.AtLeast k)) (number_stands lo hi le))

number_at_most : (lo hi : ℕ) (k : ℤ) → IsTrue (is_bound k) → number_value lo (min hi (shifted k)) ≡ value_with (number_value lo hi) (token.AtMost k)
number_at_most lo hi k h = go (split hi lo)
  where
    cases : lo ≤ hi → (q u : Bool) → int_le (pos hi -ℤ pos offset) k ≡ q → int_lt k (pos lo -ℤ pos offset) ≡ u
        → number_value lo (min hi (shifted k)) ≡ cond q (value.Number (pos lo -ℤ pos offset) (pos hi -ℤ pos offset)) (cond u value.Clash (value.Number (pos lo -ℤ pos offset) k))
    cases le true u eq eu =
        let s = at_or_above k hi h eq in
        let m : min hi (shifted k) ≡ hi = omega arith in
        ap (number_value lo) m ∙ number_stands lo hi le
    cases le false true eq eu =
        let s = is_below k lo h eu in
        number_clashes lo (min hi (shifted k)) (omega arith)
    cases le false false eq eu =
        let s = not_above k hi h eq in
        let t = is_not_below k lo h eu in
        let m : min hi (shifted k) ≡ shifted k = omega arith in
        number_stands lo (min hi (shifted k)) (omega arith) ∙ ap (value.Number (pos lo -ℤ pos offset)) (unshifted k (min hi (shifted k)) h m)

    go : (hi < lo) ⊎ (lo ≤ hi) → number_value lo (min hi (shifted k)) ≡ value_with (number_value lo hi) (token.AtMost k)
    go (inl lt) = stays_clash lo hi lo (min hi (shifted k)) (token.AtMost k) lt (omega arith)
    go (inr le) = cases le _ _ refl refl ∙ sym (ap (λ v. value_with v (token.AtMost k)) (number_stands lo hi le))

number_clash : (lo hi : ℕ) → hi < 4294967296 → number_value (max lo 4294967296) hi ≡ value_with (number_value lo hi) token.Clash
number_clash lo hi h = number_clashes (max lo 4294967296) hi (omega arith) ∙ go (split hi lo)
  where
    go : (hi < lo) ⊎ (lo ≤ hi) → value.Clash ≡ value_with (number_value lo hi) token.Clash
    go (inl lt) = sym (ap (λ v. value_with v token.Clash) (number_clashes lo hi lt))
    go (inr le) = sym (ap (λ v. value_with v token.Clash) (number_stands lo hi le))

-- BOTH KINDS

-- what a token tells: to which of its cell's parts, counted from the first, in which way, and which bits
abbrev pub told_nth : Kind → Token → ℕ
told_nth Number (token.AtMost k) = 1
told_nth _ t = 0

abbrev pub told_how : Kind → Token → How
told_how Number (token.AtLeast k) = Max
told_how Number (token.AtMost k) = Min
told_how Number token.Clash = Max
told_how _ t = Or

abbrev pub told_bits : Kind → Token → ℕ
told_bits Signal token.On = 1
told_bits Signal token.Off = 2
told_bits Signal token.Clash = 3
told_bits Number (token.AtLeast k) = shifted k
told_bits Number (token.AtMost k) = shifted k
told_bits Number token.Clash = 4294967296
told_bits _ t = 0

-- the first part, written with what is added to it
at_none : (at : ℕ → ℕ) (a : ℕ) → at (a + 0) ≡ at a
at_none at a = ap at (omega arith)

-- where the told part has risen and the others are as before, the value of the cell is that with the token
pub value_told : (k : Kind) (first : ℕ) (t : Token) (at after : ℕ → ℕ) → IsTrue (fits_kind k t) → (k ≡ Signal → at first < 4) → (k ≡ Number → at (first + 1) < 4294967296)
    → after (first + told_nth k t) ≡ lub (told_how k t) (at (first + told_nth k t)) (told_bits k t)
    → ((i : ℕ) → i < length (kind_hows k) → i ≢ told_nth k t → after (first + i) ≡ at (first + i))
    → kind_value k after first ≡ value_with (kind_value k at first) t
value_told Signal first token.On at after f s n told other =
    ap bits_value (sym (at_none after first) ∙ told ∙ ap (λ x. bit_or x 1) (at_none at first)) ∙ signal_told (at first) 1 token.On (s refl) refl refl refl refl
value_told Signal first token.Off at after f s n told other =
    ap bits_value (sym (at_none after first) ∙ told ∙ ap (λ x. bit_or x 2) (at_none at first)) ∙ signal_told (at first) 2 token.Off (s refl) refl refl refl refl
value_told Signal first token.Clash at after f s n told other =
    ap bits_value (sym (at_none after first) ∙ told ∙ ap (λ x. bit_or x 3) (at_none at first)) ∙ signal_told (at first) 3 token.Clash (s refl) refl refl refl refl
value_told Signal first (token.AtLeast k) at after f s n told other = absurd (true_false (sym f))
value_told Signal first (token.AtMost k) at after f s n told other = absurd (true_false (sym f))
value_told Number first token.On at after f s n told other = absurd (true_false (sym f))
value_told Number first token.Off at after f s n told other = absurd (true_false (sym f))
value_told Number first (token.AtLeast k) at after f s n told other =
    ap (λ x. number_value x (after (first + 1))) (sym (at_none after first) ∙ told ∙ ap (λ x. max x (shifted k)) (at_none at first))
    ∙ ap (number_value (max (at first) (shifted k))) (other 1 (omega arith) (omega arith))
    ∙ number_at_least (at first) (at (first + 1)) k f
value_told Number first (token.AtMost k) at after f s n told other =
    ap (λ x. number_value x (after (first + 1))) (sym (at_none after first) ∙ other 0 (omega arith) (omega arith) ∙ at_none at first)
    ∙ ap (number_value (at first)) told
    ∙ number_at_most (at first) (at (first + 1)) k f
value_told Number first token.Clash at after f s n told other =
    ap (λ x. number_value x (after (first + 1))) (sym (at_none after first) ∙ told ∙ ap (λ x. max x 4294967296) (at_none at first))
    ∙ ap (number_value (max (at first) 4294967296)) (other 1 (omega arith) (omega arith))
    ∙ number_clash (at first) (at (first + 1)) (n refl)

-- VALUES OF A CELL

signal_within : (least most : ℤ) (bits : ℕ) → WithinDomain least most Signal (bits_value bits) × IsProper (bits_value bits)
signal_within least most zero = (tt, refl)
signal_within least most (suc zero) = (tt, refl)
signal_within least most (suc (suc zero)) = (tt, refl)
signal_within least most (suc (suc (suc bits))) = (tt, tt)

number_within : (least most : ℤ) (lo hi : ℕ) → IsTrue (is_bound least) → IsTrue (is_bound most) → shifted least ≤ lo → hi ≤ shifted most → WithinDomain least most Number (number_value lo hi) × IsProper (number_value lo hi)
number_within least most lo hi bl bm l m = go (split hi lo)
  where
    go : (hi < lo) ⊎ (lo ≤ hi) → WithinDomain least most Number (number_value lo hi) × IsProper (number_value lo hi)
    go (inl lt) = subst (λ (v : Value). WithinDomain least most Number v × IsProper v) (sym (number_clashes lo hi lt)) (tt, tt)
    go (inr le) =
        let s = shifted_is least bl in
        let t = shifted_is most bm in
        subst (λ (v : Value). WithinDomain least most Number v × IsProper v) (sym (number_stands lo hi le)) ((omega (arith, ints), omega (arith, ints)), omega (arith, ints))

pub bounds_lawful : (least most : ℤ) → IsTrue (is_cell Number least most) → IsTrue (is_bound least) × IsTrue (is_bound most)
bounds_lawful least most l = (go (is_bound least) (is_bound most) (int_le least most) l)
  where
    go : (a b c : Bool) → IsTrue (a && b && c) → IsTrue a × IsTrue b
    go true true c h = (refl, refl)
    go true false c h = absurd (true_false (sym h))
    go false b c h = absurd (true_false (sym h))

-- a bound's word is small
pub shifted_small : (k : ℤ) → IsTrue (is_bound k) → shifted k < 4294967296
shifted_small k h = grind (arith, ints)

pub greatest_small : (least most : ℤ) → IsTrue (is_cell Number least most) → shifted most < 4294967296
greatest_small least most l = shifted_small most (bounds_lawful least most l).1

pub value_within : (k : Kind) (least most : ℤ) → IsTrue (is_cell k least most) → (at : ℕ → ℕ) (first : ℕ) → (k ≡ Number → (shifted least ≤ at first) × (at (first + 1) ≤ shifted most)) → WithinDomain least most k (kind_value k at first) × IsProper (kind_value k at first)
value_within Signal least most l at first h = signal_within least most (at first)
value_within Number least most l at first h = let b = bounds_lawful least most l in let s = h refl in number_within least most (at first) (at (first + 1)) b.0 b.1 s.0 s.1
