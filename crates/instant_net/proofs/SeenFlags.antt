-- Flags that are set one after another: those of the places between two that pass a test.
use Rattle.std.proofs.Common.{◌≡◌, ◌≢◌, ◌⊎◌, inl, inr, ℕ, ◌+◌, ◌<◌, ◌≤◌, Bool, true, false, ◌&&◌, ◌||◌, List, length, set, map, refl, sym, ap, ◌∙◌, arith, length-set, get_or-set_same, get_or-set_other}
use Rattle.std.specs.Prelude.{nat_le, nat_lt}
use Rattle.std.specs.List.{range_with_len}
use Rattle.std.proofs.lemmas.Bool.{cases_eq}
use Rattle.std.proofs.lemmas.Bool.Decides.{nat_tests}
use Rattle.std.proofs.lemmas.List.FromFn.{fill_by_all}
use Rattle.instant_net.specs.Seen.{is_set}

-- place q is one of from up to, and without, past
abbrev pub is_between : ℕ → ℕ → ℕ → Bool
is_between from past q = nat_le from q && nat_lt q past

none-between : (from q : ℕ) → is_between from from q ≡ false
none-between from q = grind (arith, nat_tests)

here-between : (from past q : ℕ) → from ≤ past → q ≡ past → is_between from (past + 1) q ≡ true
here-between from past q h e = grind (arith, nat_tests)

past-between : (from past q : ℕ) → q ≡ past → is_between from past q ≡ false
past-between from past q e = grind (arith, nat_tests)

other-between : (from past q : ℕ) → q ≢ past → is_between from (past + 1) q ≡ is_between from past q
other-between from past q n = grind (arith, nat_tests)

pub all-between : (past q : ℕ) → q < past → is_between 0 past q ≡ true
all-between past q h = grind (arith, nat_tests)

-- of the places between these two the flags are set that pass the test, and the others are the old ones
pub record AreSetBetween (test : ℕ → Bool) (from past : ℕ) (old flags : List Bool) : Type 0 where
  pub long : length flags ≡ length old
  pub each : (q : ℕ) → q < length old → is_set flags q ≡ (is_set old q || (is_between from past q && test q))

or-false : (a : Bool) → (a || false) ≡ a
or-false true = refl
or-false false = refl

or-true : (a : Bool) → (a || true) ≡ true
or-true true = refl
or-true false = refl

and-false : (a : Bool) → (a && false) ≡ false
and-false true = refl
and-false false = refl

pub none-set : (test : ℕ → Bool) (from : ℕ) (old : List Bool) → AreSetBetween test from from old old
none-set test from old = record {
  long = refl;
  each = λ q h. sym (or-false (is_set old q)) ∙ sym (ap (λ b. is_set old q || (b && test q)) (none-between from q));
}

module _ (test : ℕ → Bool) (from past : ℕ) (old flags : List Bool) (so_far : AreSetBetween test from past old flags) (after : from ≤ past) (within : past < length old) where
  -- the flag at the next place is set, as it passes
  pub set-next : test past ≡ true → AreSetBetween test from (past + 1) old (set flags past true)
  set-next passes = record {
    long = length-set flags past true ∙ so_far.long;
    each = λ q h. go q h (cases_eq q past);
  }
    where
      go : (q : ℕ) → q < length old → (q ≡ past) ⊎ (q ≢ past) → is_set (set flags past true) q ≡ (is_set old q || (is_between from (past + 1) q && test q))
      go q h (inl e) =
          let long = so_far.long in
          ap (is_set (set flags past true)) e ∙ get_or-set_same flags past true false (omega arith)
          ∙ sym (or-true (is_set old q))
          ∙ sym (ap (λ b. is_set old q || (b && test q)) (here-between from past q after e) ∙ ap (λ b. is_set old q || b) (ap test e ∙ passes))
      go q h (inr n) =
          get_or-set_other flags past q true false n ∙ so_far.each q h
          ∙ sym (ap (λ b. is_set old q || (b && test q)) (other-between from past q n))

  -- it stays, as it does not pass
  pub kept-next : test past ≡ false → AreSetBetween test from (past + 1) old flags
  kept-next fails = record { long = so_far.long; each = λ q h. so_far.each q h ∙ go q (cases_eq q past) }
    where
      go : (q : ℕ) → (q ≡ past) ⊎ (q ≢ past) → (is_set old q || (is_between from past q && test q)) ≡ (is_set old q || (is_between from (past + 1) q && test q))
      go q (inl e) =
          let none : test q ≡ false = ap test e ∙ fails in
          ap (λ b. is_set old q || (is_between from past q && b)) none ∙ ap (λ b. is_set old q || b) (and-false (is_between from past q))
          ∙ sym (ap (λ b. is_set old q || (is_between from (past + 1) q && b)) none ∙ ap (λ b. is_set old q || b) (and-false (is_between from (past + 1) q)))
      go q (inr n) = sym (ap (λ b. is_set old q || (b && test q)) (other-between from past q n))

-- the flags in the end
pub set-all : (test all : ℕ → Bool) (from past : ℕ) (old flags : List Bool) → AreSetBetween test from past old flags → ((q : ℕ) → q < length old → (is_between from past q && test q) ≡ all q)
    → flags ≡ map (λ q. is_set old q || all q) (range_with_len 0 (length old))
set-all test all from past old flags are same =
    fill_by_all (λ q. is_set old q || all q) flags (length old) false are.long (λ q h. are.each q h ∙ ap (λ b. is_set old q || b) (same q h))
