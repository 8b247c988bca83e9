-- Counting and joining over the numbers from 0 on.
use Rattle.std.proofs.Common.{◌≡◌, ℕ, zero, suc, ◌+◌, ◌≤◌, Bool, true, false, cond, List, [], ◌∷◌, ◌++◌, length, length-append, append_assoc, refl, sym, ap, subst, ◌∙◌, arith}
use Rattle.std.specs.Prelude.{filter, flat_map}
use Rattle.std.specs.List.{range_with_len}
use Rattle.std.proofs.lemmas.List.{map-id, append-nil}
use Rattle.std.proofs.lemmas.List.Elements.{filter-append}
use Rattle.std.proofs.lemmas.List.FromFn.{map-range_with_len_more}
use Rattle.std.proofs.lemmas.Grind.{flat_map-append}

-- the numbers below one more
range-more : (n : ℕ) → range_with_len 0 (n + 1) ≡ range_with_len 0 n ++ n ∷ []
range-more n = sym (map-id (range_with_len 0 (n + 1))) ∙ map-range_with_len_more (λ k. k) 0 n n (omega arith) ∙ ap (λ (ks : List ℕ). ks ++ n ∷ []) (map-id (range_with_len 0 n))

one_filtered : (test : ℕ → Bool) (n : ℕ) (b : Bool) → test n ≡ b → length (filter test (n ∷ [])) ≡ cond b 1 0
one_filtered test n true e = cc
one_filtered test n false e = cc

-- how many of them pass a test
pub filtered-more : (test : ℕ → Bool) (n : ℕ) → length (filter test (range_with_len 0 (n + 1))) ≡ length (filter test (range_with_len 0 n)) + cond (test n) 1 0
filtered-more test n =
    ap (λ (ks : List ℕ). length (filter test ks)) (range-more n) ∙ ap length (filter-append test (range_with_len 0 n) (n ∷ []))
    ∙ length-append (filter test (range_with_len 0 n)) (filter test (n ∷ [])) ∙ ap (λ (k : ℕ). length (filter test (range_with_len 0 n)) + k) (one_filtered test n (test n) refl)

at_most_one : (b : Bool) → cond b 1 0 ≤ 1
at_most_one true = omega arith
at_most_one false = omega arith

-- which are no more than all
pub filtered-few : (test : ℕ → Bool) (n : ℕ) → length (filter test (range_with_len 0 n)) ≤ n
filtered-few test zero = omega arith
filtered-few test (suc n) =
    let one = at_most_one (test n) in
    let few = filtered-few test n in
    let more = filtered-more test n in
    let all : length (filter test (range_with_len 0 (n + 1))) ≤ suc n = omega arith in
    subst (λ (k : ℕ). length (filter test (range_with_len 0 k)) ≤ suc n) (let h : n + 1 ≡ suc n = omega arith in h) all

-- what is made of all of them
pub joined-more : (f : ℕ → List ℕ) (n : ℕ) → flat_map f (range_with_len 0 (n + 1)) ≡ flat_map f (range_with_len 0 n) ++ f n
joined-more f n = ap (flat_map f) (range-more n) ∙ flat_map-append f (range_with_len 0 n) (n ∷ []) ∙ ap (λ (text : List ℕ). flat_map f (range_with_len 0 n) ++ text) (append-nil (f n))

-- four texts behind another are one text behind it
pub behind : (a b c d e : List ℕ) → a ++ b ++ c ++ d ++ e ≡ a ++ (b ++ c ++ d ++ e)
behind a b c d e = simp append_assoc refl
