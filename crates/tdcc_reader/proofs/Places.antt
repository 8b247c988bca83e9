-- The first place at which a test passes.
use Rattle.std.proofs.Common.{◌≡◌, ℕ, zero, suc, ◌+◌, ◌<◌, ◌≤◌, List, [], ◌∷◌, length, drop, get_or, refl, ap, sym, ◌∙◌, arith, Some, None, Bool, true}
use Rattle.std.specs.Prelude.{cond, position}
use Rattle.std.specs.List.{position_from}
use Rattle.std.proofs.lemmas.Iterator.Adapters.{position_from-zero}

position_from-here : {X : Type 0} (t : X → Bool) (xs : List X) (i n : ℕ) (d : X) → i < length xs → t (get_or xs i d) ≡ true → position_from t n (drop i xs) ≡ Some n
position_from-here t [] i n d h e = absurd (omega arith)
position_from-here t (x ∷ xs) zero n d h e = ap (λ b. cond b (Some n) (position_from t (n + 1) xs)) e
position_from-here t (x ∷ xs) (suc i) n d h e = position_from-here t xs i n d (omega arith) e

-- The test passes here, and at no place before.
pub first_here : {X : Type 0} (t : X → Bool) (xs : List X) (i : ℕ) (d : X) → i < length xs → t (get_or xs i d) ≡ true → position_from t i (drop i xs) ≡ position_from t 0 xs → position t xs ≡ Some i
first_here t xs i d h e before = position_from-zero t xs ∙ sym before ∙ position_from-here t xs i i d h e

drop_past : {X : Type 0} (xs : List X) (i : ℕ) → length xs ≤ i → drop i xs ≡ []
drop_past [] zero h = refl
drop_past [] (suc i) h = refl
drop_past (x ∷ xs) zero h = absurd (omega arith)
drop_past (x ∷ xs) (suc i) h = drop_past xs i (omega arith)

-- The test passes at no place.
pub nowhere : {X : Type 0} (t : X → Bool) (xs : List X) (i : ℕ) → length xs ≤ i → position_from t i (drop i xs) ≡ position_from t 0 xs → position t xs ≡ None
nowhere t xs i h before = position_from-zero t xs ∙ sym before ∙ ap (position_from t i) (drop_past xs i h)
