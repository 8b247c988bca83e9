-- Equal answers.
use Rattle.std.proofs.Common.{◌≡◌, ◌∙◌, Result, Ok, Err, IfOk}
use Rattle.std.specs.Prelude.{IfErr, IsErrAnd, MatchResult}

-- an answer that equals one value equals another that the first one equals
pub ok_along : {A E : Type 0} (r : Result A E) (x y : A) → IfOk r (λ v. v ≡ x) → x ≡ y → IfOk r (λ v. v ≡ y)
ok_along (Ok v) x y h e = h ∙ e
ok_along (Err f) x y h e = h

-- what holds of each value of which another fact holds
pub ok_to : {A E : Type 0} (r : Result A E) (P Q : A → Type 0) → IfOk r P → ((v : A) → P v → Q v) → IfOk r Q
ok_to (Ok v) P Q h f = f v h
ok_to (Err e) P Q h f = h

-- a value or out of memory
pub ok_or : {A E : Type 0} (r : Result A E) (P Q : A → Type 0) (R S : E → Type 0) → IfOk r P → IfErr r R → ((v : A) → P v → Q v) → ((e : E) → R e → S e) → MatchResult r Q S
ok_or (Ok v) P Q R S h k f g = f v h
ok_or (Err e) P Q R S h k f g = g e k

-- what holds of each error of which another fact holds
pub err_to : {A E : Type 0} (r : Result A E) (P : A → Type 0) (R S : E → Type 0) → IsErrAnd r R → ((e : E) → R e → S e) → MatchResult r P S
err_to (Ok v) P R S h f = absurd h
err_to (Err e) P R S h f = f e h
