-- Tests of which both hold.
use Rattle.std.proofs.Common.{◌≡◌, refl, ap, ◌∙◌, Bool, true, false}
use Rattle.std.specs.Prelude.{◌&&◌}

pub and_left : (a b : Bool) → (a && b) ≡ true → a ≡ true
and_left true b e = refl
and_left false b e = cc

pub and_right : (a b : Bool) → (a && b) ≡ true → b ≡ true
and_right true b e = e
and_right false b e = cc

pub both_true : (a b : Bool) → a ≡ true → b ≡ true → (a && b) ≡ true
both_true a b e f = ap (λ t. t && b) e ∙ f
