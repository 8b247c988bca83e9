-- The first of several faults.
use Rattle.std.proofs.Common.{◌≡◌, refl, Option, None, Some}
use Rattle.tdcc_reader.specs.LimitFaults.{first}

pub first_assoc : {A : Type 0} (f g h : Option A) → first (first f g) h ≡ first f (first g h)
first_assoc None g h = refl
first_assoc (Some a) g h = refl

pub first_none : {A : Type 0} (f : Option A) → first f None ≡ f
first_none None = refl
first_none (Some a) = refl
