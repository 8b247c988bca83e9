use Rattle.std.proofs.Common.{◌≡◌, ◌++◌, ◌∷◌, take}
use Rattle.std.specs.Prelude.{decimal, flat_map}
use Rattle.certificate_text.proofs.local_name.write_name.Given as goal

abbrev pub invariant-loop-birth : goal.invariant-loop-birth
invariant-loop-birth l = l.into.items ≡ (l.fn.into.items ++ 64 ∷ decimal l.node) ++ flat_map (λ birth. 46 ∷ decimal birth) (take l.birth-index l.births)
