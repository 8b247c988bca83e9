use Rattle.std.proofs.Common.{◌≡◌, ◌++◌, ◌∷◌, take}
use Rattle.std.specs.Prelude.{codes, decimal, flat_map}
use Rattle.certificate_text.proofs.run_line.write_run.Given as goal

abbrev pub invariant-loop-number : goal.invariant-loop-number
invariant-loop-number l = l.into.items ≡ (l.fn.into.items ++ codes "run") ++ flat_map (λ n. 32 ∷ decimal n) (take l.number-index l.numbers)
