use Rattle.std.proofs.Common.{◌≡◌, ◌++◌}
use Rattle.std.specs.Prelude.{codes, map}
use Rattle.std.specs.List.{range_with_len}
use Rattle.trace_text.specs.Generated.{joined_by, number_text}
use Rattle.trace_text.proofs.generator.write_numbers.Given as goal

abbrev pub invariant-loop-number : goal.invariant-loop-number
invariant-loop-number l = l.into.items ≡ (l.fn.into.items ++ codes "int ") ++ joined_by (codes ", ") (map number_text (range_with_len 0 l.number))
