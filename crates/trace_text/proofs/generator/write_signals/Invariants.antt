use Rattle.std.proofs.Common.{◌≡◌, ◌++◌}
use Rattle.std.specs.Prelude.{codes, map}
use Rattle.std.specs.List.{range_with_len}
use Rattle.trace_text.specs.Generated.{joined_by, signal_name}
use Rattle.trace_text.proofs.generator.write_signals.Given as goal

abbrev pub invariant-loop-number : goal.invariant-loop-number
invariant-loop-number l = l.into.items ≡ (l.fn.into.items ++ codes "signal ") ++ joined_by (codes ", ") (map signal_name (range_with_len 0 l.number))
