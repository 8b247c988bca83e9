use Rattle.std.proofs.Common.{◌≡◌, ◌+◌, ◌++◌}
use Rattle.std.specs.Prelude.{codes, map}
use Rattle.std.specs.List.{range_with_len}
use Rattle.trace_text.specs.Draws.{draw_after, drawn}
use Rattle.trace_text.specs.Generated.{joined_by, signal_name}
use Rattle.trace_text.proofs.generator.write_line.Given as goal

abbrev pub invariant-loop-place : goal.invariant-loop-place
invariant-loop-place l = record {
  text : l.into.items ≡ l.fn.into.items ++ joined_by (codes " ") (map (λ k. signal_name (drawn l.fn.draws.last k 32)) (range_with_len 1 l.place));
  draws : l.draws.last ≡ draw_after l.fn.draws.last (1 + l.place);
}
