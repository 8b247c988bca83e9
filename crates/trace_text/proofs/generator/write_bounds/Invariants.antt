use Rattle.std.proofs.Common.{◌≡◌, ◌*◌, ◌++◌}
use Rattle.std.specs.Prelude.{codes}
use Rattle.trace_text.specs.Draws.{draw_after}
use Rattle.trace_text.specs.Generated.{bounds}
use Rattle.trace_text.specs.Writing.{separated}
use Rattle.trace_text.proofs.generator.write_bounds.Given as goal

abbrev pub invariant-loop-number : goal.invariant-loop-number
invariant-loop-number l = record {
  text : l.into.items ≡ l.fn.into.items ++ separated (codes " || ") (bounds l.fn.draws.last l.number);
  draws : l.draws.last ≡ draw_after l.fn.draws.last (2 * l.number);
}
