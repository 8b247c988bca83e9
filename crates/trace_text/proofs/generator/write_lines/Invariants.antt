use Rattle.std.proofs.Common.{◌-◌, ◌++◌}
use Rattle.trace_text.specs.Generated.{lines_after}
use Rattle.trace_text.proofs.DrawnTexts.{LinesLeft, fed}
use Rattle.trace_text.proofs.generator.write_lines.Given as goal

abbrev pub invariant-loop : goal.invariant-loop
invariant-loop l = LinesLeft l.draws.last (l.count - l.counter) (l.fn.into.items ++ fed (lines_after l.fn.draws.last l.count)) l.into.items
