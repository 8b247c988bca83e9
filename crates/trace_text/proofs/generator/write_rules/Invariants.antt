use Rattle.std.proofs.Common.{◌≡◌, ◌-◌, ◌*◌, ◌++◌}
use Rattle.std.specs.Prelude.{codes}
use Rattle.trace_text.specs.Draws.{draw_after}
use Rattle.trace_text.specs.Generated.{joined_by, rules}
use Rattle.trace_text.proofs.generator.write_rules.Given as goal

abbrev pub invariant-loop-told : goal.invariant-loop-told
invariant-loop-told l = record {
  text : l.into.items ≡ l.fn.into.items ++ joined_by (codes " || ") (rules l.fn.draws.last (l.told - 1));
  draws : l.draws.last ≡ draw_after l.fn.draws.last (3 * (l.told - 1));
}
