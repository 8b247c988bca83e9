use Rattle.std.proofs.Common.{◌++◌, List, ℕ, ap, ◌∙◌}
use Rattle.trace_text.specs.Draws.{draw_after}
use Rattle.trace_text.specs.Generated.{lines_after, trace_lines, trace_text}
use Rattle.trace_text.proofs.DrawnTexts.{fed}
use Rattle.trace_text.proofs.generator.generate.Goals as goal

pub returns-clause-trace : goal.returns-clause-trace
unfolding trace_lines trace_text
returns-clause-trace c =
    c.in_ok-write_lines.ensures
    ∙ ap (λ (bytes : List ℕ). bytes ++ fed (lines_after c.write_program.new.draws.last c.args.n)) c.new-trace.ensures.items
    ∙ ap (λ (start : ℕ). fed (lines_after start c.args.n)) (c.in_ok-write_program.ensures.draws ∙ ap (λ (start : ℕ). draw_after start 109) c.new-draws.ensures)
