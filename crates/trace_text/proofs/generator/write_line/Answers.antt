use Rattle.std.proofs.Common.{◌≡◌, ◌+◌, ◌++◌, ℕ, ap, ◌∙◌, arith}
use Rattle.std.specs.Prelude.{codes}
use Rattle.trace_text.specs.Draws.{drawn}
use Rattle.trace_text.specs.Generated.{signal_name}
use Rattle.trace_text.proofs.Joins.{row_written}
use Rattle.trace_text.proofs.DrawnTexts.{after_more, drawn_more, line_closed}
use Rattle.trace_text.proofs.generator.write_line.Goals as goal

pub loop-place-preserved : goal.loop-place-preserved
loop-place-preserved c =
    let x : ℕ = c.args.draws.now.last in
    let place : ℕ = c.loop-place.place in
    let signal : c.draw-signal.result ≡ drawn x (1 + place) 32 = c.draw-signal.ensures.drawn ∙ drawn_more x c.loop-place.draws.last (1 + place) 32 c.loop-place.invariant.draws in
    record {
      text = row_written (codes " ") (λ k. signal_name (drawn x k 32)) 1 place (1 + place) c.args.into.now.items c.loop-place.into.items c.write_separator.new.into.items c.write_signal.new.into.items
          (omega arith) c.loop-place.invariant.text c.in_ok-write_separator.ensures (c.in_ok-write_signal.ensures ∙ ap (λ (k : ℕ). c.write_separator.new.into.items ++ signal_name k) signal);
      draws = after_more x c.loop-place.draws.last c.draw-signal.new.self.last (1 + place) 1 (1 + (place + 1)) c.loop-place.invariant.draws c.draw-signal.ensures.after (omega arith);
    }

pub returns-clause-text : goal.returns-clause-text
returns-clause-text c =
    let all : c.loop-place.place ≡ c.draw-count.result = omega arith in
    line_closed c.args.draws.now.last c.loop-place.place c.args.into.now.items c.loop-place.into.items c.push.new.self.items (all ∙ c.draw-count.ensures.drawn) c.loop-place.invariant.text c.in_ok-push.ensures.items
