use Rattle.std.proofs.Common.{◌≡◌, ◌≤◌, drop, None}
use Rattle.std.specs.Prelude.{map}
use Rattle.tdcc_reader.specs.Passes.{over_steps}
use Rattle.tdcc_reader.specs.LimitPass.{limit_pass, limits}
use Rattle.tdcc_reader.specs.TermViews.{term_view}
use Rattle.tdcc_reader.proofs.limits.first_limit.Given as goal

abbrev pub invariant-loop-step : goal.invariant-loop-step
invariant-loop-step l =
    (over_steps (limit_pass l.dialect) (map term_view l.terms) (drop l.step-index l.steps) l.limits ≡ over_steps (limit_pass l.dialect) (map term_view l.terms) l.steps (limits 0 0 None))
    × (l.limits.depth ≤ l.step-index)
    × (l.limits.tokens ≤ l.step-index)
