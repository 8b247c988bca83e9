use Rattle.std.proofs.Common.{◌≡◌, drop}
use Rattle.std.specs.Prelude.{map}
use Rattle.tdcc_reader.specs.Passes.{over_steps}
use Rattle.tdcc_reader.specs.BuildPass.{build_pass, built_view, nothing_built}
use Rattle.tdcc_reader.specs.TermViews.{term_view}
use Rattle.tdcc_reader.proofs.build.build_steps.Given as goal

abbrev pub invariant-loop-step : goal.invariant-loop-step
invariant-loop-step l = over_steps build_pass (map term_view l.terms) (drop l.step-index l.steps) (built_view l.builder) ≡ over_steps build_pass (map term_view l.terms) l.steps nothing_built
