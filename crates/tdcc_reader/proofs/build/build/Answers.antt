use Rattle.std.proofs.Common.{◌∙◌}
use Rattle.std.specs.Prelude.{map}
use Rattle.tdcc_reader.specs.TermViews.{term_view}
use Rattle.tdcc_reader.specs.BuildPass.{build_pass, built_view, nothing_built}
use Rattle.tdcc_reader.specs.Builds.{IsBuilt}
use Rattle.tdcc_reader.proofs.Options.{ok_to}
use Rattle.tdcc_reader.proofs.Passes.{over_program}
use Rattle.tdcc_reader.proofs.BuiltTrees.{is_built}
use Rattle.tdcc_reader.proofs.build.build.Goals as goal

pub returns : goal.returns
returns c = λ language p spells steps few. ok_to c.build_steps.result _ (λ b. IsBuilt p (built_view b)) c.build_steps.ensures
    (λ b e. is_built p (built_view b) few (e ∙ over_program build_pass nothing_built c.places_law.ensures.events language p (map term_view c.args.terms.now) c.args.steps.now spells steps))
