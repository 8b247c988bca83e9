use Rattle.std.proofs.Common.{ap, ◌∙◌, None}
use Rattle.std.specs.Prelude.{map}
use Rattle.tdcc_reader.specs.TermViews.{term_view}
use Rattle.tdcc_reader.specs.LimitPass.{limits, limit_pass}
use Rattle.tdcc_reader.proofs.Passes.{over_program}
use Rattle.tdcc_reader.proofs.Limited.{program_limited}
use Rattle.tdcc_reader.proofs.limits.past_limit.Goals as goal

pub returns : goal.returns
returns c = λ language p spells steps. c.first_limit.ensures ∙ ap (λ s. s.found) (over_program (limit_pass c.args.dialect) (limits 0 0 None) c.places_law.ensures.events language p (map term_view c.args.terms.now) c.args.steps.now spells steps) ∙ program_limited c.args.dialect p
