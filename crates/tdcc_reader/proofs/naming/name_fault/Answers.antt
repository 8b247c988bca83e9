use Rattle.std.proofs.Common.{ap, ◌∙◌, None, []}
use Rattle.std.specs.Prelude.{map}
use Rattle.tdcc_reader.specs.declared.naming.Waiting.TheVariants as waiting
use Rattle.tdcc_reader.specs.TermViews.{term_view}
use Rattle.tdcc_reader.specs.NamingPass.{naming_state, naming_pass}
use Rattle.tdcc_reader.proofs.Options.{ok_along}
use Rattle.tdcc_reader.proofs.Passes.{over_program}
use Rattle.tdcc_reader.proofs.Scoped.{program_scoped}
use Rattle.tdcc_reader.proofs.naming.name_fault.Goals as goal

pub returns : goal.returns
returns c = λ language p spells steps. ok_along c.first_fault.result _ _ c.first_fault.ensures
    (ap (λ s. s.found) (over_program naming_pass (naming_state [] waiting.Nothing None) c.places_law.ensures.events language p (map term_view c.args.terms.now) c.args.steps.now spells steps) ∙ program_scoped p)
