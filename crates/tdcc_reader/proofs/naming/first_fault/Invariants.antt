use Rattle.std.proofs.Common.{◌≡◌, drop, None, []}
use Rattle.std.specs.Prelude.{map}
use Rattle.tdcc_reader.specs.declared.naming.Waiting.TheVariants as waiting
use Rattle.tdcc_reader.specs.Passes.{over_steps}
use Rattle.tdcc_reader.specs.NamingPass.{naming_pass, naming_state, names_view}
use Rattle.tdcc_reader.specs.TermViews.{term_view}
use Rattle.tdcc_reader.proofs.naming.first_fault.Given as goal

abbrev pub invariant-loop-step : goal.invariant-loop-step
invariant-loop-step l = over_steps naming_pass (map term_view l.terms) (drop l.step-index l.steps) (names_view l.naming) ≡ over_steps naming_pass (map term_view l.terms) l.steps (naming_state [] waiting.Nothing None)
