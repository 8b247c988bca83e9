use Rattle.std.proofs.Common.{◌≡◌, ◌++◌, drop}
use Rattle.std.specs.Prelude.{map}
use Rattle.tdcc_reader.specs.FlatForms.{forms_at, flat_form_view}
use Rattle.tdcc_reader.proofs.flat_form.forms.Given as goal

abbrev pub invariant-loop-at : goal.invariant-loop-at
invariant-loop-at l = l.forms.items ++ forms_at l.at (map flat_form_view (drop l.at l.flat_forms)) ≡ forms_at 0 (map flat_form_view l.flat_forms)
