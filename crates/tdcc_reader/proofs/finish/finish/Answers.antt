use Rattle.std.proofs.Common.{refl, ap, sym, ◌∙◌, subst}
use Rattle.std.specs.Prelude.{All, map}
use Rattle.tdcc_reader.specs.FlatForms.{IsWholeFlatForm, flat_form_view, forms_at}
use Rattle.tdcc_reader.specs.BuildPass.{built_view}
use Rattle.tdcc_reader.proofs.Finished.{ready_whole, ready_surface}
use Rattle.tdcc_reader.proofs.finish.finish.Goals as goal

pub forms-requires : goal.forms-requires
forms-requires c = let (dialect, text, p, r) = c.requires in subst (All IsWholeFlatForm) (sym c.deref.ensures.value) (ready_whole dialect text p (built_view c.args.built) c.in_ok-flat_forms.flat_forms.items r c.in_ok-flat_forms.ensures)

pub returns-clause-found : goal.returns-clause-found
returns-clause-found c = λ dialect text p r. ready_surface dialect text p (built_view c.args.built) c.args.built.cells.items c.in_ok-forms.forms.items r refl (c.in_ok-forms.ensures ∙ ap (λ l. forms_at 0 (map flat_form_view l)) c.deref.ensures.value ∙ ap (forms_at 0) c.in_ok-flat_forms.ensures)
