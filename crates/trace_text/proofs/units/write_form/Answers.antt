use Rattle.std.proofs.Common.{◌++◌, sym, ap, ◌∙◌}
use Rattle.std.specs.Prelude.{codes}
use Rattle.std.proofs.lemmas.Result.{on_ok_weaker}
use Rattle.trace_text.specs.Generated.{signal_name, form_text}
use Rattle.trace_text.proofs.Joins.{behind}
use Rattle.trace_text.proofs.units.write_form.Goals as goal

pub returns-in_ok-write_pair-in-Watch : goal.returns-in_ok-write_pair-in-Watch
returns-in_ok-write_pair-in-Watch c =
    on_ok_weaker c.write_signal.result
    (λ e. behind (codes "do always if " ++ signal_name c.args.guard ++ codes " else " ++ signal_name c.args.told) (codes " watching ") (signal_name c.args.stop) c.args.into.now.items c.write_pair-in-Watch.new.into.items c.write_signal.new.into.items c.in_ok-write_pair-in-Watch.ensures e
    ∙ ap (λ form. c.args.into.now.items ++ form_text form c.args.guard c.args.told c.args.stop) (sym c.in-Watch.is))
    c.write_signal.ensures
