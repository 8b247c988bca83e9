use Rattle.std.proofs.lemmas.Result.{on_err_weaker}
use Rattle.trace_text.proofs.Written.{Grows-trans}
use Rattle.certificate_text.proofs.entry_text.write_lines.Goals as goal

pub returns-clause-err : goal.returns-clause-err
returns-clause-err c =
    let old = c.args.into.now.items in
    let ended = Grows-trans old c.write_in.new.into.items c.end_line.new.into.items (_, c.in_ok-write_in.ensures.ok) (_, c.in_ok-end_line.ensures.ok) in
    let out = Grows-trans old c.end_line.new.into.items c.write_out.new.into.items ended (_, c.in_ok-write_out.ensures.ok) in
    let again = Grows-trans old c.write_out.new.into.items c.end_line-2.new.into.items out (_, c.in_ok-end_line-2.ensures.ok) in
    let run = Grows-trans old c.end_line-2.new.into.items c.write_run.new.into.items again (_, c.in_ok-write_run.ensures.ok) in
    on_err_weaker c.end_line-3.result (Grows-trans old c.write_run.new.into.items c.end_line-3.new.into.items run) c.end_line-3.ensures.err
