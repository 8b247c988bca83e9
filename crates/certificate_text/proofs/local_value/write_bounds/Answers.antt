use Rattle.std.proofs.lemmas.Int.{to_z-of_z}
use Rattle.std.proofs.lemmas.Result.{on_ok_weaker, on_err_weaker}
use mir.Syntax.{w64}
use Rattle.trace_text.proofs.CellWidths.{cell_widths}
use Rattle.trace_text.proofs.Written.{Grows-trans}
use Rattle.certificate_text.proofs.OutTexts.{two_bounds}
use Rattle.certificate_text.proofs.local_value.write_bounds.Goals as goal

pub returns-clause-ok : goal.returns-clause-ok
returns-clause-ok c =
    let lo = to_z-of_z w64 c.args.lo c.ranges.lo in
    let hi = to_z-of_z w64 c.args.hi c.ranges.hi in
    let ends = cell_widths c.args.cell in
    on_ok_weaker c.write_if-2.result
    (two_bounds c.args.name.now c.args.cell.lo c.args.cell.hi c.args.lo c.args.hi c.args.into.now.items c.write_if.new.into.items c.write_if-2.new.into.items (λ e. c.if-lo-hi.false (cc))
    (rw (lo, ends.0) at c.in_ok-write_if.ensures.ok))
    (rw (hi, ends.1) at c.write_if-2.ensures.ok)

pub returns-clause-err : goal.returns-clause-err
returns-clause-err c = on_err_weaker c.write_if-2.result (Grows-trans c.args.into.now.items c.write_if.new.into.items c.write_if-2.new.into.items (_, c.in_ok-write_if.ensures.ok)) c.write_if-2.ensures.err
