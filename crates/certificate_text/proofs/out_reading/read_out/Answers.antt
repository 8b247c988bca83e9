use Rattle.std.proofs.lemmas.Result.{err_from_is_err_and}
use Rattle.certificate_text.proofs.OutWalks.{fault_of_line}
use Rattle.certificate_text.proofs.out_reading.read_out.Goals as goal

pub returns-in_err-read-clause-bad : goal.returns-in_err-read-clause-bad
returns-in_err-read-clause-bad c =
    let failed = err_from_is_err_and c.from_residual.result c.from_residual.ensures.1 in
    rw (failed.1, failed.2) (fault_of_line c.args.program.now c.args.instant c.args.line.now c.in_err-read.field-0.0 c.if-line-gt-LONGEST_ENTRY_LINE.false c.in_err-read.ensures.bad)
