use Rattle.certificate_text.proofs.OutTexts.{LocalsWritten}
use Rattle.certificate_text.proofs.out_line.write_locals.Given as goal

abbrev pub invariant-loop-place : goal.invariant-loop-place
invariant-loop-place l = LocalsWritten l.program l.store l.place l.fn.into.items l.into.items
