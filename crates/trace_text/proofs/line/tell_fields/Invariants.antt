use Rattle.std.proofs.Common.{length, drop}
use Rattle.std.specs.List.{slice_split}
use Rattle.trace_text.specs.Fields.{is_blank}
use Rattle.trace_text.proofs.LineWalks.{ReadSoFar}
use Rattle.trace_text.proofs.line.tell_fields.Given as goal

abbrev pub invariant-loop-part : goal.invariant-loop-part
invariant-loop-part l = ReadSoFar l.program l.line (drop (length l.yielded) (slice_split is_blank l.line)) l.offset l.store
