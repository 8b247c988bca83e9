use Rattle.std.proofs.Common.{length, drop}
use Rattle.std.specs.List.{slice_split}
use Rattle.trace_text.specs.Fields.{fields, is_blank}
use Rattle.certificate_text.specs.InLines.{IsReadUpTo}
use Rattle.certificate_text.proofs.PartWalks.{PartsLeft}
use Rattle.certificate_text.proofs.in_line.read_fields.Given as goal

abbrev pub invariant-loop-part : goal.invariant-loop-part
invariant-loop-part l = PartsLeft l.line (IsReadUpTo l.program (fields l.line) l.read.worded l.read.input) (drop (length l.yielded) (slice_split is_blank l.line)) l.offset
