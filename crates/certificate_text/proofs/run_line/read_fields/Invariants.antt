use Rattle.std.proofs.Common.{length, drop}
use Rattle.std.specs.List.{slice_split}
use Rattle.trace_text.specs.Fields.{is_blank}
use Rattle.certificate_text.proofs.PartWalks.{PartsLeft}
use Rattle.certificate_text.proofs.RunTexts.{NumbersRead}
use Rattle.certificate_text.proofs.run_line.read_fields.Given as goal

abbrev pub invariant-loop-part : goal.invariant-loop-part
invariant-loop-part l = PartsLeft l.line (NumbersRead l.line l.run.worded l.run.numbers.items) (drop (length l.yielded) (slice_split is_blank l.line)) l.offset
