use Rattle.std.proofs.Common.{length, drop}
use Rattle.std.specs.List.{slice_split}
use Rattle.certificate_text.specs.LocalNames.{is_dot}
use Rattle.certificate_text.proofs.NameTexts.{ReadUpTo}
use Rattle.certificate_text.proofs.local_name.read_numbers.Given as goal

abbrev pub invariant-loop-part : goal.invariant-loop-part
invariant-loop-part l = ReadUpTo (slice_split is_dot l.text) l.numbers.items (drop (length l.yielded) (slice_split is_dot l.text))
