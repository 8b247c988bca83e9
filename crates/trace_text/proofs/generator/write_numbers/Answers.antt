use Rattle.std.proofs.Common.{◌++◌, List, ℕ, ap, ◌∙◌, append_assoc, arith}
use Rattle.std.specs.Prelude.{codes}
use Rattle.trace_text.specs.Generated.{number_name, number_text, numbers_text}
use Rattle.trace_text.proofs.Joins.{row_written, row_closed}
use Rattle.trace_text.proofs.generator.write_numbers.Goals as goal

pub loop-number-preserved : goal.loop-number-preserved
loop-number-preserved c =
    row_written (codes ", ") number_text 0 c.loop-number.number c.loop-number.number (c.args.into.now.items ++ codes "int ") c.loop-number.into.items c.write_separator.new.into.items c.extend_from_slice-in-loop-number.new.self.items
    (omega arith) c.loop-number.invariant c.in_ok-write_separator.ensures
    (c.in_ok-extend_from_slice-2.ensures.items ∙ ap (λ (r : List ℕ). r ++ codes " in 0..99") c.in_ok-write_numbered.ensures ∙ append_assoc c.write_separator.new.into.items (number_name c.loop-number.number) (codes " in 0..99"))

pub returns : goal.returns
unfolding numbers_text
returns c =
    row_closed (codes "int ") (codes ", ") (codes "; ") number_text 0 c.loop-number.number 8 c.args.into.now.items c.loop-number.into.items c.extend_from_slice-2.new.self.items
    (omega arith) c.loop-number.invariant c.in_ok-extend_from_slice-3.ensures.items
