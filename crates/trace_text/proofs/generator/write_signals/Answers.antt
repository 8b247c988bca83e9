use Rattle.std.proofs.Common.{◌++◌, arith}
use Rattle.std.specs.Prelude.{codes}
use Rattle.trace_text.specs.Generated.{signal_name, signals_text}
use Rattle.trace_text.proofs.Joins.{row_written, row_closed}
use Rattle.trace_text.proofs.generator.write_signals.Goals as goal

pub loop-number-preserved : goal.loop-number-preserved
loop-number-preserved c =
    row_written (codes ", ") signal_name 0 c.loop-number.number c.loop-number.number (c.args.into.now.items ++ codes "signal ") c.loop-number.into.items c.write_separator.new.into.items c.write_signal.new.into.items
    (omega arith) c.loop-number.invariant c.in_ok-write_separator.ensures c.in_ok-write_signal.ensures

pub returns : goal.returns
unfolding signals_text
returns c =
    row_closed (codes "signal ") (codes ", ") (codes "; ") signal_name 0 c.loop-number.number 32 c.args.into.now.items c.loop-number.into.items c.extend_from_slice-2.new.self.items
    (omega arith) c.loop-number.invariant c.in_ok-extend_from_slice-2.ensures.items
