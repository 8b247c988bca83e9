use Rattle.std.proofs.Common.{◌++◌}
use Rattle.std.proofs.lemmas.Result.{on_ok_weaker}
use Rattle.trace_text.specs.Generated.{signal_name}
use Rattle.trace_text.proofs.Joins.{behind}
use Rattle.trace_text.proofs.units.write_pair.Goals as goal

pub returns : goal.returns
returns c =
    on_ok_weaker c.write_signal-2.result
    (behind (c.args.before.now ++ signal_name c.args.guard) c.args.between.now (signal_name c.args.told) c.args.into.now.items c.write_signal.new.into.items c.write_signal-2.new.into.items c.in_ok-write_signal.ensures)
    c.write_signal-2.ensures
