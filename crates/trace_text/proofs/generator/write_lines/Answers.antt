use Rattle.std.proofs.Common.{◌+◌, ◌-◌, ◌++◌, arith}
use Rattle.trace_text.specs.Generated.{lines_after}
use Rattle.trace_text.proofs.DrawnTexts.{fed, line_written}
use Rattle.trace_text.proofs.generator.write_lines.Goals as goal

pub loop-preserved : goal.loop-preserved
loop-preserved c =
    line_written c.loop.draws.last c.write_line.new.draws.last (c.args.count - c.loop.counter) (c.args.count - (c.loop.counter + 1)) (c.args.into.now.items ++ fed (lines_after c.args.draws.now.last c.args.count)) c.loop.into.items c.write_line.new.into.items
    (omega arith) c.in_ok-write_line.ensures.text c.in_ok-write_line.ensures.draws c.loop.invariant
