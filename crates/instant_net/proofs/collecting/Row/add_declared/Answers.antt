use Rattle.std.proofs.Common.{arith}
use Rattle.instant_net.proofs.Cells.{declared-named}
use Rattle.instant_net.proofs.collecting.Row.add_declared.Goals as goal

pub add-requires-clause-named : goal.add-requires-clause-named
add-requires-clause-named c =
    declared-named c.args.program.now c.loop-cell.cell (let n = c.declared-cell-end.ensures.number in let lt = c.loop-cell-test.true in omega arith) c.declared-cell-end.ensures.program.limits.within
