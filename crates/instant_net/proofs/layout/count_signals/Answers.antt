use Rattle.std.proofs.Common.{arith}
use Rattle.instant_net.proofs.layout.count_signals.Goals as goal
use Rattle.instant_net.proofs.layout.count_signals.Goals.{in-Signal, in-Number}

pub overflow_add-count : goal.overflow_add-count
overflow_add-count c =
    let few = c.loop-cell.invariant.few in
    let room = c.requires in
    let within = c.loop-cell-test.true in
    elim c.match-cell.branch [ in-Signal w ↦ let is = w.count-is in omega arith | in-Number w ↦ let is = w.count-is in omega arith ]
