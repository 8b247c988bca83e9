use Rattle.std.proofs.Common.{arith}
use Rattle.tdcc_tool.proofs.summary.told_in_all.Goals as goal

pub overflow_add-told : goal.overflow_add-told
overflow_add-told c = let few = c.loop-store.invariant.few in let more = c.told_of-told.ensures.bounded in omega arith
