use Rattle.settle.proofs.LeafPasses.{IsPass}
use Rattle.settle.proofs.passes.tell_due.Given as goal

abbrev pub invariant-loop-leaf : goal.invariant-loop-leaf
invariant-loop-leaf l = IsPass l.net l.stratum l.fn.words l.words l.leaf l.told
