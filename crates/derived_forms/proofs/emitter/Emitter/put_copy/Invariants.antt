use Rattle.std.proofs.Common.{◌≡◌, ◌++◌, ◌≤◌, length, take}
use Rattle.derived_forms.specs.Emitters.{emitted_nodes}
use Rattle.derived_forms.proofs.emitter.Emitter.put_copy.Given as goal

-- what is not yet copied stands in front of the nodes
abbrev pub invariant-loop-left : goal.invariant-loop-left
invariant-loop-left l = record {
  within : l.left ≤ length l.body;
  put : take l.left l.body ++ emitted_nodes l.self ≡ l.body ++ emitted_nodes l.initial.self;
}

abbrev pub decreases-loop-left : goal.decreases-loop-left
decreases-loop-left l = l.left
