use Rattle.std.proofs.Common.{◌≡◌, ◌++◌, drop, length}
use Rattle.strata.specs.Items.{program_bounds, bounds_from}
use Rattle.strata.proofs.bounds.bounds_of.Given as goal

abbrev pub invariant-loop-node : goal.invariant-loop-node
invariant-loop-node l = record { counted : l.n ≡ l.node-index; so_far : l.list.items ++ bounds_from (length l.program.cells) l.node-index (drop l.node-index l.program.nodes) ≡ program_bounds l.program }
