use Rattle.std.proofs.Common.{◌≡◌, ◌++◌, take}
use Rattle.residuals.proofs.closures.add_copies.Given as goal

abbrev pub invariant-loop-closure : goal.invariant-loop-closure
invariant-loop-closure l = l.list.items ≡ l.initial.list.items ++ take l.closure-index l.closures
