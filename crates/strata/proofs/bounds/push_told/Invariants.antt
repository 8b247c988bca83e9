use Rattle.std.proofs.Common.{◌≡◌, ◌++◌, map, take, false}
use Rattle.strata.specs.Items.{bound}
use Rattle.strata.proofs.bounds.push_told.Given as goal

abbrev pub invariant-loop-pair : goal.invariant-loop-pair
invariant-loop-pair l = l.list.items ≡ l.fn.list.items ++ map (λ x. bound l.from x.0 false) (take l.pair-index l.pair-items)
