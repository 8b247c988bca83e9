use Rattle.std.proofs.Common.{◌≡◌, ◌++◌, map, take}
use Rattle.strata.specs.Items.{bound}
use Rattle.strata.proofs.bounds.push_asks.Given as goal

abbrev pub invariant-loop-pair : goal.invariant-loop-pair
invariant-loop-pair l = l.list.items ≡ l.fn.list.items ++ map (λ x. bound x.0 l.to l.negative) (take l.pair-index l.pair-items)
