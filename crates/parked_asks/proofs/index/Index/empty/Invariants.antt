use Rattle.std.proofs.Common.{◌≡◌, [], map, replicate}
use Rattle.parked_asks.proofs.index.Index.empty.Given as goal

abbrev pub invariant-loop-key : goal.invariant-loop-key
invariant-loop-key l = map (λ x. x.items) l.lists.items ≡ replicate l._key []
