-- Among the told cells so far there is none.
use Rattle.std.proofs.Common.{◌≡◌, drop, map}
use Rattle.strata.specs.Search.{first_that, pairs, reaches_back}
use Rattle.strata.proofs.search.first_told.Given as goal

abbrev pub invariant-loop-pair : goal.invariant-loop-pair
invariant-loop-pair l =
    first_that (reaches_back l.rows) (pairs l.ask (map (λ x. x.0) l.pair-items)) ≡ first_that (reaches_back l.rows) (pairs l.ask (map (λ x. x.0) (drop l.pair-index l.pair-items)))
