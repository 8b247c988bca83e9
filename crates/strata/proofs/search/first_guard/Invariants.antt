-- Among the asked cells so far there is none.
use Rattle.std.proofs.Common.{◌≡◌, drop}
use Rattle.strata.specs.Search.{first_that, pairs_with, reaches_back}
use Rattle.strata.proofs.search.first_guard.Given as goal

abbrev pub invariant-loop-pair : goal.invariant-loop-pair
invariant-loop-pair l = first_that (reaches_back l.rows) (pairs_with l.pair-items l.told) ≡ first_that (reaches_back l.rows) (pairs_with (drop l.pair-index l.pair-items) l.told)
