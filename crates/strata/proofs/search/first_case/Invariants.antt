-- Below the nodes so far there is none.
use Rattle.std.proofs.Common.{◌≡◌}
use Rattle.agent_core.specs.Strata.{cases}
use Rattle.strata.specs.Search.{first_that, reaches_back, edge_case}
use Rattle.strata.proofs.Searches.{cases_from}
use Rattle.strata.proofs.search.first_case.Given as goal

abbrev pub invariant-loop-n : goal.invariant-loop-n
invariant-loop-n l = first_that (λ e. reaches_back l.rows (edge_case e)) (cases l.program) ≡ first_that (λ e. reaches_back l.rows (edge_case e)) (cases_from l.program l.n)
