-- The next told cell.
use Rattle.std.proofs.Common.{map, sym, ap, ◌∙◌}
use Rattle.agent_core.specs.Agents.{Constraint}
use Rattle.strata.specs.Search.{first_that, pairs, reaches_back}
use Rattle.strata.proofs.Searches.{told-hit, told-miss}
use Rattle.strata.proofs.search.first_told.Goals as goal

pub returns-in-Some : goal.returns-in-Some
returns-in-Some c =
    let hit = told-hit (reaches_back c.args.rows.now) c.list-pair-items.result.now c.loop-pair.pair-index _ c.loop-pair-test.true c.args.ask.now c.in-Some.case (sym c.in-Some.is ∙ c.first_guard.ensures) in
    sym hit ∙ sym c.loop-pair.invariant ∙ ap (λ (xs : Constraint). first_that (reaches_back c.args.rows.now) (pairs c.args.ask.now (map (λ x. x.0) xs))) c.list-pair-items.ensures.all

pub loop-pair-preserved : goal.loop-pair-preserved
loop-pair-preserved c =
    c.loop-pair.invariant ∙ told-miss (reaches_back c.args.rows.now) c.list-pair-items.result.now c.loop-pair.pair-index _ c.loop-pair-test.true c.args.ask.now (sym c.in_default.is ∙ c.first_guard.ensures)
