use Rattle.std.proofs.Common.{refl, sym, subst}
use Rattle.token_system.specs.declared.cell.Token.TheVariants.{On}
use Rattle.agent_core.specs.Scope.{ConstraintFits}
use Rattle.agent_core.proofs.AskTests.{next_fits, IsLeft-next, one_fails, all_hold}
use Rattle.agent_core.proofs.resting.entails.Goals as goal

pub loop-cell-init : goal.loop-cell-init
loop-cell-init c = record { same = refl; fits = subst (ConstraintFits c.args.program.now c.args.births.now) (sym c.list-cell-items.ensures.all) c.requires.fits }

pub holds-requires-clause-fits : goal.holds-requires-clause-fits
holds-requires-clause-fits c =
    next_fits c.args.program.now c.args.births.now c.args.store.now c.list-cell-items.result.now c.loop-cell.cell-index c.loop-cell.invariant (0, On) c.loop-cell-test.true

pub returns-then-not-held : goal.returns-then-not-held
returns-then-not-held c =
    one_fails c.args.program.now c.args.births.now c.args.store.now c.list-cell-items.result.now c.loop-cell.cell-index c.loop-cell.invariant (0, On) c.loop-cell-test.true
    c.in_ok-held.held c.in_ok-held.ensures c.if-not-held.true c.args.ask.now c.list-cell-items.ensures.all

pub loop-cell-preserved : goal.loop-cell-preserved
loop-cell-preserved c =
    IsLeft-next c.args.program.now c.args.births.now c.args.store.now c.list-cell-items.result.now c.loop-cell.cell-index c.loop-cell.invariant (0, On) c.loop-cell-test.true
    c.in_ok-held.held c.in_ok-held.ensures c.if-not-held.false

pub returns : goal.returns
returns c =
    all_hold c.args.program.now c.args.births.now c.args.store.now c.list-cell-items.result.now c.loop-cell.cell-index c.loop-cell.invariant c.loop-cell-test.false c.args.ask.now c.list-cell-items.ensures.all
