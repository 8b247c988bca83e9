use Rattle.std.proofs.Common.{refl, sym, subst}
use Rattle.token_system.specs.declared.cell.Token.TheVariants.{On}
use Rattle.agent_core.specs.Scope.{ConstraintFits}
use Rattle.denotation_laws.proofs.Tellings.{token_fits, token-told, all-told}
use Rattle.denotation_laws.proofs.asks.tell_all.Goals as goal

pub loop-cell-init : goal.loop-cell-init
loop-cell-init c = record {
  same = refl;
  fits = subst (ConstraintFits c.args.program.now c.args.births.now) (sym c.list-cell-items.ensures.all) c.requires.fits;
  store = c.requires.store;
}

pub tell-requires-clause-store : goal.tell-requires-clause-store
tell-requires-clause-store c = c.loop-cell.invariant.store

pub tell-requires-clause-fits : goal.tell-requires-clause-fits
tell-requires-clause-fits c =
    token_fits c.args.program.now c.args.births.now c.list-cell-items.result.now c.args.store.now c.loop-cell.cell-index c.loop-cell.store c.loop-cell.invariant (0, On) c.loop-cell-test.true

pub loop-cell-preserved : goal.loop-cell-preserved
loop-cell-preserved c =
    token-told c.args.program.now c.args.births.now c.list-cell-items.result.now c.args.store.now c.loop-cell.cell-index c.loop-cell.store c.loop-cell.invariant (0, On) c.loop-cell-test.true
    _ c.in_ok-tell.ensures

pub returns : goal.returns
returns c =
    all-told c.args.program.now c.args.births.now c.list-cell-items.result.now c.args.store.now c.loop-cell.cell-index c.loop-cell.store c.loop-cell.invariant c.loop-cell-test.false c.args.ask.now c.list-cell-items.ensures.all
