use Rattle.std.proofs.Common.{sym, subst}
use Rattle.token_system.specs.declared.cell.Token.TheVariants.{On}
use Rattle.instant_net.specs.Collecting.{cell_names}
use Rattle.instant_net.specs.Covering.{AskCovered}
use Rattle.instant_net.proofs.Atoms.{next-fits, atoms-next}
use Rattle.instant_net.proofs.walking.Walk.atoms.Goals as goal

pub atom-requires-clause-fits : goal.atom-requires-clause-fits
atom-requires-clause-fits c = (next-fits c.args.self.now.program.now c.args.births.now c.list-cell-items.result.now c.loop-cell.cell-index (0, On) c.loop-cell-test.true c.loop-cell.invariant.fits).0

pub atom-requires-clause-covered : goal.atom-requires-clause-covered
atom-requires-clause-covered c =
    let all : AskCovered c.args.self.now.program.now c.args.births.now (cell_names c.args.self.now.cells.now) c.list-cell-items.result.now = subst (AskCovered c.args.self.now.program.now c.args.births.now (cell_names c.args.self.now.cells.now)) (sym c.list-cell-items.ensures.all) c.requires.covered in
    all c.loop-cell.cell-index (0, On) c.loop-cell-test.true

pub loop-cell-preserved : goal.loop-cell-preserved
loop-cell-preserved c = record {
  so_far =
      atoms-next c.args.self.now.program.now c.args.self.now.cells.now c.args.births.now c.list-cell-items.result.now c.loop-cell.cell-index (0, On) c.loop-cell.list.items c.push.new.self.items c.atom.result
      c.loop-cell-test.true c.loop-cell.invariant.so_far c.atom.ensures c.in_ok-push.ensures.ok;
  fits = (next-fits c.args.self.now.program.now c.args.births.now c.list-cell-items.result.now c.loop-cell.cell-index (0, On) c.loop-cell-test.true c.loop-cell.invariant.fits).1;
}
