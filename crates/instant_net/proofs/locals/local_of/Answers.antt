use Rattle.instant_net.proofs.LocalCells.{found_local}
use Rattle.instant_net.proofs.locals.local_of.Goals as goal

pub bounds-locals-cell : goal.bounds-locals-cell
bounds-locals-cell c = (found_local c.args.program.now c.args.locals.now c.args.cell c.declared.result c.declared.ensures.number c.requires.locals c.requires.local c.requires.cell).inside

pub returns : goal.returns
returns c = (found_local c.args.program.now c.args.locals.now c.args.cell c.declared.result c.declared.ensures.number c.requires.locals c.requires.local c.requires.cell).read _
