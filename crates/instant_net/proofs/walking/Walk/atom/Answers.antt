use Rattle.std.proofs.Common.{◌<◌, ◌≤◌, sym, subst, arith}
use Rattle.std.specs.Prelude.{Contains}
use Rattle.std.proofs.lemmas.List.{length-take-le}
use Rattle.token_system.specs.declared.name.CellName.TheVariants.{Declared}
use Rattle.instant_net.specs.Collecting.{cell_names}
use Rattle.instant_net.proofs.Atoms.{atom-at}
use Rattle.instant_net.proofs.LocalCells.{declared_name, fitting_cell, its_name}
use Rattle.instant_net.proofs.walking.Walk.atom.Goals as goal

pub returns-then-cell-declared : goal.returns-then-cell-declared
returns-then-cell-declared c =
    let few : c.args.cell < c.args.self.now.program.now.declared = let n = c.declared.ensures.number in let lt = c.if-cell-declared.true in omega arith in
    atom-at c.args.self.now.program.now c.args.self.now.cells.now c.args.births.now c.requires.named.each (c.args.cell, c.args.token) c.requires.fits (Declared c.args.cell)
    (declared_name c.args.self.now.program.now c.args.births.now c.args.cell few) c.args.cell (c.requires.named.declared c.args.cell few)

pub local_of-local-requires-clause-cell : goal.local_of-local-requires-clause-cell
local_of-local-requires-clause-cell c = fitting_cell c.args.self.now.program.now c.args.births.now (c.args.cell, c.args.token) c.requires.fits

pub slice_bounds-own-end : goal.slice_bounds-own-end
slice_bounds-own-end c =
    let most : c.args.self.now.program.now.declared ≤ c.args.cell = let n = c.declared.ensures.number in let le = c.if-cell-declared.false in omega arith in
    sym (length-take-le c.local_of-local.result.births c.args.births.now (its_name c.args.self.now.program.now c.args.births.now (c.args.cell, c.args.token) c.requires.fits most c.local_of-local.result c.local_of-local.ensures).long)

pub place_of-requires-clause-there : goal.place_of-requires-clause-there
place_of-requires-clause-there c =
    let most : c.args.self.now.program.now.declared ≤ c.args.cell = let n = c.declared.ensures.number in let le = c.if-cell-declared.false in omega arith in
    let own = its_name c.args.self.now.program.now c.args.births.now (c.args.cell, c.args.token) c.requires.fits most c.local_of-local.result c.local_of-local.ensures in
    subst (Contains (cell_names c.args.self.now.cells.now)) (sym own.name) (c.requires.covered most)

pub returns : goal.returns
returns c =
    let most : c.args.self.now.program.now.declared ≤ c.args.cell = let n = c.declared.ensures.number in let le = c.if-cell-declared.false in omega arith in
    let own = its_name c.args.self.now.program.now c.args.births.now (c.args.cell, c.args.token) c.requires.fits most c.local_of-local.result c.local_of-local.ensures in
    atom-at c.args.self.now.program.now c.args.self.now.cells.now c.args.births.now c.requires.named.each (c.args.cell, c.args.token) c.requires.fits _ own.name c.place_of.result c.place_of.ensures
