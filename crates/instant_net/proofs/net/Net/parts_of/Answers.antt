use Rattle.std.proofs.Common.{◌<◌, ◌≤◌, ◌+◌, length, refl, sym, subst, arith}
use Rattle.instant_net.specs.Nets.{Flat}
use Rattle.instant_net.specs.PartLists.{parts}
use Rattle.instant_net.proofs.PartOwners.{cell_parts_there}
use Rattle.instant_net.proofs.WordPlaces.{read_found}
use Rattle.instant_net.proofs.net.Net.parts_of.Goals as goal

pub returns-clause-there : goal.returns-clause-there
returns-clause-there c =
    let within = subst (λ (n : Flat). c.args.cell < length n.cells) (sym c.self.view_is) c.requires in
    let at = read_found c.self.inside.cells.items c.self.inside.cells.items c.args.cell c.index-cell.result.now refl within c.index-cell.ensures in
    let there = cell_parts_there c.self.inside.cells.items c.self.invariant.of.cells.laid_out c.args.cell c.index-cell.result.now at in
    let wide = c.width.ensures in
    subst (λ (n : Flat). c.index-cell.result.now.first + c.width.result ≤ parts n.cells) c.self.view_is (omega arith)
