use Rattle.std.proofs.Common.{get_or, ap, refl, sym, subst}
use Rattle.std.proofs.lemmas.List.Elements.{All-push}
use Rattle.agent_core.specs.declared.node.CellDecl.{CellDecl}
use Rattle.instant_net.specs.declared.parts.NetCell.{NetCell}
use Rattle.instant_net.specs.Collecting.{IsRow}
use Rattle.instant_net.specs.Opened.{IsCellOf}
use Rattle.instant_net.proofs.Cells.{cell-is}
use Rattle.instant_net.proofs.collecting.Row.add.Goals as goal

pub returns-clause-row : goal.returns-clause-row
returns-clause-row c =
    let p = c.args.program.now in
    let x = get_or c.cells.result.now c.args.cell c.index-cells-cell.result in
    let k = get_or c.list.result.now c.args.cell 0 in
    let new : NetCell = record { name = c.args.name; cell = x.cell; stratum = k; first = 0; word = 0 } in
    let one : IsCellOf p c.args.levels.now new = cell-is p c.args.levels.now c.cells.result.now c.list.result.now c.args.name c.args.cell k x c.requires.named c.requires.number c.cells.ensures.all c.list.ensures.all (ap (λ (d : CellDecl). get_or c.cells.result.now c.args.cell d) c.index-cells-cell.is) refl in
    subst (IsRow p c.args.levels.now) (sym c.in_ok-push.ensures.items) (All-push (IsCellOf p c.args.levels.now) c.args.self.now.cells.items new c.requires.row one)
