use Rattle.std.proofs.Common.{◌≡◌}
use Rattle.instant_net.specs.Collecting.{IsRow, cell_names, declared_names}
use Rattle.instant_net.proofs.collecting.Row.add_declared.Given as goal

abbrev pub invariant-loop-cell : goal.invariant-loop-cell
invariant-loop-cell l = record {
  row : IsRow l.program l.levels l.self.cells.items;
  names : cell_names l.self.cells.items ≡ declared_names l.cell;
}
