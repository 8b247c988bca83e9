use Rattle.std.proofs.Common.{◌≡◌, ◌++◌}
use Rattle.instant_net.specs.Collecting.{IsRow, cell_names}
use Rattle.instant_net.proofs.collecting.Row.add_locals.Given as goal

abbrev pub invariant-loop-name : goal.invariant-loop-name
invariant-loop-name l = record {
  row : IsRow l.program l.levels l.self.cells.items;
  names : cell_names l.self.cells.items ≡ cell_names l.initial.self.cells.items ++ l.yielded;
}
