use Rattle.std.proofs.Common.{◌≡◌, ◌++◌}
use Rattle.std.specs.Prelude.{flat_map}
use Rattle.std.specs.List.{range_with_len}
use Rattle.tdcc_tool.specs.Checks.{size_line, cell_line}
use Rattle.tdcc_tool.proofs.check.check_text.Given as goal

abbrev pub invariant-loop-cell : goal.invariant-loop-cell
invariant-loop-cell l = l.text.items ≡ size_line l.program l.levels ++ flat_map (cell_line l.program l.levels) (range_with_len 0 l.cell)
