use Rattle.std.proofs.Common.{◌≡◌, length}
use Rattle.std.specs.Prelude.{filter}
use Rattle.std.specs.List.{range_with_len}
use Rattle.tdcc_tool.specs.RunTexts.{is_told}
use Rattle.tdcc_tool.proofs.summary.told_of.Given as goal

abbrev pub invariant-loop-cell : goal.invariant-loop-cell
invariant-loop-cell l = l.told ≡ length (filter (is_told l.store) (range_with_len 0 l.cell))
