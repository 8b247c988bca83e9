use Rattle.std.proofs.Common.{take}
use Rattle.trace_text.proofs.Written.{CellsWritten}
use Rattle.trace_text.proofs.store_line.write_cells.Given as goal

abbrev pub invariant-loop-place : goal.invariant-loop-place
invariant-loop-place l = CellsWritten (take l.program.declared l.program.cells) l.store l.place l.fn.into.items l.into.items
