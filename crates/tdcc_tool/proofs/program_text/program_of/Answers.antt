use Rattle.std.proofs.Common.{rules}
use Rattle.tdcc_tool.specs.TextFaults.{many_nodes, many_cells}
use Rattle.tdcc_tool.proofs.AcceptedPrograms.{misread_if}
use Rattle.tdcc_tool.proofs.program_text.program_of.Goals as goal

pub returns-in_err-surface-clause-fault : goal.returns-in_err-surface-clause-fault
returns-in_err-surface-clause-fault c = misread_if c.args.text.now c.from_residual.result (search rules)

pub returns-in-Err-TooManyNodes-clause-fault : goal.returns-in-Err-TooManyNodes-clause-fault
returns-in-Err-TooManyNodes-clause-fault c says = many_nodes c.in_ok-surface.surface c.in_ok-surface.ensures.found (rw c.in-Err-TooManyNodes.field-0-is at c.in-Err-TooManyNodes.ensures.fault)

pub returns-in-Err-TooManyCells-clause-fault : goal.returns-in-Err-TooManyCells-clause-fault
returns-in-Err-TooManyCells-clause-fault c says = many_cells c.in_ok-surface.surface c.in_ok-surface.ensures.found (rw c.in-Err-TooManyCells.field-0-is at c.in-Err-TooManyCells.ensures.fault)
