use Rattle.trace_text.proofs.GeneratedLines.{program_line, length-trace, trace_line}
use Rattle.trace_text.proofs.laws.generating_law.Goals as goal

pub returns-clause-program : goal.returns-clause-program
returns-clause-program c = program_line

pub returns-clause-many : goal.returns-clause-many
returns-clause-many c = length-trace

pub returns-clause-lines : goal.returns-clause-lines
returns-clause-lines c = trace_line
