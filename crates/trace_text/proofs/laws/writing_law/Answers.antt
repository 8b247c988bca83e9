use Rattle.trace_text.proofs.ReadBack.{line_read, line_one, line_short}
use Rattle.trace_text.proofs.laws.writing_law.Goals as goal

pub returns-clause-reads_back : goal.returns-clause-reads_back
returns-clause-reads_back c = λ p v i program names part. line_read p v i program names part

pub returns-clause-two_lines : goal.returns-clause-two_lines
returns-clause-two_lines c = λ p v w program names iv iw e. line_one p v w program names iv iw e

pub returns-clause-short : goal.returns-clause-short
returns-clause-short c = λ p v program names input. line_short p v program names input.store
