use Rattle.generated_laws.proofs.Accepted.{text_read, line_read}
use Rattle.generated_laws.proofs.Built.{small}
use Rattle.generated_laws.proofs.Parted.{parted}
use Rattle.generated_laws.proofs.SignalLines.{trace_given}
use Rattle.generated_laws.proofs.PartNews.{few, few_ran}
use Rattle.generated_laws.proofs.laws.generated_law.Goals as goal

pub returns-clause-reads : goal.returns-clause-reads
returns-clause-reads c = text_read

pub returns-clause-reads_line : goal.returns-clause-reads_line
returns-clause-reads_line c = line_read

pub returns-clause-built : goal.returns-clause-built
returns-clause-built c = small

pub returns-clause-parted : goal.returns-clause-parted
returns-clause-parted c = parted

pub returns-clause-lines : goal.returns-clause-lines
returns-clause-lines c = trace_given

pub returns-clause-bounded : goal.returns-clause-bounded
returns-clause-bounded c = few

pub returns-clause-few_ran : goal.returns-clause-few_ran
returns-clause-few_ran c = few_ran
