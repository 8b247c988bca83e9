use Rattle.program_lexemes.proofs.Joined.{joined_reads}
use Rattle.program_lexemes.proofs.laws.joined_law.Goals as goal

pub returns : goal.returns
returns c = joined_reads
