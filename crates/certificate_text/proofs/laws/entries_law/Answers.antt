use Rattle.certificate_text.proofs.InputLaws as inputs
use Rattle.certificate_text.proofs.LineFeeds as feeds
use Rattle.certificate_text.proofs.OutBack as outs
use Rattle.certificate_text.proofs.RunTexts as runs
use Rattle.certificate_text.proofs.laws.entries_law.Goals as goal

pub returns-clause-read_back : goal.returns-clause-read_back
returns-clause-read_back c = λ p t e program names soon input at small short. (inputs.reads_back p e.input program names input, outs.reads_back p t e.out program names soon at short.1.0, runs.runs_law e.run small short.1.1.0)

pub returns-clause-lines : goal.returns-clause-lines
returns-clause-lines c = feeds.are_lines
