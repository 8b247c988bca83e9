use Rattle.certificate_text.proofs.OutBack as back
use Rattle.certificate_text.proofs.OutLaws as outs
use Rattle.certificate_text.proofs.laws.outs_law.Goals as goal

pub returns-clause-reads_back : goal.returns-clause-reads_back
returns-clause-reads_back c = back.reads_back

pub returns-clause-store : goal.returns-clause-store
returns-clause-store c = outs.gives_store

pub returns-clause-one : goal.returns-clause-one
returns-clause-one c = outs.gives_one

pub returns-clause-good : goal.returns-clause-good
returns-clause-good c = outs.is_good
