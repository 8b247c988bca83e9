use Rattle.certificate_text.proofs.InputLaws as inputs
use Rattle.certificate_text.proofs.laws.inputs_law.Goals as goal

pub returns-clause-reads_back : goal.returns-clause-reads_back
returns-clause-reads_back c = inputs.reads_back

pub returns-clause-input : goal.returns-clause-input
returns-clause-input c = inputs.gives_input

pub returns-clause-one : goal.returns-clause-one
returns-clause-one c = inputs.gives_one

pub returns-clause-good : goal.returns-clause-good
returns-clause-good c = inputs.is_good
