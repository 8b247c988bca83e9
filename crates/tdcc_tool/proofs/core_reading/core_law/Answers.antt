use Rattle.tdcc_tool.proofs.CoreReadBack.{built_read_back, built_one_reading, built_one_answer}
use Rattle.tdcc_tool.proofs.core_reading.core_law.Goals as goal

pub returns-clause-read_back : goal.returns-clause-read_back
returns-clause-read_back c = built_read_back

pub returns-clause-complete : goal.returns-clause-complete
returns-clause-complete c = built_one_reading

pub returns-clause-answer : goal.returns-clause-answer
returns-clause-answer c = built_one_answer
