use Rattle.tdcc_tool.proofs.OneAnswer.{one_answer}
use Rattle.tdcc_tool.proofs.SomeAnswers.{call_or_not, some_answer}
use Rattle.tdcc_tool.proofs.laws.answer_law.Goals as goal

pub returns-clause-some : goal.returns-clause-some
returns-clause-some c bytes = some_answer c.args.words.now bytes (call_or_not c.args.words.now c.command_of.result c.command_of.ensures)

pub returns-clause-one : goal.returns-clause-one
returns-clause-one c bytes = one_answer c.args.words.now bytes
