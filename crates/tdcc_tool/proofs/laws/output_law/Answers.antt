use Rattle.tdcc_tool.proofs.OneAnswer.{accepted_one_output, accepted_one_run}
use Rattle.tdcc_tool.proofs.laws.output_law.Goals as goal

pub returns-clause-output : goal.returns-clause-output
returns-clause-output c = accepted_one_output c.args.text.now

pub returns-clause-run : goal.returns-clause-run
returns-clause-run c = accepted_one_run c.args.text.now
