use Rattle.step_lines.proofs.OneStep.{lines_say_one_step}
use Rattle.step_lines.proofs.laws.one_step_law.Goals as goal

pub returns : goal.returns
returns c = lines_say_one_step
