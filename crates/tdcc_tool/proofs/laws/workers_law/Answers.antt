use Rattle.tdcc_tool.proofs.SameWorkers.{same_answers}
use Rattle.tdcc_tool.proofs.laws.workers_law.Goals as goal

pub returns : goal.returns
returns c = same_answers c.args.words.now c.args.others.now c.workers_law.ensures.number
