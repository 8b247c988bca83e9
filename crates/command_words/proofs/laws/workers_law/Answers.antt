use Rattle.command_words.proofs.OtherWorkers.{left_out_alike, number_alike}
use Rattle.command_words.proofs.laws.workers_law.Goals as goal

pub returns-clause-number : goal.returns-clause-number
returns-clause-number c = number_alike

pub returns-clause-left_out : goal.returns-clause-left_out
returns-clause-left_out c = left_out_alike
