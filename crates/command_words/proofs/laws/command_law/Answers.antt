use Rattle.command_words.proofs.CommandWords.{one_command}
use Rattle.command_words.proofs.laws.command_law.Goals as goal

pub returns : goal.returns
returns c = one_command
