use Rattle.std.proofs.Common.{arith}
use Rattle.command_words.proofs.Numbers.{reads_number}
use Rattle.command_words.proofs.settings.number_of.Goals as goal

pub returns : goal.returns
returns c = rw c.ok.ensures.value (reads_number c.args.word.now c.parse.result (omega arith) c.if-starts_with.ensures.cases c.parse.ensures.value.0)
