use Rattle.std.proofs.Common.{length, arith}
use Rattle.program_lexemes.proofs.Reading.{reads_in, reads_few}
use Rattle.program_lexemes.proofs.Unique.{unique, lexed_not_bad}
use Rattle.program_lexemes.proofs.lexer.lexemes.Goals as goal

pub returns-in-Ok-Ok-clause-each : goal.returns-in-Ok-Ok-clause-each
returns-in-Ok-Ok-clause-each c = let read = rw c.in-Ok-Ok.field-0-is at c.in-Ok-Ok.ensures in reads_in c.args.form c.args.text.now c.in-Ok-Ok.found.items 0 (length c.args.text.now) read

pub returns-in-Ok-Ok-clause-complete : goal.returns-in-Ok-Ok-clause-complete
returns-in-Ok-Ok-clause-complete c = let read = rw c.in-Ok-Ok.field-0-is at c.in-Ok-Ok.ensures in λ ls q. unique c.args.form c.args.text.now c.in-Ok-Ok.found.items ls 0 read q

pub returns-in-Ok-Err-clause-complete : goal.returns-in-Ok-Err-clause-complete
returns-in-Ok-Err-clause-complete c = let bad = rw c.in-Ok-Err.field-0-is at c.in-Ok-Err.ensures in λ ls q. absurd (lexed_not_bad c.args.form c.args.text.now ls c.in-Ok-Err.offset q bad)

pub returns-in-Ok-Ok-clause-bounded : goal.returns-in-Ok-Ok-clause-bounded
returns-in-Ok-Ok-clause-bounded c = let read = rw c.in-Ok-Ok.field-0-is at c.in-Ok-Ok.ensures in omega (arith, reads_few c.args.form c.args.text.now c.in-Ok-Ok.found.items 0 (length c.args.text.now) read)
