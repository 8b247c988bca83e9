use Rattle.std.proofs.Common.{rules, tests}
use Rattle.std.proofs.lemmas.Result.{on_ok_weaker, IfErr-weaker}
use Rattle.certificate_text.proofs.OutWalks.{told_next, fault_next, word_next, other_next}
use Rattle.certificate_text.proofs.out_reading.OutSoFar.read_field.Goals as goal

pub returns-then-self-clause-read : goal.returns-then-self-clause-read
returns-then-self-clause-read c =
    on_ok_weaker c.tell_field.result
    (told_next c.args.program.now c.args.instant c.args.offset c.args.field.now c.args.self.now.worded c.args.self.now.store c.tell_field.new.store c.if-self.true)
    c.tell_field.ensures.told

pub returns-then-self-clause-bad : goal.returns-then-self-clause-bad
returns-then-self-clause-bad c =
    IfErr-weaker c.tell_field.result _ _
    (λ fault h. fault_next c.args.program.now c.args.instant c.args.offset c.args.field.now c.args.self.now.worded c.args.self.now.store fault c.if-self.true h)
    c.tell_field.ensures.bad

pub returns-then-ne-clause-bad : goal.returns-then-ne-clause-bad
returns-then-ne-clause-bad c = other_next c.args.program.now c.args.instant c.args.offset c.args.field.now c.args.self.now.worded c.args.self.now.store c.if-self.false (search (rules, tests))

pub returns-clause-read : goal.returns-clause-read
returns-clause-read c = word_next c.args.program.now c.args.instant c.args.offset c.args.field.now c.args.self.now.worded c.args.self.now.store c.if-self.false (search (rules, tests))
