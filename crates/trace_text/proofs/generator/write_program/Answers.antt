use Rattle.std.proofs.Common.{refl}
use Rattle.std.proofs.lemmas.Result.{on_ok_weaker}
use Rattle.trace_text.proofs.DrawnTexts.{after_more, program_written}
use Rattle.trace_text.proofs.generator.write_program.Goals as goal

pub returns-clause-text : goal.returns-clause-text
returns-clause-text c =
    on_ok_weaker c.write_bounds.result
    (program_written c.args.draws.now.last c.write_rules.new.draws.last c.args.into.now.items c.write_signals.new.into.items c.write_numbers.new.into.items c.write_rules.new.into.items c.write_bounds.new.into.items c.in_ok-write_signals.ensures c.in_ok-write_numbers.ensures c.in_ok-write_rules.ensures.text c.in_ok-write_rules.ensures.draws)
    c.write_bounds.ensures.text

pub returns-clause-draws : goal.returns-clause-draws
returns-clause-draws c =
    on_ok_weaker c.write_bounds.result
    (λ e. after_more c.args.draws.now.last c.write_rules.new.draws.last c.write_bounds.new.draws.last 93 16 109 c.in_ok-write_rules.ensures.draws e refl)
    c.write_bounds.ensures.draws
