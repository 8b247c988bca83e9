use Rattle.std.proofs.Common.{[], ap, ◌∙◌}
use Rattle.agent_core.specs.Tellings.{tell_all}
use Rattle.trace_text.proofs.GivenInputs.{told_input}
use Rattle.trace_text.proofs.line.read_input.Goals as goal

pub returns-clause-given : goal.returns-clause-given
returns-clause-given c =
    let told = c.in_ok-tell_fields.ensures.told in
    told_input c.args.program.now c.args.line.now told.tokens c.tell_fields.new.store c.if-line-gt-LONGEST_TRACE_LINE.false told.said (told.told ∙ ap (tell_all c.args.program.now [] told.tokens) c.new-input.ensures)
