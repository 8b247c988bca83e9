use Rattle.std.proofs.Common.{inl, subst}
use Rattle.tdcc_base.specs.Waiting.{waiting, source_of}
use Rattle.tdcc_base.proofs.SeveralCalls.{Anything, reopen}
use Rattle.agent_core.specs.Programs.{CoreProgram}
use Rattle.command_words.specs.declared.settings.Limits.{Limits}
use Rattle.tdcc_tool.specs.Reading.{IsOpenTrace, IsOpenTraceOf, is_read_stop}
use Rattle.tdcc_tool.proofs.CaseAnswers.{case_answer_at}
use Rattle.tdcc_tool.proofs.Texts.{IfSome-all}
use Rattle.tdcc_tool.proofs.trace.run_program.Goals as goal

pub returns-in-Err-NotStratified-clause-answer : goal.returns-in-Err-NotStratified-clause-answer
returns-in-Err-NotStratified-clause-answer g c =
    let x = c.in-Err-NotStratified in
    let k = c.in_ok-refused_case-in-Err-NotStratified.ensures in
    IfSome-all (waiting g.S.Source.left c.args.lines.now) _ (λ trace. inl (case_answer_at c.args.program x.guard x.told x.node _ _ _ _ _ _ x.guard-is x.told-is x.node-is
    (rw c.in-Err-NotStratified.field-0-is at c.in-Err-NotStratified.ensures.none) (rw c.in-Err-NotStratified.field-0-is at c.in-Err-NotStratified.ensures.first) k.status k.out k.err))

pub returns-in-Ok-clause-reads : goal.returns-in-Ok-clause-reads
returns-in-Ok-clause-reads g c says =
    let state = c.in_ok-state-in-Ok.state in
    let is = c.in_ok-state-in-Ok.ensures in
    reopen g.S.Source.read_gives (IsOpenTrace state.book.program state.limits) (IsOpenTraceOf c.args.program c.args.limits) Anything c.args.lines.now.buffers.ahead c.run_trace.new.lines.buffers.ahead
    (is_read_stop c.run_trace.result) (source_of c.args.lines.now) (source_of c.run_trace.new.lines)
    (λ bytes trace. (_, c.in-Ok.ensures.table, subst (λ (q : CoreProgram). IsOpenTrace q c.args.limits bytes) is.program (subst (λ (l : Limits). IsOpenTrace state.book.program l bytes) is.limits trace)))
    (c.run_trace.ensures.reads says)
