use Rattle.std.proofs.Common.{arith, [], Err, false, refl, ◌∙◌, inl, inr, subst}
use Rattle.std.specs.Io.KnownBytes.{Appends}
use Rattle.tdcc_base.specs.Written.{AppendsProperPrefix, WritesUntilFault}
use Rattle.tdcc_base.proofs.Known.{Appends-nothing}
use Rattle.tdcc_tool.specs.Messages.{usage_line}
use Rattle.command_words.specs.declared.command.Command.TheVariants.{Run, Report}
use Rattle.tdcc_tool.specs.Answers.{WordsCall}
use Rattle.tdcc_tool.proofs.Texts.{IfSome-all, true_and_false}
use Rattle.tdcc_tool.proofs.Commands.{has_net_limit, reads_called}
use Rattle.tdcc_tool.proofs.KnownInputs.{holds_of}
use Rattle.tdcc_tool.proofs.GeneratedRuns.{generated_whole}
use Rattle.tdcc_tool.proofs.OneAnswer.{one_answer}
use Rattle.tdcc_tool.proofs.WholeRuns.{runs_whole, no_room}
use Rattle.tdcc_tool.proofs.top.tdcc.Goals as goal

pub returns-in_default-clause-answer : goal.returns-in_default-clause-answer
returns-in_default-clause-answer g c _ bytes may =
    ([], usage_line, inr (record { none = c.in_default.ensures; is = refl; nothing = refl; told = refl }), Appends-nothing _, c.tell.ensures)

pub returns-in_default-clause-whole : goal.returns-in_default-clause-whole
returns-in_default-clause-whole g c = IfSome-all (g.S.Source.left c.args.source.now) _ (λ bytes r. elim r.calls [ inl is ↦ c.in_default.ensures (Run r.limits) is | inr is ↦ c.in_default.ensures (Report r.limits) is ])

pub returns-in-Ok-clause-cut_out : goal.returns-in-Ok-clause-cut_out
returns-in-Ok-clause-cut_out g c bytes given known taken s o e answer =
    let called : WordsCall c.in-Some.command c.args.words.now = c.in-Some.ensures in
    let ours = holds_of c.args.words.now c.in-Some.command (g.S.Source.left c.args.source.now) bytes _ called known c.in-Ok.ensures.answer c.in-Ok.ensures.generates in
    let same = one_answer c.args.words.now bytes c.in-Ok.answer.status s c.in-Ok.answer.out.items o _ e (inl (c.in-Some.command, called, ours)) answer in
    subst (AppendsProperPrefix (g.K.Sink.written c.args.out.now) (g.K.Sink.written c.write_all.new.sink)) (c.as_slice.ensures.value ∙ same.1) c.in-Err.ensures.part

pub returns-in-Ok-write_all-clause-whole : goal.returns-in-Ok-write_all-clause-whole
returns-in-Ok-write_all-clause-whole g c =
    let called : WordsCall c.in-Some.command c.args.words.now = c.in-Some.ensures in
    runs_whole c.args.words.now c.in-Some.command (g.S.Source.left c.args.source.now) c.in-Ok.answer.status c.in-Ok.answer.out.items _ _ _ called c.in-Ok.ensures.answer

pub returns-in-Ok-write_all-clause-generated_whole : goal.returns-in-Ok-write_all-clause-generated_whole
returns-in-Ok-write_all-clause-generated_whole g c =
    generated_whole c.args.words.now c.in-Some.command c.in-Ok.answer.status c.in-Ok.answer.out.items c.in-Ok.answer.err.items _ _ c.in-Some.ensures c.in-Ok.ensures.generates

pub returns-in-Ok-clause-roomy : goal.returns-in-Ok-clause-roomy
returns-in-Ok-clause-roomy g c bytes s o e known answer room is =
    let called : WordsCall c.in-Some.command c.args.words.now = c.in-Some.ensures in
    let ours = holds_of c.args.words.now c.in-Some.command (g.S.Source.left c.args.source.now) bytes _ called known c.in-Ok.ensures.answer c.in-Ok.ensures.generates in
    let same = one_answer c.args.words.now bytes c.in-Ok.answer.status s c.in-Ok.answer.out.items o _ e (inl (c.in-Some.command, called, ours)) answer in
    no_room {T = Unit {0}} (g.K.Sink.room c.args.out.now) (g.K.Sink.room c.write_all.new.sink) c.as_slice.result.now o (Err c.in-Err.field-0) (λ h. true_and_false false h refl) c.in-Err.ensures.roomy (c.as_slice.ensures.value ∙ same.1) room

pub returns-in-Ok-write_all-clause-answer : goal.returns-in-Ok-write_all-clause-answer
returns-in-Ok-write_all-clause-answer g c _ bytes may =
    let called : WordsCall c.in-Some.command c.args.words.now = c.in-Some.ensures in
    let ours = holds_of c.args.words.now c.in-Some.command (g.S.Source.left c.args.source.now) bytes _ called may c.in-Ok.ensures.answer c.in-Ok.ensures.generates in (
      c.in-Ok.answer.out.items,
      c.in-Ok.answer.err.items,
      inl (c.in-Some.command, called, ours),
      subst (Appends (g.K.Sink.written c.args.out.now) (g.K.Sink.written c.write_all.new.sink)) c.as_slice.ensures.value c.in-Ok-write_all.ensures.ok,
      subst (WritesUntilFault (g.E.Sink.written c.args.err.now) (g.E.Sink.written c.tell-in-Ok-write_all.new.err) (g.E.Sink.faults c.args.err.now) (g.E.Sink.faults c.tell-in-Ok-write_all.new.err)) c.as_slice-in-Ok-write_all.ensures.value c.tell-in-Ok-write_all.ensures,
    )

pub answer_command-requires : goal.answer_command-requires
answer_command-requires g c = record { net = has_net_limit c.args.words.now c.in-Some.command c.in-Some.ensures }

pub returns-in-Ok-write_all-clause-reads : goal.returns-in-Ok-write_all-clause-reads
returns-in-Ok-write_all-clause-reads g c command called not says =
    reads_called g.S.Source.read_gives c.args.words.now c.in-Some.command command c.args.source.now c.answer_command.new.source c.in-Some.ensures called not
    (λ own. c.in-Ok.ensures.reads own (λ e. cc))

pub returns-in-Ok-clause-reads : goal.returns-in-Ok-clause-reads
returns-in-Ok-clause-reads g c command called not says =
    reads_called g.S.Source.read_gives c.args.words.now c.in-Some.command command c.args.source.now c.answer_command.new.source c.in-Some.ensures called not
    (λ own. c.in-Ok.ensures.reads own (λ e. cc))

pub returns-in-Err-Read-clause-reads : goal.returns-in-Err-Read-clause-reads
returns-in-Err-Read-clause-reads g c command called not says =
    reads_called g.S.Source.read_gives c.args.words.now c.in-Some.command command c.args.source.now c.answer_command.new.source c.in-Some.ensures called not
    (λ own. c.in-Err-Read.ensures.reads own (λ e. cc))

pub returns-in-Err-Read-clause-cut_out : goal.returns-in-Err-Read-clause-cut_out
returns-in-Err-Read-clause-cut_out g c bytes given known taken lines s o e whole answer = (0, omega arith, Appends-nothing (g.K.Sink.written c.args.out.now))
