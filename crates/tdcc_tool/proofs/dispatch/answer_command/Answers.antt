use Rattle.std.proofs.Common.{◌≡◌, [], Some, subst}
use Rattle.std.specs.Prelude.{OnSome}
use Rattle.tdcc_base.specs.declared.status.Status.TheVariants.{Ok as Whole}
use Rattle.tdcc_tool.specs.declared.task.Task.{Task}
use Rattle.tdcc_tool.specs.Reading.{LeavesOpen, ReadsAsNeeded}
use Rattle.tdcc_tool.proofs.Commands.{answered_by, ended_by, not_generated}
use Rattle.tdcc_tool.proofs.dispatch.answer_command.Goals as goal

pub returns-in_default : goal.returns-in_default
returns-in_default g c =
    let k = c.answer.ensures in
    let same = c.task_of-in_default.ensures in
    let not = not_generated c.args.command c.in_default.not-Generate in
    record {
      answer = answered_by c.args.command c.task_of-in_default.result (g.S.Source.left c.args.source.now) c.answer.result same not k.answer;
      ended = ended_by c.args.command c.task_of-in_default.result (λ a. a.status ≡ Whole → OnSome (g.S.Source.left c.args.source.now) (g.S.Source.left c.answer.new.source ≡ Some [])) c.answer.result same k.ended;
      generated = λ is. absurd (not is);
      generates = λ bytes is. absurd (not is);
      unread = λ is. absurd (not is);
      command_end = k.command_end;
      reads = λ _ says. subst (λ (task : Task). ReadsAsNeeded g.S.Source.read_gives (LeavesOpen task) c.args.source.now c.answer.new.source) same (k.reads says);
      read = k.read;
      steady = k.steady;
    }
