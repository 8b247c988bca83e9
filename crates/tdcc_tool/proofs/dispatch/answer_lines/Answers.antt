use Rattle.std.proofs.Common.{rules, List, ℕ, sym, ap, subst}
use Rattle.std.specs.Prelude.{◌≢◌, IfOk, IfSome, Ok}
use Rattle.tdcc_base.specs.Waiting.{waiting, text_read, source_of, ReadsWhile}
use Rattle.tdcc_tool.specs.declared.task.Task.{Task}
use Rattle.tdcc_reader.specs.declared.fault.ReadFault.TheVariants.{Memory}
use Rattle.tdcc_tool.specs.Accepted.{IsTextOf}
use Rattle.tdcc_tool.specs.TextFaults.{HasFault}
use Rattle.tdcc_tool.specs.Answers.{AnswersTo}
use Rattle.tdcc_tool.specs.Reading.{LeavesOpen, is_read_stop}
use Rattle.tdcc_tool.proofs.Readings.{text_reads, run_reads}
use Rattle.tdcc_tool.proofs.TextAnswers.{refuses, refuses_long, answers_run}
use Rattle.tdcc_tool.proofs.dispatch.answer_lines.Goals as goal

pub returns-in-Err-TooLong-clause-answer : goal.returns-in-Err-TooLong-clause-answer
returns-in-Err-TooLong-clause-answer g c =
    let k = c.in_ok-refused_program-in-Err-TooLong.ensures in
    refuses_long c.args.task (waiting g.S.Source.left c.args.lines.now) (waiting g.S.Source.left c.read_text.new.self) (text_read c.read_text.new.self) _ _ _ (rw c.in-Err-TooLong.field-0-is at c.in-Err-TooLong.ensures.text) k.status k.out k.err

pub returns-in-Err : goal.returns-in-Err
returns-in-Err g c =
    let says : c.in-Err.fault ≢ Memory = search rules in
    let k = c.in_ok-refused_program-in-Err.ensures in
    record {
      same_reference = c.in-Ok.ensures.same_reference;
      answer = refuses c.args.task (waiting g.S.Source.left c.args.lines.now) (waiting g.S.Source.left c.read_text.new.self) (text_read c.read_text.new.self) c.in-Ok.field-0 c.in-Err.fault _ _ _ c.in-Ok.ensures.text
          (subst (λ (t : List ℕ). HasFault t c.in-Err.fault) c.text.ensures (c.in-Err.ensures.fault says)) k.status k.out k.err;
      ended = search rules;
      command_end = search rules;
      reads = λ _. text_reads g.S.Source.read_gives c.args.task (text_read c.read_text.new.self) (Ok c.in-Ok.field-0) c.args.lines.now.buffers.ahead c.read_text.new.self.buffers.ahead
          (source_of c.args.lines.now) (source_of c.read_text.new.self) c.in-Ok.ensures.reads;
      faults_only_rise = search rules;
      read = search rules;
      steady = search rules;
    }

pub returns-in-Run-clause-answer : goal.returns-in-Run-clause-answer
returns-in-Run-clause-answer g c =
    subst (λ (task : Task). IfOk c.run_program.result (λ a. IfSome (waiting g.S.Source.left c.args.lines.now) (λ bytes. AnswersTo task bytes a.status a.out.items a.err.items))) (sym c.in-Run.is)
    (answers_run c.in-Run.mode c.in-Run.limits c.in-Ok-program_of.program (waiting g.S.Source.left c.args.lines.now) (waiting g.S.Source.left c.read_text.new.self) (text_read c.read_text.new.self) c.in-Ok.field-0 c.run_program.result c.in-Ok.ensures.text
    (subst (λ (t : List ℕ). IsTextOf t c.in-Ok-program_of.program) c.text.ensures c.in-Ok-program_of.ensures.found) c.run_program.ensures.answer)

pub returns-in-Run-clause-reads : goal.returns-in-Run-clause-reads
returns-in-Run-clause-reads g c says =
    let empty = c.requires.first.fresh.unused in
    subst (λ (task : Task). ReadsWhile g.S.Source.read_gives (LeavesOpen task) (is_read_stop c.run_program.result) c.args.lines.now c.run_program.new.lines) (sym c.in-Run.is)
    (run_reads g.S.Source.read_gives c.in-Run.mode c.in-Run.limits c.in-Ok-program_of.program (text_read c.read_text.new.self)
    (subst (λ (t : List ℕ). IsTextOf t c.in-Ok-program_of.program) c.text.ensures c.in-Ok-program_of.ensures.found)
    c.args.lines.now.buffers.ahead c.read_text.new.self.buffers.ahead c.run_program.new.lines.buffers.ahead (source_of c.args.lines.now) (source_of c.read_text.new.self) (source_of c.run_program.new.lines)
    (is_read_stop c.run_program.result) empty.going_on empty.none c.run_program.ensures.no_more (c.run_program.ensures.reads says)
    c.in-Ok.field-0 (λ e. (c.in-Ok.ensures.end (ap Ok e)).ended) c.in-Ok.ensures.reads)
