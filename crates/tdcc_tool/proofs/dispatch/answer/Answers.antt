use Rattle.std.proofs.Common.{rules}
use Rattle.tdcc_base.specs.Waiting.{source_of}
use Rattle.tdcc_tool.specs.Reading.{LeavesOpen, ReadsAsNeeded, is_read_stop}
use Rattle.tdcc_tool.proofs.Readings.{as_read}
use Rattle.tdcc_tool.proofs.dispatch.answer.Goals as goal

pub returns-clause-reads : goal.returns-clause-reads
returns-clause-reads g c says =
    let reads : ReadsAsNeeded g.S.Source.read_gives (LeavesOpen c.args.task) c.args.source.now (source_of c.answer_lines.new.lines) =
    as_read g.S.Source.read_gives g.S.Source.left (LeavesOpen c.args.task) (is_read_stop c.answer_lines.result) c.args.source.now c.in-Ok.lines c.answer_lines.new.lines c.in-Ok.ensures.opens (c.answer_lines.ensures.reads says) in
    search rules
