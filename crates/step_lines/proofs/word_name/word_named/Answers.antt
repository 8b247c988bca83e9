use Rattle.std.proofs.Common.{arith}
use Rattle.step_lines.proofs.NoneNamed.{named_here, not_named_here, none_named_more, none_named}
use Rattle.step_lines.proofs.word_name.word_named.Goals as goal

pub returns-in-Some-clause-named : goal.returns-in-Some-clause-named
returns-in-Some-clause-named c =
    named_here c.args.program.now c.args.net.now.cells c.args.text.now c.loop-cell.cell c.in_ok-word.field-0 c.in_ok-word.ensures c.in-Some.word (omega (arith, c.cells-cell-end.ensures.count, c.loop-cell-test.true)) c.in-Some.is

pub loop-cell-preserved : goal.loop-cell-preserved
loop-cell-preserved c =
    none_named_more c.args.program.now c.args.net.now.cells c.args.text.now c.loop-cell.cell c.loop-cell.invariant
    (not_named_here c.args.program.now c.args.net.now.cells c.args.text.now c.loop-cell.cell c.in_ok-word.field-0 c.in_ok-word.ensures c.in_default.is)

pub returns-clause-none : goal.returns-clause-none
returns-clause-none c = λ _. none_named c.args.program.now c.args.net.now.cells c.args.text.now c.loop-cell.cell (omega (arith, c.cells-cell-end.ensures.count, c.loop-cell-test.false)) c.loop-cell.invariant
