use Rattle.tdcc_tool.proofs.CaseAnswers.{case_answer}
use Rattle.tdcc_tool.proofs.check.check_answer.Goals as goal

pub returns-in-Err-NotStratified : goal.returns-in-Err-NotStratified
returns-in-Err-NotStratified c =
    let x = c.in-Err-NotStratified in
    let k = c.refused_case.ensures in
    case_answer c.args.program.now x.guard x.told x.node _ _ _ c.refused_case.result x.guard-is x.told-is x.node-is
    (rw c.in-Err-NotStratified.field-0-is at c.in-Err-NotStratified.ensures.none) (rw c.in-Err-NotStratified.field-0-is at c.in-Err-NotStratified.ensures.first) k.status k.out k.err
