use Rattle.step_lines.proofs.NoneNamed.{NamesNoneBefore}
use Rattle.step_lines.proofs.word_name.word_named.Given as goal

abbrev pub invariant-loop-cell : goal.invariant-loop-cell
invariant-loop-cell l = NamesNoneBefore l.program l.net.cells l.text l.cell
