use Rattle.tdcc_base.specs.Waiting.{LinesReady}
use Rattle.tdcc_base.proofs.tests.shown.Given as goal

abbrev pub invariant-lines : goal.invariant-lines
invariant-lines g l = LinesReady g.S.Source.left l.lines
