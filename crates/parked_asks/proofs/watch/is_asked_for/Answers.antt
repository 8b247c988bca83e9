use Rattle.std.proofs.Common.{sym, arith}
use Rattle.std.proofs.lemmas.Bool.Decides.{nat_tests}
use Rattle.token_system.specs.declared.cell.Token.TheVariants.{On}
use Rattle.parked_asks.proofs.Adds.{asks-found, asks-missed}
use Rattle.parked_asks.proofs.watch.is_asked_for.Goals as goal

pub returns-then-atom-cell : goal.returns-then-atom-cell
returns-then-atom-cell c =
    let same = c.if-atom-cell.true in
    sym (asks-found c.args.cell c.args.ask.now c.loop-atom.atom-index (record { cell = 0; token = On }) c.loop-atom-test.true (grind (arith, nat_tests, same)))

pub loop-atom-preserved : goal.loop-atom-preserved
loop-atom-preserved c =
    let other = c.if-atom-cell.false in
    asks-missed c.args.cell c.args.ask.now c.loop-atom.atom-index (record { cell = 0; token = On }) c.loop-atom-test.true c.loop-atom.invariant (λ e. grind (arith, nat_tests, other, e))
