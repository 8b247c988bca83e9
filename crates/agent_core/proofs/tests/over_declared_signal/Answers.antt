use Rattle.std.proofs.Common.{◌≡◌, Some, arith}
use Rattle.std.specs.Prelude.{Result, Ok, Err, IfOk, slice_get}
use Rattle.token_system.specs.declared.cell.Kind.TheVariants.{Signal}
use Rattle.token_system.specs.declared.name.CellName.TheVariants.{Declared}
use Rattle.agent_core.specs.declared.node.CellDecl.{CellDecl}
use Rattle.agent_core.specs.Programs.{CoreProgram}
use Rattle.agent_core.specs.Names.{Names}
use Rattle.agent_core.proofs.tests.over_declared_signal.Goals as goal

-- the first cell of a program is declared where one is
first_declared : {E : Type 0} (r : Result CoreProgram E) → IfOk r (λ p. (d : CellDecl) × (slice_get p.cells 0 ≡ Some d) × (d.cell.kind ≡ Signal)) → IfOk r (λ p. p.declared ≡ 1)
    → IfOk r (λ p. (d : CellDecl) × Names p (Declared 0) d × (slice_get p.cells 0 ≡ Some d) × (d.cell.kind ≡ Signal))
first_declared (Ok p) signal one = (signal.0, (omega (arith, one), signal.1), signal.1, signal.2)
first_declared (Err e) signal one = tt

pub returns-clause-signal : goal.returns-clause-signal
returns-clause-signal c = first_declared c.over_one_signal.result c.over_one_signal.ensures.signal c.over_one_signal.ensures.declared
