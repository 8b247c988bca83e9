use Rattle.std.proofs.Common.{◌≡◌, length, All}
use Rattle.agent_core.specs.Stores.{IsInput}
use Rattle.denotation_laws.proofs.tests.silence.Given as goal

abbrev pub invariant-loop : goal.invariant-loop
invariant-loop l = record { inputs : All (IsInput l.program) l.ins.items; long : length l.ins.items ≡ l.counter }
