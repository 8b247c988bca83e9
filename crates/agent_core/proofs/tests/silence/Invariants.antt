use Rattle.std.proofs.Common.{◌≡◌, length, All}
use Rattle.agent_core.specs.Stores.{IsStore}
use Rattle.agent_core.proofs.tests.silence.Given as goal

abbrev pub invariant-loop : goal.invariant-loop
invariant-loop l = record { stores : All (IsStore l.program) l.closed.items; long : length l.closed.items ≡ l.counter }
