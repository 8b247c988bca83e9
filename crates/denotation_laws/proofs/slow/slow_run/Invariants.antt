use Rattle.std.proofs.Common.{All, take}
use Rattle.agent_core.specs.Outputs.{IsRun}
use Rattle.agent_core.specs.Stores.{IsStore}
use Rattle.denotation_laws.proofs.slow.slow_run.Given as goal

abbrev pub invariant-loop-input : goal.invariant-loop-input
invariant-loop-input l = record { run : IsRun l.program (take l.input-index l.ins) l.outs.items; stores : All (IsStore l.program) l.outs.items }
