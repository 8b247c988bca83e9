use Rattle.std.proofs.Common.{◌≡◌, length}
use Rattle.std.specs.Prelude.{All}
use Rattle.agent_core.specs.Stores.{IsInput}
use Rattle.tdcc_tool.proofs.tests.slowly.inputs_of.Given as goal

abbrev pub invariant-loop-line : goal.invariant-loop-line
invariant-loop-line l = record {
  inputs : All (IsInput l.program) l.ins.items;
  count : length l.ins.items ≡ l.line-index;
}
