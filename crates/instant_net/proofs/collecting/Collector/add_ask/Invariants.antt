use Rattle.std.proofs.Common.{drop, take}
use Rattle.agent_core.specs.Scope.{ConstraintFits}
use Rattle.instant_net.specs.Collecting.{AddsAsked}
use Rattle.instant_net.specs.Covering.{CoversAsk}
use Rattle.instant_net.proofs.collecting.Collector.add_ask.Given as goal

abbrev pub invariant-loop-cell : goal.invariant-loop-cell
invariant-loop-cell l = record {
  added : AddsAsked l.self.program.now l.births l.ask l.initial.names.keys l.names.keys;
  covered : CoversAsk l.self.program.now l.births (take l.cell-index l.cell-items) l.initial.names.keys l.names.keys;
  fits : ConstraintFits l.self.program.now l.births (drop l.cell-index l.cell-items);
}
