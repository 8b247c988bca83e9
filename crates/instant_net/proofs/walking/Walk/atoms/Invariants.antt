use Rattle.std.proofs.Common.{take, drop}
use Rattle.agent_core.specs.Scope.{ConstraintFits}
use Rattle.instant_net.specs.Walks.{AreAtomsOf}
use Rattle.instant_net.proofs.walking.Walk.atoms.Given as goal

abbrev pub invariant-loop-cell : goal.invariant-loop-cell
invariant-loop-cell l = record {
  so_far : AreAtomsOf l.self.program.now l.self.cells.now l.births (take l.cell-index l.cell-items) l.list.items;
  fits : ConstraintFits l.self.program.now l.births (drop l.cell-index l.cell-items);
}
