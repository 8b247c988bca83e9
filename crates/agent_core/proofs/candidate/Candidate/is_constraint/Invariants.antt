use Rattle.std.proofs.Common.{drop}
use Rattle.std.specs.Prelude.{◌↔◌}
use Rattle.agent_core.specs.Drafts.{core_of, locals_of}
use Rattle.agent_core.specs.WellFormed.{AreInScope}
use Rattle.agent_core.proofs.candidate.Candidate.is_constraint.Given as goal

-- all are in scope where those that are left are
abbrev pub invariant-loop-cell : goal.invariant-loop-cell
invariant-loop-cell l = AreInScope (core_of l.self) (locals_of l.around) (drop l.cell-index l.cell-items) ↔ AreInScope (core_of l.self) (locals_of l.around) l.cell-items
