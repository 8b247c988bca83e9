use Rattle.std.proofs.Common.{◌≡◌, ◌≤◌, length, take}
use Rattle.expansion_laws.specs.Numbering.{bound_cell}
use Rattle.derived_forms.specs.Placing.{scope_of}
use Rattle.derived_forms.proofs.placing.bound_cell.Given as goal

-- the binders that were looked at are others
abbrev pub invariant-loop-left : goal.invariant-loop-left
invariant-loop-left l = (l.left ≤ length l.placed) × (bound_cell (scope_of l.placed) l.binder ≡ bound_cell (scope_of (take l.left l.placed)) l.binder)

abbrev pub decreases-loop-left : goal.decreases-loop-left
decreases-loop-left l = l.left
