use Rattle.std.proofs.Common.{◌≡◌, take}
use Rattle.expansion_laws.specs.Numbering.{bound_constraint}
use Rattle.derived_forms.specs.Placing.{scope_of}
use Rattle.derived_forms.proofs.placing.Scope.bound_constraint.Given as goal

-- the tokens so far are by their cells
abbrev pub invariant-loop-binder : goal.invariant-loop-binder
invariant-loop-binder l = l.list.items ≡ bound_constraint (scope_of l.self.placed.items) (take l.binder-index l.asked)
