use Rattle.std.proofs.Common.{◌∙◌, sym}
use Rattle.derived_forms.proofs.PlacedWorks.{skip_scopes, tell_scopes}
use Rattle.derived_forms.proofs.placing.Scope.place.Goals as goal

pub returns-in_ok-bound_constraint-in-Tell-clause-scopes : goal.returns-in_ok-bound_constraint-in-Tell-clause-scopes
returns-in_ok-bound_constraint-in-Tell-clause-scopes c = λ w outer e n h.
    tell_scopes _ w outer c.leave.new.self (sym c.in-Tell.is ∙ e) (c.leave.ensures.left w.scope outer h)

pub returns-in-Skip-clause-scopes : goal.returns-in-Skip-clause-scopes
returns-in-Skip-clause-scopes c = λ w outer e n h. skip_scopes w outer c.leave-in-Skip.new.self (sym c.in-Skip.is ∙ e) (c.leave-in-Skip.ensures.left w.scope outer h)
