use Rattle.std.proofs.Common.{sym, ◌∙◌}
use Rattle.std.proofs.lemmas.Bool.{false≢true}
use Rattle.token_system.specs.declared.cell.Token.TheVariants.{On}
use Rattle.agent_core.specs.Drafts.{core_of, locals_of}
use Rattle.agent_core.proofs.ScopeTests.{ask_goes_on, ask_fails, ask_ends}
use Rattle.agent_core.proofs.candidate.Candidate.is_constraint.Goals as goal

pub loop-cell-init : goal.loop-cell-init
loop-cell-init c = (λ h. h, λ h. h)

pub returns-then-not-is_in_scope : goal.returns-then-not-is_in_scope
returns-then-not-is_in_scope c =
    ask_fails (core_of c.args.self) (locals_of c.args.around.now) c.list-cell-items.result.now c.loop-cell.cell-index c.loop-cell.invariant (0, On) c.loop-cell-test.true
    (λ h. false≢true (sym c.if-not-is_in_scope.true ∙ c.is_in_scope.ensures.1 h)) c.args.ask.now c.list-cell-items.ensures.all

pub loop-cell-preserved : goal.loop-cell-preserved
loop-cell-preserved c =
    ask_goes_on (core_of c.args.self) (locals_of c.args.around.now) c.list-cell-items.result.now c.loop-cell.cell-index c.loop-cell.invariant (0, On) c.loop-cell-test.true
    (c.is_in_scope.ensures.0 c.if-not-is_in_scope.false)

pub returns : goal.returns
returns c =
    ask_ends (core_of c.args.self) (locals_of c.args.around.now) c.list-cell-items.result.now c.loop-cell.cell-index c.loop-cell.invariant c.loop-cell-test.false c.args.ask.now
    c.list-cell-items.ensures.all c.list-cell-items.ensures.some c.list-cell-items.ensures.bounded
