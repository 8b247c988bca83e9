use Rattle.std.proofs.Common.{◌≡◌, ◌∷◌, [], rules, tests, sym, subst}
use Rattle.std.specs.Prelude.{codes, Option, IfSome, IsNone}
use Rattle.instant_core.specs.declared.step.CoreStep.{CoreStep as Step}
use Rattle.step_lines.specs.StepLines.{IsStepWith}
use Rattle.step_lines.proofs.Objects.{load_said, load_unsaid, loads_made}
use Rattle.step_lines.proofs.step_line.step_with.Goals as goal

pub returns-then-eq-clause-said : goal.returns-then-eq-clause-said
returns-then-eq-clause-said c =
    let is : c.args.action.now ≡ codes "load" = search (rules, tests) in
    let made = loads_made c.args.program.now c.args.net.now c.args.worker c.args.action.now c.args.text.now is (λ word step h. search rules) c.in_ok-word.word c.map.result c.map.ensures.cases in
    subst (λ (steps : Option Step). IfSome steps (IsStepWith c.args.program.now c.args.net.now c.args.worker c.args.action.now (c.args.text.now ∷ []))) (sym made)
    (load_said c.args.program.now c.args.net.now c.args.worker c.args.action.now c.args.text.now is c.in_ok-word.word c.in_ok-word.ensures.named)

pub returns-then-eq-clause-none : goal.returns-then-eq-clause-none
returns-then-eq-clause-none c = λ none.
    let is : c.args.action.now ≡ codes "load" = search (rules, tests) in
    let made = loads_made c.args.program.now c.args.net.now c.args.worker c.args.action.now c.args.text.now is (λ word step h. search rules) c.in_ok-word.word c.map.result c.map.ensures.cases in
    load_unsaid c.args.program.now c.args.net.now c.args.worker c.args.action.now c.args.text.now is c.in_ok-word.word c.in_ok-word.ensures.none (subst (λ (steps : Option Step). IsNone steps) made none)
