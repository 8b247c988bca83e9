use Rattle.std.proofs.Common.{◌++◌, List, ℕ, refl, ap, ◌∙◌}
use Rattle.std.proofs.lemmas.Result.{on_ok_weaker}
use Rattle.trace_text.specs.Generated.{form_text}
use Rattle.trace_text.proofs.DrawnTexts.{after_more, rule_drawn}
use Rattle.trace_text.proofs.units.write_rule.Goals as goal

pub returns-clause-text : goal.returns-clause-text
returns-clause-text c =
    let drawn = rule_drawn c.args.draws.now.last c.draw-guard.new.self.last c.draw.new.self.last c.draw-guard.result c.draw.result c.draw-stop.result c.args.told c.draw-guard.ensures.drawn c.draw-guard.ensures.after c.draw.ensures.drawn c.draw.ensures.after c.draw-stop.ensures.drawn in
    on_ok_weaker c.write_form.result
    (λ e. e ∙ ap (λ f. c.args.into.now.items ++ form_text f c.draw-guard.result c.args.told c.draw-stop.result) c.numbered_form-form.ensures ∙ ap (λ (r : List ℕ). c.args.into.now.items ++ r) drawn)
    c.write_form.ensures

pub returns-clause-draws : goal.returns-clause-draws
returns-clause-draws c =
    let two = after_more c.args.draws.now.last c.draw-guard.new.self.last c.draw.new.self.last 1 1 2 c.draw-guard.ensures.after c.draw.ensures.after refl in
    on_ok_weaker c.write_form.result
    (λ _. after_more c.args.draws.now.last c.draw.new.self.last c.draw-stop.new.self.last 2 1 3 two c.draw-stop.ensures.after refl)
    c.write_form.ensures
