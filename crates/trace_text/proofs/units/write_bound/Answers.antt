use Rattle.std.proofs.Common.{◌≡◌, ◌++◌, List, ℕ, refl, ap, ◌∙◌}
use Rattle.std.specs.Prelude.{codes, decimal}
use Rattle.std.proofs.lemmas.Result.{on_ok_weaker}
use Rattle.trace_text.specs.Draws.{drawn}
use Rattle.trace_text.specs.Generated.{signal_name, number_name, bound_text}
use Rattle.trace_text.proofs.Joins.{behind}
use Rattle.trace_text.proofs.DrawnTexts.{after_more, drawn_more}
use Rattle.trace_text.proofs.units.write_bound.Goals as goal

pub returns-clause-text : goal.returns-clause-text
unfolding bound_text
returns-clause-text c =
    let x : ℕ = c.args.draws.now.last in
    let front : List ℕ = c.args.into.now.items in
    let to_signal : ℕ → List ℕ = λ guard. codes "always if " ++ signal_name guard in
    let to_number : ℕ → List ℕ = λ guard. to_signal guard ++ codes " then " ++ number_name c.args.number in
    let second : c.draw-bound.result ≡ drawn x 1 100 = c.draw-bound.ensures.drawn ∙ drawn_more x c.draw-guard.new.self.last 1 100 c.draw-guard.ensures.after in
    let number = behind (to_signal c.draw-guard.result) (codes " then ") (number_name c.args.number) front c.write_signal.new.into.items c.write_numbered.new.into.items c.in_ok-write_signal.ensures c.in_ok-write_numbered.ensures in
    on_ok_weaker c.write_numbered-2.result
    (λ e. behind (to_number c.draw-guard.result) (codes ">=") (decimal c.draw-bound.result) front c.write_numbered.new.into.items c.write_numbered-2.new.into.items number e
    ∙ ap (λ guard. front ++ (to_number guard ++ codes ">=" ++ decimal c.draw-bound.result)) c.draw-guard.ensures.drawn
    ∙ ap (λ bound. front ++ (to_number (drawn x 0 32) ++ codes ">=" ++ decimal bound)) second)
    c.write_numbered-2.ensures

pub returns-clause-draws : goal.returns-clause-draws
returns-clause-draws c =
    on_ok_weaker c.write_numbered-2.result
    (λ _. after_more c.args.draws.now.last c.draw-guard.new.self.last c.draw-bound.new.self.last 1 1 2 c.draw-guard.ensures.after c.draw-bound.ensures.after refl)
    c.write_numbered-2.ensures
