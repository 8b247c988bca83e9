use Rattle.std.proofs.Common.{List, ℕ, ◌+◌, ◌-◌, ◌∷◌, take, drop, length, length-drop, sym, ap, ◌∙◌, arith}
use Rattle.std.specs.List.{slice_split}
use Rattle.std.proofs.lemmas.List.{take_all}
use Rattle.step_lines.specs.StepLines.{is_space}
use Rattle.step_lines.proofs.Cuts.{cut_none, cut_some}
use Rattle.step_lines.proofs.step_line.cut_at_space.Goals as goal

pub returns-in-Some : goal.returns-in-Some
returns-in-Some c =
    let text = c.args.text.now in
    let place = c.in-Some.place in
    cut_some is_space text place (sym (c.first_space.ensures.place) ∙ c.in-Some.is)
    ∙ ap (λ (behind : List ℕ). take place text ∷ slice_split is_space behind) (sym (take_all (length text - (place + 1)) (drop (place + 1) text) (omega (arith, length-drop (place + 1) text))))

pub returns-in-None : goal.returns-in-None
returns-in-None c = cut_none is_space c.args.text.now (sym (c.first_space.ensures.place) ∙ c.in-None.is)
