use Rattle.std.proofs.Common.{◌≡◌, ◌∷◌, rules}
use Rattle.std.specs.List.{slice_split}
use Rattle.step_lines.specs.StepLines.{is_space}
use Rattle.step_lines.proofs.Objects.{four_parts}
use Rattle.step_lines.proofs.step_line.read_step.Goals as goal

pub returns-in_default-Some-cut_at_space-2-clause-none : goal.returns-in_default-Some-cut_at_space-2-clause-none
returns-in_default-Some-cut_at_space-2-clause-none c = λ _.
    let behind = c.in_default-Some.behind.now in
    let text = c.in_default-Some-cut_at_space.text.now in
    let first : slice_split is_space c.args.line.now ≡ c.cut_at_space.result.0.now ∷ slice_split is_space behind = search rules in
    let second : slice_split is_space behind ≡ c.cut_at_space-2.result.0.now ∷ slice_split is_space text = search rules in
    let last : slice_split is_space text ≡ c.cut_at_space-in_default-Some-cut_at_space.result.0.now ∷ slice_split is_space c.in_default-Some-cut_at_space-2.field-0-1.now = search rules in
    four_parts c.args.program.now c.args.net.now c.args.line.now _ behind _ text _ c.in_default-Some-cut_at_space-2.field-0-1.now first second last
