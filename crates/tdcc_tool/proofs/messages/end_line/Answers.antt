use Rattle.std.proofs.Common.{◌≡◌, sym, ap, ◌∙◌, append_assoc}
use Rattle.std.specs.Prelude.{string_bytes}
use Rattle.tdcc_tool.specs.Messages.{fuel_line, net_line}
use Rattle.tdcc_tool.specs.RunEnds.{end_line}
use Rattle.tdcc_tool.proofs.messages.end_line.Goals as goal

pub returns-in_ok-to_vec-in-NetFull : goal.returns-in_ok-to_vec-in-NetFull
returns-in_ok-to_vec-in-NetFull c =
    let text : string_bytes c.in_ok-line-in-NetFull.line ≡ net_line c.args.instant c.in-NetFull.leaves = simp append_assoc c.in_ok-line-in-NetFull.ensures.ok in
    c.in_ok-to_vec-in-NetFull.ensures.items_if_clones_equal (λ x y h. h) ∙ c.as_bytes.ensures.value ∙ text ∙ ap (end_line c.args.instant) (sym c.in-NetFull.is)

pub returns-in_ok-to_vec-in-FuelSpent : goal.returns-in_ok-to_vec-in-FuelSpent
returns-in_ok-to_vec-in-FuelSpent c =
    let text : string_bytes c.in_ok-line-in-FuelSpent.line ≡ fuel_line c.args.instant c.in-FuelSpent.agents = simp append_assoc c.in_ok-line-in-FuelSpent.ensures.ok in
    c.in_ok-to_vec-in-FuelSpent.ensures.items_if_clones_equal (λ x y h. h) ∙ c.as_bytes-in-FuelSpent.ensures.value ∙ text ∙ ap (end_line c.args.instant) (sym c.in-FuelSpent.is)
