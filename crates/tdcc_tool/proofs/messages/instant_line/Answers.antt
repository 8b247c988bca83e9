use Rattle.std.proofs.Common.{◌∙◌, append_assoc}
use Rattle.tdcc_tool.proofs.messages.instant_line.Goals as goal

pub returns : goal.returns
returns c = c.in_ok-to_vec.ensures.items_if_clones_equal (λ x y h. h) ∙ c.as_bytes.ensures.value ∙ simp append_assoc c.in_ok-line.ensures.ok
