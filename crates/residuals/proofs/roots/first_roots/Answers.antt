use Rattle.std.proofs.Common.{[], ◌++◌, List, ◌∷◌, ap, ◌∙◌}
use Rattle.agent_core.specs.declared.node.Closure.{Closure}
use Rattle.residuals.proofs.Listed.{first-keep}
use Rattle.residuals.proofs.roots.first_roots.Goals as goal

pub make-requires-2 : goal.make-requires-2
make-requires-2 c =
    let first : Closure = record { node = 0; births = c.make.result } in
    first-keep _ _ first (c.in_ok-push.ensures.items ∙ ap (λ (cs : List Closure). cs ++ first ∷ []) c.new-once.ensures.items) c.new-2.ensures.items
