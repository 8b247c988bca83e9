use Rattle.std.proofs.Common.{rules, ◌∙◌}
use Rattle.std.specs.List.Sorted.{IsSorted}
use Rattle.std.proofs.lemmas.Fn.{dedup_same}
use Rattle.std.proofs.lemmas.List.Sorted.{answers_always, ranks_by}
use Rattle.agent_core.specs.declared.node.Closure.{Closure}
use Rattle.agent_core.specs.Closures.{closure_cmp}
use Rattle.agent_laws.proofs.Sorting.{closure_total}
use Rattle.residuals.proofs.Sorts.{same, dedup-sorted}
use Rattle.residuals.proofs.closures.sort.Goals as goal

pub returns : goal.returns
returns c =
    let order : IsSorted closure_cmp c.sort_by.new.self.items =
    c.in_ok-sort_by.ensures.sorted _ (ranks_by closure_total (λ (c : Closure). c)) (answers_always _ _ _ (λ f a r f' k. search rules)) in
    dedup_same _ same _ (λ x y b f' x' y' k. search rules) _ _ c.dedup_by.ensures.filtered
    ∙ dedup-sorted _ _ c.in_ok-sort_by.ensures.permutation order
