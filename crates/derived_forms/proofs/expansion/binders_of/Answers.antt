use Rattle.std.proofs.Common.{rules, ◌≡◌, ℕ, List, IfOk, ap, ◌∙◌, subst}
use Rattle.std.specs.Prelude.{filter_map}
use Rattle.std.proofs.lemmas.Iterator.{items_from_collect}
use Rattle.std.proofs.lemmas.Iterator.Adapters.{YieldsList-from_rev_slice}
use Rattle.std.proofs.lemmas.Iterator.Consumers.{YieldsList-from_filter_map}
use Rattle.derived_forms.specs.FlatNodes.{binder_of}
use Rattle.derived_forms.proofs.BinderLists.{binders-flat_nodes}
use Rattle.derived_forms.proofs.expansion.binders_of.Goals as goal

pub returns-clause-binders : goal.returns-clause-binders
returns-clause-binders c = λ d e.
    let found = items_from_collect c.collect.result c.collect.ensures.ran (YieldsList-from_filter_map _ binder_of (YieldsList-from_rev_slice c.args.emitted.now (cc)) (cc) (λ x r q k. search rules)) in
    subst (λ (l : List ℕ). IfOk c.collect.result (λ w. w.items ≡ l)) (ap (filter_map binder_of) e ∙ binders-flat_nodes d) found
