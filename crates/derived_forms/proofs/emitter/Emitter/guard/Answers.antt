use Rattle.std.proofs.Common.{◌≡◌, [], ◌++◌, List, ap, sym, ◌∙◌}
use Rattle.std.specs.List.{flat_map}
use Rattle.std.proofs.lemmas.Grind.{common_steps}
use Rattle.std.proofs.Common.{arith}
use Rattle.derived_forms.specs.declared.flat_node.FlatNode.{FlatNode}
use Rattle.derived_forms.specs.Emitters.{emitted_nodes}
use Rattle.derived_forms.specs.FlatNodes.{guarded_flat_nodes, flat_nodes}
use Rattle.derived_forms.proofs.Faults.{handed_on}
use Rattle.derived_forms.proofs.FlatLists.{guard_fits, flat_nodes-guarded}
use Rattle.derived_forms.proofs.emitter.Emitter.guard.Goals as goal

pub returns-in_err-put_guarded-clause-fault : goal.returns-in_err-put_guarded-clause-fault
returns-in_err-put_guarded-clause-fault c = λ a rest e.
    let first = c.in_ok-body.ensures.first a rest e in
    handed_on c.from_residual-in_err-put_guarded.result _ _ _ c.from_residual-in_err-put_guarded.ensures.1
    (guard_fits c.args.binder a rest (emitted_nodes c.loop-flat_node.self) c.pop.new.self.items c.loop-flat_node.body.items c.in_ok-body.body.items (emitted_nodes c.take_first.new.self) c.in-Some.flat_node c.in-Some.ensures.items c.loop-flat_node.invariant.put first.0 first.1)
    c.in_err-put_guarded.ensures.fault

pub returns-clause-emitted : goal.returns-clause-emitted
returns-clause-emitted c = λ a rest e.
    let first = c.in_ok-body.ensures.first a rest e in
    let none : c.loop-flat_node.body.items ≡ [] = grind (arith, common_steps) in
    ap (λ (l : List FlatNode). flat_map (guarded_flat_nodes c.args.binder) l ++ emitted_nodes c.loop-flat_node.self) (sym none)
    ∙ c.loop-flat_node.invariant.put
    ∙ ap (λ (l : List FlatNode). flat_map (guarded_flat_nodes c.args.binder) l ++ emitted_nodes c.take_first.new.self) first.0
    ∙ ap (λ (l : List FlatNode). flat_map (guarded_flat_nodes c.args.binder) (flat_nodes a) ++ l) first.1
    ∙ ap (λ (l : List FlatNode). l ++ rest) (sym (flat_nodes-guarded c.args.binder a))
