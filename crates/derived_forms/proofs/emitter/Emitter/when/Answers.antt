use Rattle.std.proofs.Common.{◌+◌, ◌*◌, ◌∷◌, List, length, ap, ◌∙◌, arith}
use Rattle.std.proofs.lemmas.List.{length-append}
use Rattle.expansion_laws.specs.SymbolicAgents.{symbolic_size}
use Rattle.expansion_laws.specs.Table.{always, when}
use Rattle.derived_forms.specs.declared.flat_node.FlatNode.{FlatNode}
use Rattle.derived_forms.specs.declared.flat_node.FlatNode.TheVariants as flat_node
use Rattle.derived_forms.specs.Emitters.{emitted_nodes}
use Rattle.derived_forms.specs.FlatNodes.{flat_nodes}
use Rattle.derived_forms.proofs.Faults.{handed_on}
use Rattle.derived_forms.proofs.FlatLists.{length-flat_nodes}
use Rattle.derived_forms.proofs.DerivedForms.{starting, starting_built}
use Rattle.derived_forms.proofs.emitter.Emitter.when.Goals as goal

pub returns-in_err-check_room-clause-fault : goal.returns-in_err-check_room-clause-fault
returns-in_err-check_room-clause-fault c = λ a rest e.
    let first = c.in_ok-body.ensures.first a rest e in
    let taken = ap length first.0 in
    let left = ap length first.1 in
    let long = length-flat_nodes a in
    let counted = c.len.ensures in
    handed_on c.from_residual-in_err-check_room.result c.in_err-check_room.field-0.0 (length (emitted_nodes c.take_first.new.self) + (2 * c.len.result + 12)) (symbolic_size (when c.args.binder c.args.ask.now a) + length rest)
    c.from_residual-in_err-check_room.ensures.1 (omega arith) c.in_err-check_room.ensures.fault

pub returns-in_err-always-clause-fault : goal.returns-in_err-always-clause-fault
returns-in_err-always-clause-fault c = λ a rest e.
    let first = c.in_ok-body.ensures.first a rest e in
    let here = starting_built c.args.binder c.args.ask.now a rest c.in_ok-body.body.items (emitted_nodes c.take_first.new.self) (emitted_nodes c.put_start.new.self) first.0 first.1 c.in_ok-put_start.ensures in
    handed_on c.from_residual-in_err-always.result c.in_err-always.field-0.0 (symbolic_size (always (starting c.args.binder c.args.ask.now a)) + length rest) (symbolic_size (when c.args.binder c.args.ask.now a) + length rest)
    c.from_residual-in_err-always.ensures.1 (omega arith) (c.in_err-always.ensures.fault (starting c.args.binder c.args.ask.now a) rest here)

pub returns-in_err-add-clause-fault : goal.returns-in_err-add-clause-fault
returns-in_err-add-clause-fault c = λ a rest e.
    let first = c.in_ok-body.ensures.first a rest e in
    let here = starting_built c.args.binder c.args.ask.now a rest c.in_ok-body.body.items (emitted_nodes c.take_first.new.self) (emitted_nodes c.put_start.new.self) first.0 first.1 c.in_ok-put_start.ensures in
    let long = ap length (c.in_ok-always.ensures.emitted (starting c.args.binder c.args.ask.now a) rest here) in
    let parts = length-append (flat_nodes (always (starting c.args.binder c.args.ask.now a))) rest in
    let sized = length-flat_nodes (always (starting c.args.binder c.args.ask.now a)) in
    handed_on c.from_residual-in_err-add.result c.in_err-add.field-0.0 (length (emitted_nodes c.always.new.self) + 1) (symbolic_size (when c.args.binder c.args.ask.now a) + length rest)
    c.from_residual-in_err-add.ensures.1 (omega arith) c.in_err-add.ensures.fault

pub returns-clause-emitted : goal.returns-clause-emitted
returns-clause-emitted c = λ a rest e.
    let first = c.in_ok-body.ensures.first a rest e in
    let here = starting_built c.args.binder c.args.ask.now a rest c.in_ok-body.body.items (emitted_nodes c.take_first.new.self) (emitted_nodes c.put_start.new.self) first.0 first.1 c.in_ok-put_start.ensures in
    c.in_ok-add.ensures.added ∙ ap (λ (l : List FlatNode). flat_node.New c.args.binder ∷ l) (c.in_ok-always.ensures.emitted (starting c.args.binder c.args.ask.now a) rest here)
