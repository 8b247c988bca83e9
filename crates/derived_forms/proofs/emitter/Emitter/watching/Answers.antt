use Rattle.std.proofs.Common.{◌+◌, ◌++◌, ◌∷◌, List, length, ap, ◌∙◌, arith}
use Rattle.std.proofs.lemmas.List.{length-append}
use Rattle.expansion_laws.specs.SymbolicAgents.{symbolic_size}
use Rattle.expansion_laws.specs.Table.{always, guarded, watching}
use Rattle.derived_forms.specs.declared.flat_node.FlatNode.{FlatNode}
use Rattle.derived_forms.specs.declared.flat_node.FlatNode.TheVariants as flat_node
use Rattle.derived_forms.specs.Emitters.{emitted_nodes}
use Rattle.derived_forms.specs.FlatNodes.{flat_nodes}
use Rattle.derived_forms.proofs.Faults.{handed_on}
use Rattle.derived_forms.proofs.FlatLists.{length-flat_nodes}
use Rattle.derived_forms.proofs.DerivedForms.{stopping, stopping_built, watching_built}
use Rattle.derived_forms.proofs.emitter.Emitter.watching.Goals as goal

pub returns-in_err-check_room-clause-fault : goal.returns-in_err-check_room-clause-fault
returns-in_err-check_room-clause-fault c = λ a rest e.
    let guarded_long = ap length (c.in_ok-guard.ensures.emitted a rest e) in
    let parts = length-append (flat_nodes (guarded c.args.binder a)) rest in
    let long = length-flat_nodes (guarded c.args.binder a) in
    handed_on c.from_residual-in_err-check_room.result c.in_err-check_room.field-0.0 (length (emitted_nodes c.guard.new.self) + 12) (symbolic_size (watching c.args.binder c.args.ask.now a) + length rest)
    c.from_residual-in_err-check_room.ensures.1 (omega arith) c.in_err-check_room.ensures.fault

pub returns-in_err-always-clause-fault : goal.returns-in_err-always-clause-fault
returns-in_err-always-clause-fault c = λ a rest e.
    let here = stopping_built c.args.binder c.args.ask.now (guarded c.args.binder a) rest (emitted_nodes c.guard.new.self) (emitted_nodes c.put_stop.new.self) (c.in_ok-guard.ensures.emitted a rest e) c.in_ok-put_stop.ensures in
    let parts = length-append (flat_nodes (guarded c.args.binder a)) rest in
    let long = length-flat_nodes (guarded c.args.binder a) in
    handed_on c.from_residual-in_err-always.result c.in_err-always.field-0.0 (symbolic_size (always (stopping c.args.binder c.args.ask.now)) + length (flat_nodes (guarded c.args.binder a) ++ rest)) (symbolic_size (watching c.args.binder c.args.ask.now a) + length rest)
    c.from_residual-in_err-always.ensures.1 (omega arith) (c.in_err-always.ensures.fault (stopping c.args.binder c.args.ask.now) (flat_nodes (guarded c.args.binder a) ++ rest) here)

pub returns-in_err-add-clause-fault : goal.returns-in_err-add-clause-fault
returns-in_err-add-clause-fault c = λ a rest e.
    let here = stopping_built c.args.binder c.args.ask.now (guarded c.args.binder a) rest (emitted_nodes c.guard.new.self) (emitted_nodes c.put_stop.new.self) (c.in_ok-guard.ensures.emitted a rest e) c.in_ok-put_stop.ensures in
    let emitted = ap length (c.in_ok-always.ensures.emitted (stopping c.args.binder c.args.ask.now) (flat_nodes (guarded c.args.binder a) ++ rest) here) in
    let parts = length-append (flat_nodes (guarded c.args.binder a)) rest in
    let long = length-flat_nodes (guarded c.args.binder a) in
    handed_on c.from_residual-in_err-add.result c.in_err-add.field-0.0 (length (emitted_nodes c.always.new.self) + 1) (symbolic_size (watching c.args.binder c.args.ask.now a) + length rest)
    c.from_residual-in_err-add.ensures.1 (omega arith) c.in_err-add.ensures.fault

pub returns-in_err-add-2-clause-fault : goal.returns-in_err-add-2-clause-fault
returns-in_err-add-2-clause-fault c = λ a rest e.
    let here = stopping_built c.args.binder c.args.ask.now (guarded c.args.binder a) rest (emitted_nodes c.guard.new.self) (emitted_nodes c.put_stop.new.self) (c.in_ok-guard.ensures.emitted a rest e) c.in_ok-put_stop.ensures in
    let emitted = ap length (c.in_ok-always.ensures.emitted (stopping c.args.binder c.args.ask.now) (flat_nodes (guarded c.args.binder a) ++ rest) here) in
    let added = ap length c.in_ok-add.ensures.added in
    let parts = length-append (flat_nodes (guarded c.args.binder a)) rest in
    let long = length-flat_nodes (guarded c.args.binder a) in
    handed_on c.from_residual-in_err-add-2.result c.in_err-add-2.field-0.0 (length (emitted_nodes c.add.new.self) + 1) (symbolic_size (watching c.args.binder c.args.ask.now a) + length rest)
    c.from_residual-in_err-add-2.ensures.1 (omega arith) c.in_err-add-2.ensures.fault

pub returns-clause-emitted : goal.returns-clause-emitted
returns-clause-emitted c = λ a rest e.
    let here = stopping_built c.args.binder c.args.ask.now (guarded c.args.binder a) rest (emitted_nodes c.guard.new.self) (emitted_nodes c.put_stop.new.self) (c.in_ok-guard.ensures.emitted a rest e) c.in_ok-put_stop.ensures in
    c.in_ok-add-2.ensures.added
    ∙ ap (λ (l : List FlatNode). flat_node.New c.args.binder ∷ l) c.in_ok-add.ensures.added
    ∙ watching_built c.args.binder c.args.ask.now (guarded c.args.binder a) rest (emitted_nodes c.always.new.self) (c.in_ok-always.ensures.emitted (stopping c.args.binder c.args.ask.now) (flat_nodes (guarded c.args.binder a) ++ rest) here)
