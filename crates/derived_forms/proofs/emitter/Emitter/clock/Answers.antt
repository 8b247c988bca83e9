use Rattle.std.proofs.Common.{◌≡◌, ◌+◌, [], ◌∷◌, ◌++◌, List, length, ap, sym, ◌∙◌, arith}
use Rattle.std.proofs.lemmas.Grind.{common_steps}
use Rattle.std.proofs.lemmas.List.{append-nil, length-append}
use Rattle.expansion_laws.specs.SymbolicAgents.{symbolic_size}
use Rattle.expansion_laws.specs.Table.{clocked}
use Rattle.derived_forms.specs.declared.flat_node.FlatNode.{FlatNode}
use Rattle.derived_forms.specs.Emitters.{emitted_nodes}
use Rattle.derived_forms.specs.FlatNodes.{first_flat_node, symbolic_parts, flat_nodes}
use Rattle.derived_forms.proofs.Faults.{handed_on}
use Rattle.derived_forms.proofs.Backwards.{back_start, back_step, back_end}
use Rattle.derived_forms.proofs.Clocked.{on_clock, parts_shorter}
use Rattle.derived_forms.proofs.FlatLists.{flat_nodes-split, length-flat_nodes}
use Rattle.derived_forms.proofs.emitter.Emitter.clock.Goals as goal

pub loop-flat_node-init : goal.loop-flat_node-init
loop-flat_node-init c = record {
  room = let e = ap length c.in_ok-body.ensures.all in let f = length-append c.in_ok-body.body.items (emitted_nodes c.take_first.new.self) in let h = c.requires in omega arith;
  back = λ a rest e.
      let taken = c.in_ok-body.ensures.first a rest e in
      back_start symbolic_parts flat_nodes first_flat_node (on_clock c.args.binder c.args.ask.now) flat_nodes-split (a ∷ []) rest c.in_ok-body.body.items (emitted_nodes c.take_first.new.self) (taken.0 ∙ sym (append-nil (flat_nodes a))) taken.1;
}

pub loop-flat_node-preserved : goal.loop-flat_node-preserved
loop-flat_node-preserved c = record {
  room = c.in_ok-put_clocked.ensures.room;
  back = λ a rest e.
      let b = back_step symbolic_parts flat_nodes first_flat_node (on_clock c.args.binder c.args.ask.now) flat_nodes-split (a ∷ []) rest c.loop-flat_node.body.items c.pop.new.self.items c.in-Some.flat_node (emitted_nodes c.loop-flat_node.self) c.in-Some.ensures.items (c.loop-flat_node.invariant.back a rest e) in
      b.next (emitted_nodes c.put_clocked.new.self) (c.in_ok-put_clocked.ensures.emitted b.tree b.later b.node b.parts_made);
}

pub returns-in_err-put_clocked-clause-fault : goal.returns-in_err-put_clocked-clause-fault
returns-in_err-put_clocked-clause-fault c = λ a rest e.
    let b = back_step symbolic_parts flat_nodes first_flat_node (on_clock c.args.binder c.args.ask.now) flat_nodes-split (a ∷ []) rest c.loop-flat_node.body.items c.pop.new.self.items c.in-Some.flat_node (emitted_nodes c.loop-flat_node.self) c.in-Some.ensures.items (c.loop-flat_node.invariant.back a rest e) in
    let fits = b.fits (parts_shorter c.args.binder c.args.ask.now) in
    let tree = length-flat_nodes (clocked c.args.binder c.args.ask.now b.tree) in
    let whole = length-flat_nodes (clocked c.args.binder c.args.ask.now a) in
    let one = ap length (append-nil (on_clock c.args.binder c.args.ask.now a)) in
    handed_on c.from_residual-in_err-put_clocked.result c.in_err-put_clocked.field-0.0 (symbolic_size (clocked c.args.binder c.args.ask.now b.tree) + length b.later) (symbolic_size (clocked c.args.binder c.args.ask.now a) + length rest)
    c.from_residual-in_err-put_clocked.ensures.1 (omega arith) (c.in_err-put_clocked.ensures.fault b.tree b.later b.node b.parts_made)

pub returns-clause-emitted : goal.returns-clause-emitted
returns-clause-emitted c = λ a rest e.
    let none : c.loop-flat_node.body.items ≡ [] = grind (arith, common_steps) in
    back_end symbolic_parts flat_nodes (on_clock c.args.binder c.args.ask.now) (a ∷ []) rest c.loop-flat_node.body.items (emitted_nodes c.loop-flat_node.self) none (c.loop-flat_node.invariant.back a rest e)
    ∙ ap (λ (l : List FlatNode). l ++ rest) (append-nil (on_clock c.args.binder c.args.ask.now a))
