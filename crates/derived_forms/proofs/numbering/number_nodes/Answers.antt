use Rattle.std.proofs.Common.{◌≡◌, [], length, ap, sym, ◌∙◌, subst, arith}
use Rattle.std.specs.Prelude.{reverse}
use Rattle.std.proofs.lemmas.Grind.{common_steps}
use Rattle.std.proofs.lemmas.List.{length_push}
use Rattle.derived_forms.proofs.Stacks.{reverse_push}
use Rattle.derived_forms.proofs.NumberedNodes.{IsNumbered, number_start, number_step, number_end}
use Rattle.derived_forms.proofs.numbering.number_nodes.Goals as goal

pub loop-flat_node-init : goal.loop-flat_node-init
loop-flat_node-init c = record {
  few = c.requires;
  done = λ a e. number_start a c.args.flat_nodes.items (reverse c.new-ends.result.items) (reverse c.new-nodes.result.items) e (ap reverse c.new-ends.ensures.items) (ap reverse c.new-nodes.ensures.items);
}

pub loop-flat_node-preserved : goal.loop-flat_node-preserved
loop-flat_node-preserved c =
    let popped = c.in-Some.ensures.items in
    let few = c.loop-flat_node.invariant.few in
    let e = ap length popped in
    let l = length_push c.pop.new.self.items c.in-Some.flat_node in record {
      few = omega arith;
      done = λ a is.
          let s = number_step a c.len-number.result c.loop-flat_node.flat_nodes.items c.pop.new.self.items c.in-Some.flat_node (reverse c.loop-flat_node.ends.items) (reverse c.loop-flat_node.nodes.items) (c.len-number.ensures ∙ c.pop.new.self.ok.0) popped (c.loop-flat_node.invariant.done a is) in
          subst (IsNumbered a c.pop.new.self.items (reverse c.node_of.new.ends.items)) (sym (ap reverse c.in_ok-push.ensures.items ∙ reverse_push c.loop-flat_node.nodes.items c.in_ok-node_of.field-0))
          (s.next (reverse c.node_of.new.ends.items) c.in_ok-node_of.field-0 (c.in_ok-node_of.ensures.node s.agent s.later s.first s.parts) (c.in_ok-node_of.ensures.ends s.agent s.later s.first s.parts));
    }

pub returns : goal.returns
returns c = λ a e.
    let none : c.loop-flat_node.flat_nodes.items ≡ [] = grind (arith, common_steps) in
    c.reverse.ensures.items ∙ number_end a c.loop-flat_node.flat_nodes.items (reverse c.loop-flat_node.ends.items) (reverse c.loop-flat_node.nodes.items) none (c.loop-flat_node.invariant.done a e)
