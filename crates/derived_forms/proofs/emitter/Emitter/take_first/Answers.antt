use Rattle.std.proofs.Common.{◌≡◌, ◌+◌, ◌-◌, ◌∷◌, ◌++◌, List, length, ap, ◌∙◌, arith}
use Rattle.std.specs.Prelude.{reverse}
use Rattle.std.proofs.lemmas.List.{length_push}
use Rattle.derived_forms.specs.declared.flat_node.FlatNode.{FlatNode}
use Rattle.derived_forms.specs.Emitters.{emitted_nodes}
use Rattle.derived_forms.specs.FlatNodes.{part_count}
use Rattle.derived_forms.proofs.Stacks.{moved_over, reverse_push}
use Rattle.derived_forms.proofs.Taken.{one_left, part_count_le, still_left, all_taken}
use Rattle.derived_forms.proofs.emitter.Emitter.take_first.Goals as goal

pub loop-flat_node-init : goal.loop-flat_node-init
loop-flat_node-init c = record {
  some = omega arith;
  few = omega arith;
  all = ap (λ (l : List FlatNode). l ++ emitted_nodes c.args.self.now) c.new-body.ensures.items;
  left = λ a rest e. one_left (emitted_nodes c.args.self.now) rest a e;
}

pub returns-then-open-eq0-clause-first : goal.returns-then-open-eq0-clause-first
returns-then-open-eq0-clause-first c = λ a rest e.
    let popped = c.in-Some.ensures.items in
    let all = moved_over c.loop-flat_node.self.flat_nodes.items c.pop.new.self.items c.loop-flat_node.body.items c.push.new.self.items c.in-Some.flat_node popped c.in_ok-push.ensures.items ∙ c.loop-flat_node.invariant.all in
    let more : emitted_nodes c.loop-flat_node.self ≡ c.in-Some.flat_node ∷ reverse c.pop.new.self.items = ap reverse popped ∙ reverse_push c.pop.new.self.items c.in-Some.flat_node in
    let left = still_left c.in-Some.flat_node (reverse c.pop.new.self.items) (emitted_nodes c.loop-flat_node.self) rest c.loop-flat_node.open more (c.loop-flat_node.invariant.left a rest e) c.loop-flat_node.invariant.some in
    let none = c.if-open-eq0.true in
    let counted = c.part_count.ensures in
    all_taken c.push.new.self.items (reverse c.pop.new.self.items) (emitted_nodes c.args.self.now) rest a ((c.loop-flat_node.open - 1) + part_count c.in-Some.flat_node) all e left (omega arith)

pub loop-flat_node-preserved : goal.loop-flat_node-preserved
loop-flat_node-preserved c =
    let popped = c.in-Some.ensures.items in
    let counted = c.part_count.ensures in
    let long = ap length c.in_ok-push.ensures.items ∙ length_push c.loop-flat_node.body.items c.in-Some.flat_node in
    let most = part_count_le c.in-Some.flat_node in
    let some = c.if-open-eq0.false in
    let least = c.loop-flat_node.invariant.some in
    let few = c.loop-flat_node.invariant.few in
    let more : emitted_nodes c.loop-flat_node.self ≡ c.in-Some.flat_node ∷ reverse c.pop.new.self.items = ap reverse popped ∙ reverse_push c.pop.new.self.items c.in-Some.flat_node in
    record {
      some = omega arith;
      few = omega arith;
      all = moved_over c.loop-flat_node.self.flat_nodes.items c.pop.new.self.items c.loop-flat_node.body.items c.push.new.self.items c.in-Some.flat_node popped c.in_ok-push.ensures.items ∙ c.loop-flat_node.invariant.all;
      left = λ a rest e.
          rw counted (still_left c.in-Some.flat_node (reverse c.pop.new.self.items) (emitted_nodes c.loop-flat_node.self) rest c.loop-flat_node.open more (c.loop-flat_node.invariant.left a rest e) c.loop-flat_node.invariant.some);
    }
