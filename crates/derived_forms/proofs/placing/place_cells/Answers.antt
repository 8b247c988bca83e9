use Rattle.std.proofs.Common.{◌≡◌, [], ◌∷◌, List, length, ap, sym, refl, ◌∙◌, subst, arith}
use Rattle.std.specs.Prelude.{reverse}
use Rattle.std.proofs.lemmas.Grind.{common_steps}
use Rattle.std.proofs.lemmas.List.{length_push}
use Rattle.derived_forms.specs.declared.flat_node.FlatNode.{FlatNode}
use Rattle.derived_forms.specs.declared.placing.Scope.{Scope}
use Rattle.derived_forms.proofs.Stacks.{reverse_push}
use Rattle.derived_forms.proofs.PlacedWorks.{IsPlaced, no_scopes, own_cells_le, place_start, place_step, place_end}
use Rattle.derived_forms.proofs.placing.place_cells.Goals as goal

pub loop-flat_node-init : goal.loop-flat_node-init
loop-flat_node-init c =
    let none = ap length c.new-placed.ensures.items in record {
      few = omega arith;
      all = omega arith;
      done = λ d e.
          let s : Scope = record { placed = c.new.result; kept = c.new-2.result; next = c.args.declared } in
          let P : List FlatNode → Type 0 = λ placed. IsPlaced d c.args.declared (reverse c.args.emitted.items) placed s in
          subst P (sym c.new-placed.ensures.items) (place_start d c.args.declared (reverse c.args.emitted.items) s e (no_scopes s c.new.ensures.items c.new-2.ensures.items) refl);
    }

pub loop-flat_node-preserved : goal.loop-flat_node-preserved
loop-flat_node-preserved c =
    let few = c.loop-flat_node.invariant.few in
    let all = c.loop-flat_node.invariant.all in
    let pushed = ap length c.in_ok-push.ensures.items ∙ length_push c.loop-flat_node.placed.items c.in_ok-place.field-0 in
    let popped = ap length c.in-Some.ensures.items ∙ length_push c.pop.new.self.items c.in-Some.flat_node in
    let own = own_cells_le c.in-Some.flat_node in
    let next = c.in_ok-place.ensures.next in record {
      few = omega arith;
      all = omega arith;
      done = λ d e.
          let more : reverse c.loop-flat_node.emitted.items ≡ c.in-Some.flat_node ∷ reverse c.pop.new.self.items = ap reverse c.in-Some.ensures.items ∙ reverse_push c.pop.new.self.items c.in-Some.flat_node in
          let s = place_step d c.args.declared c.in-Some.flat_node (reverse c.loop-flat_node.emitted.items) (reverse c.pop.new.self.items) c.loop-flat_node.placed.items c.loop-flat_node.scope more (c.loop-flat_node.invariant.done d e) in
          let P : List FlatNode → Type 0 = λ placed. IsPlaced d c.args.declared (reverse c.pop.new.self.items) placed c.place.new.self in
          subst P (sym c.in_ok-push.ensures.items)
          (s.go_on c.in_ok-place.field-0 c.place.new.self (c.in_ok-place.ensures.placed s.next_work s.outer s.node s.next s.scopes) (c.in_ok-place.ensures.scopes s.next_work s.outer s.node s.next s.scopes) next);
    }

pub returns-clause-placed : goal.returns-clause-placed
returns-clause-placed c = λ d e.
    let none : c.loop-flat_node.emitted.items ≡ [] = grind (arith, common_steps) in
    place_end d c.args.declared (reverse c.loop-flat_node.emitted.items) c.loop-flat_node.placed.items c.loop-flat_node.scope (ap reverse none) (c.loop-flat_node.invariant.done d e)
