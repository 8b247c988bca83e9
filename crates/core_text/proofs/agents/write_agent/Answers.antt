use Rattle.std.proofs.Common.{◌≡◌, ◌+◌, ◌∷◌, [], ◌++◌, List, ap, sym, ◌∙◌, subst, false, length, vec_len, arith}
use Rattle.std.specs.Prelude.{reverse}
use Rattle.agent_core.specs.Agents.{agent_at}
use Rattle.core_text.specs.CoreTexts.{agent_text}
use Rattle.core_text.specs.declared.agents.Pending.{Pending}
use Rattle.core_text.specs.declared.agents.Pending.TheVariants.{Part}
use Rattle.core_text.proofs.Pendings.{Printed, printed-start, printed-node, node_left, popped, fewer}
use Rattle.core_text.proofs.agents.write_agent.Goals as goal

pub loop-next-init : goal.loop-next-init
loop-next-init c =
    let root : reverse c.push.new.self.items ≡ Part false ∷ [] = ap reverse (c.in_ok-push.ensures.items ∙ ap (λ (ps : List Pending). ps ++ Part false ∷ []) c.new-pending.ensures.items) in
    subst (λ (ps : List Pending). Printed c.args.cells.now (c.args.into.now.items ++ agent_text c.args.cells.now (agent_at c.args.nodes.now 0)) c.args.nodes.now 0 ps c.args.into.now.items) (sym root)
    (printed-start c.args.cells.now c.args.nodes.now c.args.into.now.items c.requires)

pub loop-next-smaller : goal.loop-next-smaller
loop-next-smaller c =
    let was = popped c.loop-next.pending.items c.pop.new.self.items c.in-Some.next (Part c.in-Part.as_unit) c.in-Some.ensures.items c.in-Part.is in
    let printed = subst (λ (ps : List Pending). Printed c.args.cells.now (c.args.into.now.items ++ agent_text c.args.cells.now (agent_at c.args.nodes.now 0)) c.args.nodes.now c.loop-next.at ps c.loop-next.into.items) was c.loop-next.invariant in
    let left = node_left c.args.cells.now (c.args.into.now.items ++ agent_text c.args.cells.now (agent_at c.args.nodes.now 0)) c.args.nodes.now c.loop-next.at (reverse c.pop.new.self.items) c.loop-next.into.items c.in-Part.as_unit printed in
    let before : vec_len c.loop-next.pending ≡ length c.loop-next.pending.items = omega arith in
    let popped_len : vec_len c.pop.new.self ≡ length c.pop.new.self.items = omega arith in
    let now : vec_len c.push_parts.new.pending ≡ length c.push_parts.new.pending.items = omega arith in
    let one : length c.loop-next.pending.items ≡ length c.pop.new.self.items + 1 = omega (arith, c.in-Some.ensures.len) in
    let less = fewer c.in-Part.as_unit c.index-nodes-at.result c.loop-next.pending.items c.pop.new.self.items c.push_parts.new.pending.items (length c.args.nodes.now) c.loop-next.at one c.in_ok-push_parts-in-Part.ensures left in
    omega (arith, less)

pub loop-next-preserved : goal.loop-next-preserved
loop-next-preserved c =
    let was = popped c.loop-next.pending.items c.pop.new.self.items c.in-Some.next (Part c.in-Part.as_unit) c.in-Some.ensures.items c.in-Part.is in
    let whole = c.args.into.now.items ++ agent_text c.args.cells.now (agent_at c.args.nodes.now 0) in
    let printed = subst (λ (ps : List Pending). Printed c.args.cells.now whole c.args.nodes.now c.loop-next.at ps c.loop-next.into.items) was c.loop-next.invariant in
    printed-node c.args.cells.now whole c.args.nodes.now c.loop-next.at (reverse c.pop.new.self.items) c.loop-next.into.items c.in-Part.as_unit printed c.index-nodes-at.result c.write_beginning.new.into.items (reverse c.push_parts.new.pending.items)
    c.index-nodes-at.is c.in_ok-write_beginning-in-Part.ensures c.in_ok-push_parts-in-Part.ensures
