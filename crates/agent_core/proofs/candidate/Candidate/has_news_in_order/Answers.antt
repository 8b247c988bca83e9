use Rattle.std.proofs.Common.{inl, inr, length, sym, ◌∙◌, subst, ◌+◌}
use Rattle.std.proofs.lemmas.Bool.{false≢true}
use Rattle.agent_core.proofs.NewsInOrder.{Counted, Counted-begins, Counted-other, Counted-new, Counted-not, Counted-ends}
use Rattle.agent_core.proofs.candidate.Candidate.has_news_in_order.Goals as goal
use Rattle.agent_core.proofs.candidate.Candidate.has_news_in_order.Goals.{then-next-self-via-then-next-self, then-next-self-via-else-next-self+then-cell-next, in-New+else-next-self+else-cell-next, in_default}

pub loop-node-init : goal.loop-node-init
loop-node-init c = Counted-begins c.args.self.nodes.now c.args.self.declared (length c.args.self.cells.now) c.requires

pub returns : goal.returns
returns c = Counted-ends c.args.self.nodes.now c.args.self.declared (length c.args.self.cells.now) c.loop-node.node-index c.loop-node.next c.loop-node-test.false c.loop-node.invariant

pub returns-then-next-self : goal.returns-then-next-self
returns-then-next-self c =
    let not = Counted-not c.args.self.nodes.now c.args.self.declared (length c.args.self.cells.now) c.loop-node.node-index c.loop-node.next c.node-item.result
    c.in-New.cell c.in-New.body c.loop-node-test.true (sym c.node-item.is ∙ c.in-New.is) in (
      λ h. absurd (false≢true h),
      λ h. absurd (elim c.then-next-self.branch [
        | then-next-self-via-then-next-self w ↦ not (inl w.if-next-self.true) c.loop-node.invariant h
        | then-next-self-via-else-next-self+then-cell-next w ↦ not (inr w.if-cell-next.true) c.loop-node.invariant h
      ]),
    )

pub loop-node-preserved : goal.loop-node-preserved
loop-node-preserved c =
    elim c.match-node.branch [
      | in-New+else-next-self+else-cell-next w ↦ subst (Counted c.args.self.nodes.now c.args.self.declared (length c.args.self.cells.now) (c.loop-node.node-index + 1)) (sym w.next-is)
          (Counted-new c.args.self.nodes.now c.args.self.declared (length c.args.self.cells.now) c.loop-node.node-index c.loop-node.next c.node-item.result
          w.in-New.cell w.in-New.body c.loop-node-test.true (sym c.node-item.is ∙ w.in-New.is) w.if-cell-next.false w.if-next-self.false c.loop-node.invariant)
      | in_default w ↦ subst (Counted c.args.self.nodes.now c.args.self.declared (length c.args.self.cells.now) (c.loop-node.node-index + 1)) (sym w.next-is)
          (Counted-other c.args.self.nodes.now c.args.self.declared (length c.args.self.cells.now) c.loop-node.node-index c.loop-node.next c.node-item.result
          c.loop-node-test.true (λ cell body e. w.in_default.not-New cell body (c.node-item.is ∙ e)) c.loop-node.invariant)
    ]
