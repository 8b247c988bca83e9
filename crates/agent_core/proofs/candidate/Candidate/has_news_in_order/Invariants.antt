use Rattle.std.proofs.Common.{length}
use Rattle.agent_core.proofs.NewsInOrder.{Counted}
use Rattle.agent_core.proofs.candidate.Candidate.has_news_in_order.Given as goal

abbrev pub invariant-loop-node : goal.invariant-loop-node
invariant-loop-node l = Counted l.self.nodes.now l.self.declared (length l.self.cells.now) l.node-index l.next
