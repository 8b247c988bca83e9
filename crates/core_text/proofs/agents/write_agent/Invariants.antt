use Rattle.std.proofs.Common.{◌++◌, ◌+◌, ◌-◌, ◌*◌, length, vec_len}
use Rattle.std.specs.Prelude.{reverse}
use Rattle.agent_core.specs.Agents.{agent_at}
use Rattle.core_text.specs.CoreTexts.{agent_text}
use Rattle.core_text.proofs.Pendings.{Printed}
use Rattle.core_text.proofs.agents.write_agent.Given as goal

abbrev pub invariant-loop-next : goal.invariant-loop-next
invariant-loop-next l = Printed l.cells (l.fn.into.items ++ agent_text l.cells (agent_at l.nodes 0)) l.nodes l.at (reverse l.pending.items) l.into.items

abbrev pub decreases-loop-next : goal.decreases-loop-next
decreases-loop-next l = vec_len l.pending + 4 * (length l.nodes - l.at)
