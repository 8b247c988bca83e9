use Rattle.agent_laws.proofs.Ascending.{sorted-is, sorted-only}
use Rattle.agent_laws.proofs.laws.sorted_law.Goals as goal

pub returns : goal.returns
returns c cs = (sorted-is cs, λ xs h. sorted-only cs xs h)
