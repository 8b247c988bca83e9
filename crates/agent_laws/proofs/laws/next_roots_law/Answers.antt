use Rattle.agent_laws.proofs.NextRoots.{roots-next}
use Rattle.agent_laws.proofs.laws.next_roots_law.Goals as goal

pub returns : goal.returns
returns c p is z w = roots-next p z w is.tree
