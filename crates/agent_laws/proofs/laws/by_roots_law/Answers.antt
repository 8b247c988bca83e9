use Rattle.std.proofs.Common.{refl}
use Rattle.agent_core.specs.Closures.{roots}
use Rattle.agent_laws.proofs.Eachs.{each_all}
use Rattle.agent_laws.proofs.Started.{IsOwn, roots-closures}
use Rattle.agent_laws.proofs.RootRests.{obs-roots}
use Rattle.agent_laws.proofs.laws.by_roots_law.Goals as goal

pub returns-clause-rests : goal.returns-clause-rests
returns-clause-rests c p is z u v = obs-roots p z u v is.tree

pub returns-clause-closures : goal.returns-clause-closures
returns-clause-closures c p is z = each_all (IsOwn p) (roots p z) (roots-closures p is z)

pub returns-clause-first : goal.returns-clause-first
returns-clause-first c p = refl
