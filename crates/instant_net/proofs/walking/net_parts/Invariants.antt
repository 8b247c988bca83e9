use Rattle.std.proofs.Common.{take}
use Rattle.instant_net.specs.Walks.{AreListedFor}
use Rattle.instant_net.proofs.walking.net_parts.Given as goal

abbrev pub invariant-loop-root : goal.invariant-loop-root
invariant-loop-root l = AreListedFor l.program l.cells l.t (take l.root-index l.roots) l.parts.guards.items l.parts.leaves.items
