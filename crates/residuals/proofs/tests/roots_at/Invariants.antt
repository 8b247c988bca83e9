use Rattle.std.proofs.Common.{◌≡◌, List, length}
use Rattle.token_system.specs.Stores.{StoreMap}
use Rattle.agent_core.specs.Closures.{roots}
use Rattle.residuals.specs.RootLists.{AreRootsOf}
use Rattle.residuals.proofs.tests.roots_at.Given as goal

abbrev pub invariant-loop-t : goal.invariant-loop-t
invariant-loop-t l = (closed : List StoreMap) × (length closed ≡ l.t) × AreRootsOf l.program (roots l.program closed) l.roots
