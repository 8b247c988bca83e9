-- The tells inside a watching wait for the absence of its hidden signal.
use Rattle.std.proofs.Common.{length}
use Rattle.expansion_laws.specs.Expanding.{symbolic_of}
use Rattle.expansion_laws.proofs.RunTells.{hidden_stops}
use Rattle.expansion_laws.proofs.laws.watching_law.Goals as goal

pub returns : goal.returns
returns c s p made tree forms = hidden_stops s tree (symbolic_of (length s.cells) 0 tree) p (c.paths_law.ensures.guarded s p made tree forms)
