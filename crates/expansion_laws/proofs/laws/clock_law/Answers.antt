-- The tells inside a time ask for its clock.
use Rattle.std.proofs.Common.{length}
use Rattle.expansion_laws.specs.Expanding.{symbolic_of}
use Rattle.expansion_laws.proofs.RunTells.{clock_runs}
use Rattle.expansion_laws.proofs.laws.clock_law.Goals as goal

pub returns : goal.returns
returns c s p is made program tree forms = clock_runs s tree (symbolic_of (length s.cells) 0 tree) p (c.paths_law.ensures.clocked s p is made program tree forms)
