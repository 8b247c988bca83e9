use Rattle.std.proofs.Common.{◌≡◌, max, drop}
use Rattle.agent_core.specs.StrataCounts.{strata_of}
use Rattle.agent_core.proofs.levels.Levels.strata.Given as goal

abbrev pub invariant-loop-level : goal.invariant-loop-level
invariant-loop-level l = max l.strata (strata_of (drop l.level-index l.level-items)) ≡ strata_of l.level-items
