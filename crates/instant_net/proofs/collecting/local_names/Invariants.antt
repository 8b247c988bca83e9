use Rattle.std.proofs.Common.{All, take}
use Rattle.instant_net.specs.Programs.{root_leaves}
use Rattle.instant_net.specs.Collecting.{IsSpokenBy}
use Rattle.instant_net.specs.Covering.{RootsCovered}
use Rattle.instant_net.proofs.collecting.local_names.Given as goal

abbrev pub invariant-loop-root : goal.invariant-loop-root
invariant-loop-root l = record {
  spoken : All (IsSpokenBy l.program (root_leaves l.program l.roots l.t)) l.names.keys;
  covered : RootsCovered l.program l.t l.names.keys (take l.root-index l.roots);
}
