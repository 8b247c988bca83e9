use Rattle.std.proofs.Common.{◌≡◌}
use Rattle.instant_net.specs.Words.{store_in}
use Rattle.run_report.proofs.AskCounts.{AreCounts}
use Rattle.run_report.proofs.reporting.report.Given as goal

abbrev pub invariant-loop-guard : goal.invariant-loop-guard
invariant-loop-guard l = record {
  asks : AreCounts l.net (store_in l.net.cells l.words) l.counts l.guard;
  ran : l.counts.ran ≡ l.initial.counts.ran;
  next : l.counts.next ≡ l.initial.counts.next;
}
