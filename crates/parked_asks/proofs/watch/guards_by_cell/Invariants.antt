use Rattle.parked_asks.proofs.Listings.{GuardsUpto}
use Rattle.parked_asks.proofs.watch.guards_by_cell.Given as goal

abbrev pub invariant-loop-guard : goal.invariant-loop-guard
invariant-loop-guard l = GuardsUpto l.net l.guard l.index
