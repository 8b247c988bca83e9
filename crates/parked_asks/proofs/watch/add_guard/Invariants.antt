use Rattle.std.proofs.Common.{take}
use Rattle.parked_asks.specs.Watches.{asks_for, AddsAt}
use Rattle.parked_asks.proofs.watch.add_guard.Given as goal

abbrev pub invariant-loop-place : goal.invariant-loop-place
invariant-loop-place l = AddsAt (λ cell. asks_for cell (take l.place l.ask)) l.guard l.initial.index l.index
