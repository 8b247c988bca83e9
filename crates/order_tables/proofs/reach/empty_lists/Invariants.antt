-- As many empty lists as were counted.
use Rattle.std.proofs.Common.{◌≡◌, ℕ, [], length}
use Rattle.order_tables.specs.Reaching.{list_at}
use Rattle.order_tables.proofs.reach.empty_lists.Given as goal

abbrev pub invariant-loop : goal.invariant-loop
invariant-loop l = record { long : length l.lists.items ≡ l.counter; each : (a : ℕ) → list_at l.lists.items a ≡ [] }
