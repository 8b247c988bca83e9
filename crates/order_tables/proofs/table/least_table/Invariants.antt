-- No number is greater than it has to be.
use Rattle.std.proofs.Common.{◌≡◌, ◌*◌, ◌-◌, length}
use Rattle.std.specs.Prelude.{sum}
use Rattle.order_tables.specs.Bounds.{IsLeast}
use Rattle.order_tables.proofs.table.least_table.Given as goal

abbrev pub invariant-loop : goal.invariant-loop
invariant-loop l = record { long : length l.table.items ≡ l.size; least : IsLeast l.bounds l.table.items }

abbrev pub decreases-loop : goal.decreases-loop
decreases-loop l = l.size * l.size - sum l.table.items
