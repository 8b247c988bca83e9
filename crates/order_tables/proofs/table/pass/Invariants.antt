-- No number is greater than it has to be, and where none was raised each bound so far is met.
use Rattle.std.proofs.Common.{◌≡◌, ◌<◌, ℕ, true, false}
use Rattle.std.specs.Prelude.{slice_index_or, sum}
use Rattle.order_tables.specs.declared.bound.Bound.{Bound}
use Rattle.order_tables.specs.Bounds.{Satisfies, IsLeast}
use Rattle.order_tables.proofs.table.pass.Given as goal

abbrev pub invariant-loop-bound : goal.invariant-loop-bound
invariant-loop-bound l =
    record {
      least : IsLeast l.bounds l.table;
      kept : l.changed ≡ false → l.table ≡ l.fn.table;
      met : l.changed ≡ false → (k : ℕ) (d : Bound) → k < l.bound-index → Satisfies l.table (slice_index_or l.bounds k d);
      more : l.changed ≡ true → sum l.fn.table < sum l.table;
    }
